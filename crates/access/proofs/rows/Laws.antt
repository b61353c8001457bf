-- A walk by an iterator, in the terms of the bytes that it began with.
use Rattle.std.proofs.Common.{ℕ, ◌≡◌, ◌+◌, List, drop, Some, sym, ap, ◌∙◌}
use Rattle.access.specs.row.Row.{Row, Stepped}
use Rattle.access.specs.row.Begins.{Begins}
use Rattle.access.specs.declared.rows.Rows.{Rows}
use Rattle.access.specs.declared.rows.Placed.{Placed}
use Rattle.access.specs.rows.Rows.{GivesRow}

pub row_at : (s z : List ℕ) (p first : ℕ) → s ≡ z → p ≡ first → Row (drop first z) → Row (drop p s)
row_at s z p first e f r = rw (e, f) r

-- a block b of z, given from s
pub record Gave (z : List ℕ) (s t : Rows) (b : Placed) : Type 0 where
  pub at : s.at ≡ b.at
  pub stepped : Stepped z b.at b.size
  pub same : t.bytes.now ≡ z
  pub next : t.at ≡ b.at + b.size

pub gave : (z : List ℕ) (s t : Rows) (b : Placed) → s.bytes.now ≡ z → GivesRow s (Some b) t → Gave z s t b
gave z s t b e g = record { at = sym g.0; stepped = rw (e, ← g.0) at g.2; same = g.3 ∙ e; next = g.4 ∙ ap (λ (k : ℕ). k + b.size) (sym g.0) }

pub row_next : (z : List ℕ) (s t : Rows) (b : Placed) → Gave z s t b → Row (drop t.at z)
row_next z s t b g = rw g.next g.stepped.next

-- where a walk from `first` on begins
pub begun : (z : List ℕ) (first : ℕ) (s r : Rows) → s ≡ r → r.bytes.now ≡ z → r.at ≡ first → (s.bytes.now ≡ z) × (s.at ≡ first)
begun z first s r e b a = (ap (λ (x : Rows). x.bytes.now) e ∙ b, ap (λ (x : Rows). x.at) e ∙ a)

-- where a walk over a zone's blocks does
pub begun-zone : (z : List ℕ) (s r : Rows) → s ≡ r → r.bytes.now ≡ z → Begins z r.at → (s.bytes.now ≡ z) × Begins z s.at
begun-zone z s r e b n = (ap (λ (x : Rows). x.bytes.now) e ∙ b, rw e n)
