-- The laws that the walker's proofs cite.
use mathlib.Core.Path.{◌≡◌, refl, ap₂, sym, ◌∙◌}
use mathlib.Core.Bool.{true}
use Rattle.std.specs.Prelude.{Option, Some, None, Result, Ok, Err}
use Rattle.std.specs.Result.{IsErrAnd}
use Rattle.calls.specs.declared.Refusal.{Refusal}
use mathlib.Core.List.{List}
use Prim.Native.Nat.{ℕ, ◌+◌, ◌≤◌, max}
use native.Mathlib.Omega.{arith}
use borrow.Author.Tests.{eq-eqb, ne_eqb}
use lib.ListN.{length, get_or, drop}
use mir.Val.{Fits}
use mir.Syntax.{w8}
use Rattle.block_type.specs.Types.{type_code}
use Rattle.block_type.specs.declared.BlockType.{BlockType}
use Rattle.block_type.specs.Limits.{longest_zone}
use Rattle.bigendian.specs.BigEndian.{Bytes}
use Rattle.format.specs.WellFormed.{type_of, well_formed, first_field, zone_of}
use Rattle.structure.specs.Structure.{Block, fixed, cell, decode, start, code}
use Rattle.bay.specs.Bay.{free, held}
use Rattle.structure.proofs.Table.{whole, start_is}
use Rattle.access.specs.row.Row.{blocks_of, Stepped, block_at}
use Rattle.access.proofs.row.Laws.{row-end}
use Rattle.access.proofs.row.Zone.{blocks-are}
use Rattle.zone.specs.Walker.{describe}
use Rattle.access.specs.Checked.{Opened, IsIll}
use Rattle.access.specs.declared.opened.Zone.{Zone}
use Rattle.access.proofs.Checked.{by_type}
use Rattle.inspect.specs.walker.Found.{size_in, FoundFrom, Found, found, Seen}
use Rattle.inspect.specs.walker.Told.{described_of}
use Rattle.inspect.specs.declared.walker.Described.{Described}
use Rattle.structure.proofs.IsZone.{whole_of}

-- ---- the search

code-kind : (b : Block) → code b ≡ code b
code-kind (cell (free n)) = refl
code-kind (fixed d) = refl
code-kind (cell (held e)) = refl

module _ (z : List ℕ) (first at p : ℕ) where
  pub describe-here : (n : ℕ) (k : BlockType) → Stepped z p n → p ≡ at → type_code k ≡ type_of (drop at z)
      → describe at p (blocks_of (drop p z)) ≡ describe at first (blocks_of (drop first z)) → FoundFrom z first at (Some (record { kind = k; offset = at; size = n }))
  unfolding describe
  describe-here n k s e ek inv = record {
    is = sym (rw (s.blocks, eq-eqb at p (sym e), code-kind (block_at z p), s.kind, s.bytes, ek, e)) ∙ inv;
    ends = omega (arith, s.fits);
  }

  pub describe-step : (n : ℕ) → Stepped z p n → (p ≡ at → ⊥) → describe at p (blocks_of (drop p z)) ≡ describe at first (blocks_of (drop first z))
      → describe at (p + n) (blocks_of (drop (p + n) z)) ≡ describe at first (blocks_of (drop first z))
  unfolding describe
  describe-step n s ne inv = sym (rw (s.blocks, ne_eqb at p (λ e. ne (sym e)), s.bytes)) ∙ inv

pub describe-end : (z : List ℕ) (first at p : ℕ) → length z ≤ p → describe at p (blocks_of (drop p z)) ≡ describe at first (blocks_of (drop first z)) → FoundFrom z first at None
unfolding describe
describe-end z first at p l inv = record { is = sym (rw (row-end z p l)) ∙ inv; ends = omega arith }

pub find-done : (z : Zone) (at : ℕ) (o : Option Described) → FoundFrom z.bytes.now (first_field z.bytes.now) at o → Found z.bytes.now at o × (at + size_in o ≤ max at longest_zone)
find-done z at o f = let w = whole_of z.bytes.now (by_type z) in (found f, omega (arith, f.ends, w.all, w.limit))

-- ---- the step

-- the block that the walk finds is the one of the structure
found-is : (s : List ℕ) (at : ℕ) (o : Option Described) → Bytes s → well_formed s ≡ true → Found (zone_of s) at o → described_of o ≡ describe at (start (decode s)) (decode s).blocks
unfolding decode
found-is s at o y h (found f) =
    let w = whole s y h in
    f.is ∙ ap₂ (describe at) (sym (start_is (zone_of s) w)) (blocks-are (zone_of s) (first_field (zone_of s)) refl)

module _ (s : List ℕ) (at : ℕ) where
  pub see-ill : (r : Result (Option Described) Refusal) (d : Refusal) → IsErrAnd r (λ y. y ≡ d) → IsIll s d → Seen s at r
  see-ill (Ok o) d k i = absurd k
  see-ill (Err e) d k i =
      let q : e ≡ d = k in
      let z : at + 0 ≡ at = omega arith in
      record { is = rw (q, i.refusal_is, i.ill, z); ends = omega arith }

  pub see-done : (z : Zone) (o : Option Described) → Opened s z → ((i : ℕ) → Fits w8 (get_or s i 0)) → Found z.bytes.now at o → at + size_in o ≤ max at longest_zone → Seen s at (Ok o)
  see-done z o p y f e =
      let h = p.has_zone in
      let q : zone_of s ≡ z.bytes.now = (rw h.is_len at p.there) in
      let d = found-is s at o (λ j. (y j).fits) h.well (rw q f) in
      record { is = rw (h.well, ← d); ends = e }
