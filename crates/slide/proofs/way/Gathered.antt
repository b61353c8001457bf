-- The held blocks of a bay gathered, block by block.
use mathlib.Core.Path.{◌≡◌, refl, sym, ◌∙◌}
use mathlib.Core.List.{List, ◌∷◌, ◌++◌, append_assoc, append-nil}
use Prim.Native.Nat.{ℕ, ◌+◌, ◌%◌, ◌<◌, ◌≤◌, ◌-◌}
use native.Mathlib.Omega.{arith}
use lib.ListN.{length, take, drop, length-take, length-drop}
use Rattle.bigendian.specs.BigEndian.{slice, overwrite}
use Rattle.bigendian.proofs.Overwrite.{write-length, take-write, drop-write, write-still}
use Rattle.block_type.specs.Limits.{free_code}
use Rattle.format.specs.WellFormed.{type_of}
use Rattle.kinds.proofs.KindLaws.{facts}
use Rattle.bay.specs.Bay.{Cell, free, held, bay_sum, cell_code}
use Rattle.bay.specs.Bytes.{encode_cell}
use Rattle.bay.specs.Sound.{bytes_of, cells_of, cell_at, Stepped, IsBay}
use Rattle.bay.proofs.BayBytes.{bay-end}
use Rattle.slide.specs.declared.way.Front.{Front}
use Rattle.slide.specs.way.Gathered.{held_bytes, Passed, PassedOne, Gathered}
use Rattle.slide.proofs.Cases.{free-sum, held-sum}

free-head : (c : Cell) (cs : List Cell) → cell_code c ≡ free_code → held_bytes (c ∷ cs) ≡ held_bytes cs
free-head (free n) cs e = refl
free-head (held x) cs e = let q : ⊥ = omega (arith, (facts x).used) in absurd q

held-head : (c : Cell) (cs : List Cell) → (cell_code c ≡ free_code → ⊥) → held_bytes (c ∷ cs) ≡ encode_cell c ++ held_bytes cs
unfolding bytes_of
held-head (free n) cs e = absurd (e refl)
held-head (held x) cs e = refl

module _ (s : List ℕ) (to at n k : ℕ) (h : at < length s) (le : to ≤ at) (q : to % 4 ≡ 0) (st : Stepped s at n) (ek : k ≡ type_of (drop at s)) where
  abbrev rest : List Cell
  rest = cells_of (drop (at + n) s)

  kc : cell_code (cell_at s at) ≡ k
  kc = st.code ∙ sym ek

  pub keep-free : k ≡ free_code → Passed s to at n s to
  keep-free z = record {
    bound = omega arith;
    four = q;
    long = refl;
    next = st.next;
    front = rw (st.cells, free-head (cell_at s at) rest (kc ∙ z));
    sum = (let e : bay_sum (cells_of (drop at s)) ≡ n + bay_sum rest = rw st.cells (free-sum (cell_at s at) rest n (kc ∙ z) st.bytes) in omega arith);
  }

  pub keep-used : (k ≡ free_code → ⊥) → (s' : List ℕ) → s' ≡ overwrite s to (slice s at n) → Passed s to at n s' (to + n)
  keep-used z s' e =
      let lc : length (slice s at n) ≡ n = simp (length-take, length-drop) (omega (arith, st.fits)) in
      let d : drop (at + n) s' ≡ drop (at + n) s = rw e (drop-write s to (at + n) (slice s at n) (omega arith) st.fits) in
      let t : take (to + n) s' ≡ take to s ++ slice s at n = rw e (take-write s to n (slice s at n) (omega arith) lc) in
      let nz : (cell_code (cell_at s at) ≡ free_code → ⊥) = λ x. z (sym kc ∙ x) in
      let u : held_bytes (cells_of (drop at s)) ≡ slice s at n ++ held_bytes rest = rw (st.cells, held-head (cell_at s at) rest nz, st.image) in
      let f : bay_sum (cells_of (drop at s)) ≡ bay_sum rest = rw st.cells (held-sum (cell_at s at) rest nz) in
      record {
        bound = omega arith;
        four = omega (arith, st.four);
        long = rw e (write-length s (slice s at n) to (omega (arith, st.fits)));
        next = rw d st.next;
        front = rw (d, t, u) (append_assoc (take to s) (slice s at n) (held_bytes rest));
        sum = rw d (omega arith);
      }

  pub keep-still : (k ≡ free_code → ⊥) → at ≤ to → Passed s to at n s (to + n)
  keep-still z g =
      let e : to ≡ at = omega arith in
      keep-used z s (rw e (write-still s at n st.fits))

-- ---- the walk

-- of the blocks of s₀ from `first` on those that have been passed stand in s from `from` up to `to`, and the others from `at` on
pub record UnderWay (s₀ : List ℕ) (from first : ℕ) (s : List ℕ) (to at : ℕ) : Type 0 where
  pub order : to ≤ at
  pub within : at ≤ length s
  pub four_to : to % 4 ≡ 0
  pub four_at : at % 4 ≡ 0
  pub long : length s ≡ length s₀
  pub rest : IsBay (drop at s)
  pub front : take to s ++ held_bytes (cells_of (drop at s)) ≡ take from s₀ ++ held_bytes (cells_of (drop first s₀))
  pub sum : to + first + bay_sum (cells_of (drop first s₀)) ≡ from + at + bay_sum (cells_of (drop at s))

pub way-start : (s : List ℕ) (from first : ℕ) → from ≤ first → first ≤ length s → from % 4 ≡ 0 → first % 4 ≡ 0 → IsBay (drop first s) → UnderWay s from first s from first
way-start s from first l u f g b = record { order = l; within = u; four_to = f; four_at = g; long = refl; rest = b; front = refl; sum = refl }

pub front-start : (s : List ℕ) → IsBay s → UnderWay s 0 0 s 0 0
front-start s b = way-start s 0 0 (omega arith) (omega arith) refl refl b

module _ (s₀ s : List ℕ) (from first : ℕ) (f : Front) (u : UnderWay s₀ from first s f.to f.at) where
  pub way_next : (s' : List ℕ) (g : Front) → PassedOne s f s' g → UnderWay s₀ from first s' g.to g.at
  way_next s' g p = rw p.next (record {
    order = p.passed.bound;
    within = omega (arith, p.step.fits, p.passed.long);
    four_to = p.passed.four;
    four_at = omega (arith, u.four_at, p.step.four);
    long = p.passed.long ∙ u.long;
    rest = p.passed.next;
    front = p.passed.front ∙ u.front;
    sum = omega (arith, u.sum, p.passed.sum);
  })

  pub way-nearer : (s' : List ℕ) (g : Front) → PassedOne s f s' g → length s' - g.at < length s - f.at
  way-nearer s' g p = omega (arith, p.next, p.step.low, p.step.fits, p.passed.long)

  pub gather-done : length s ≤ f.at → first ≤ length s₀ → Gathered s₀ from first s f.to
  unfolding bytes_of
  gather-done h l =
      record {
        bound = omega (arith, u.order, u.within);
        four = omega (arith, u.four_to, u.four_at, u.within);
        long = u.long;
        front = sym (append-nil (take f.to s)) ∙ (rw (bay-end s f.at h) at u.front);
        sum = omega (arith, rw (bay-end s f.at h) at u.sum, u.long, u.within);
      }
