-- What size, read and view come to, in their own terms.
use mathlib.Core.Path.{◌≡◌, sym, ap, ◌∙◌}
use mathlib.Core.Bool.{Bool, true, false, cond}
use mathlib.Core.List.{List, [], ◌++◌}
use Prim.Native.Nat.{ℕ, ◌+◌, ◌≤◌}
use native.Mathlib.Omega.{arith}
use native.Mathlib.Decide.{ℕ_discrete}
use lib.ListN.{length, take, drop, length-take, length-drop}
use lib.Seq.{take_at, drop_at}
use lib.Dec.{eqb, leb}
use borrow.Author.Tests.{ne_eqb, le-leb}
use Rattle.bigendian.specs.BigEndian.{Bytes, slice}
use Rattle.format.specs.WellFormed.{zone_of, length_field}
use Rattle.calls.specs.Calls.{Target, Answer, size, read, view, told}
use Rattle.zone.specs.Call.{call}
use Rattle.access.specs.locate.Locate.{target_place, target_data, block_number}
use Rattle.access.proofs.locate.Data.{target_fits, target-part}
use Rattle.stretch.specs.Stretch.{part_number, stretch_number, view_start, view_length}
use Rattle.stretch.proofs.Answers.{accepted, size_is, read_is, view-is}

module _ (t : Target) (i n : ℕ) (s : List ℕ) where
  abbrev d : List ℕ
  d = target_data t (zone_of s)

  abbrev viewed : List ℕ
  viewed = (call (view t i n) s).answer.bytes

  part-long : (have : ℕ) → stretch_number t i n have s ≡ 0 → length (take n (drop i d)) ≡ n
  part-long have k = omega (arith, length-take n (drop i d), length-drop i d, (accepted s t i n have k).room)

  -- ---- read

  module _ (buf : List ℕ) where
    abbrev answer : Answer
    answer = (call (read t i n buf) s).answer

    abbrev number : ℕ
    number = stretch_number t i n (length buf) s

    is_number : answer.number ≡ number
    is_number = ap (λ (a : Answer). a.number) (read_is t i n s buf)

    is-bytes : answer.bytes ≡ cond (eqb number 0) (take n (drop i d) ++ drop n buf) buf
    is-bytes = ap (λ (a : Answer). a.bytes) (read_is t i n s buf)

    -- "read leaves its later bytes"
    pub read-leaves-later : drop n answer.bytes ≡ drop n buf
    read-leaves-later = ap (drop n) is-bytes ∙ go (ℕ_discrete number 0)
      where
        go : Dec (number ≡ 0) → drop n (cond (eqb number 0) (take n (drop i d) ++ drop n buf) buf) ≡ drop n buf
        go (yes k) = rw k (drop_at (take n (drop i d)) (drop n buf) n (part-long (length buf) k))
        go (no k) = rw (ne_eqb number 0 k)

    -- a refused read leaves the second buffer
    pub read-refused : (answer.number ≡ 0 → ⊥) → answer.bytes ≡ buf
    read-refused k = is-bytes ∙ (rw (ne_eqb number 0 (λ e. k (is_number ∙ e))))

    -- "read of that stretch into a long enough buffer gives it"; a view is empty where that read is refused
    pub view-as-read : n ≤ length buf → viewed ≡ cond (eqb answer.number 0) (take n answer.bytes) []
    unfolding stretch_number part_number
    view-as-read l =
        ap (λ (a : Answer). a.bytes) (view-is t i n s) ∙ go (ℕ_discrete number 0)
        ∙ sym (ap (λ (a : Answer). cond (eqb a.number 0) (take n a.bytes) []) (read_is t i n s buf))
      where
        same : stretch_number t i n n s ≡ number
        same = rw (le-leb n (length buf) l, le-leb n n (omega arith))

        go : Dec (number ≡ 0) → cond (eqb (stretch_number t i n n s) 0) (take n (drop i d)) [] ≡ cond (eqb number 0) (take n (cond (eqb number 0) (take n (drop i d) ++ drop n buf) buf)) []
        go (yes k) = rw (same, k) (sym (take_at (take n (drop i d)) (drop n buf) n (part-long (length buf) k)))
        go (no k) = rw (same, ne_eqb number 0 k)

  -- ---- view

  -- the view is that part of the buffer
  pub view-there : Bytes s → slice s (view_start t i n s) (view_length t i n s) ≡ viewed
  unfolding view_start view_length
  view-there y = go (ℕ_discrete (stretch_number t i n n s) 0) ∙ sym (ap (λ (a : Answer). a.bytes) (view-is t i n s))
    where
      go : Dec (stretch_number t i n n s ≡ 0)
          → slice s (cond (eqb (stretch_number t i n n s) 0) (target_place t (zone_of s) + i) 0) (cond (eqb (stretch_number t i n n s) 0) n 0) ≡ cond (eqb (stretch_number t i n n s) 0) (take n (drop i d)) []
      go (yes k) = let c = accepted s t i n n k in rw k (target-part s y c.well t c.live i n c.room)
      go (no k) = rw (ne_eqb (stretch_number t i n n s) 0 k)

  -- it ends within the zone
  pub view-within : Bytes s → view_start t i n s + view_length t i n s ≤ length_field s
  unfolding view_start view_length
  view-within y = go (ℕ_discrete (stretch_number t i n n s) 0)
    where
      go : Dec (stretch_number t i n n s ≡ 0) → cond (eqb (stretch_number t i n n s) 0) (target_place t (zone_of s) + i) 0 + cond (eqb (stretch_number t i n n s) 0) n 0 ≤ length_field s
      go (yes k) = let c = accepted s t i n n k in rw k (omega (arith, c.room, target_fits s y c.well t c.live))
      go (no k) = rw (ne_eqb (stretch_number t i n n s) 0 k) (omega arith)

  -- ---- size

  -- where the data size is k, the stretches up to k are seen, and no others
  pub size-bounds : (k : ℕ) → (call (size t) s).answer ≡ told 0 k → length viewed ≡ cond (leb (i + n) k) n 0
  unfolding stretch_number part_number
  size-bounds k e =
      let b : block_number t s ≡ 0 = ap (λ (a : Answer). a.number) (sym (size_is t s) ∙ e) in
      let c : cond (eqb (block_number t s) 0) (length d) 0 ≡ k = ap (λ (a : Answer). a.value) (sym (size_is t s) ∙ e) in
      let f : length d ≡ k = rw b at c in
      ap (λ (a : Answer). length a.bytes) (view-is t i n s) ∙ go b (leb (i + n) k) (ap (leb (i + n)) f)
    where
      go : block_number t s ≡ 0 → (u : Bool) → leb (i + n) (length d) ≡ u → length (cond (eqb (stretch_number t i n n s) 0) (take n (drop i d)) []) ≡ cond u n 0
      go b true f =
          let z : stretch_number t i n n s ≡ 0 = rw (b, f, le-leb n n (omega arith)) in
          rw z (part-long n z)
      go b false f = let z : stretch_number t i n n s ≡ 8 = rw (b, f) in rw z
