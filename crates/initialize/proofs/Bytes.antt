-- The bytes written are those of the structure that initialize is to leave.
use mathlib.Core.Path.{◌≡◌, refl, sym, ap, ap₂, ◌∙◌}
use mathlib.Core.Bool.{Bool, true, false, not}
use mathlib.Core.List.{List, [], ◌∷◌, ◌++◌, map, append_assoc, append-nil}
use Prim.Native.Nat.{ℕ, zero, suc, ◌+◌, ◌*◌, ◌-◌, ◌/◌}
use native.Mathlib.Nat.{add-zero}
use native.Mathlib.Omega.{arith}
use borrow.Author.Tests.{ne_eqb}
use lib.ListN.{length, take, drop, replicate, length-take}
use Rattle.block_type.specs.Limits.{master_size, zone_header, free_header}
use Rattle.bigendian.specs.BigEndian.{to_be}
use Rattle.format.specs.WellFormed.{offsets}
use Rattle.structure.specs.Structure.{Block, Structure, sizes, count, start, len, place_of, next_of, value, words, join, header, encode, encode_block, handles_of}
use Rattle.calls.specs.Calls.{told}
use Rattle.bay.specs.Bay.{gap}
use Rattle.calls.specs.State.{handles_from}
use Rattle.zone.specs.Work.{fresh}
use Rattle.zone.specs.Group.{flat_bay}
use Rattle.zone.specs.Call.{in_line, Result, result_of, initialize_with, initialize}
use Rattle.zone.proofs.Handles.{length-handles}
use Rattle.calls.specs.Table.{Cause, cause, first, order}
use Rattle.masters.proofs.chain.Words.{head-handles, words-chain}
use Rattle.initialize.specs.Fresh.{size_bytes, head_bytes, free_bytes, fresh_bytes, accepts, Fresh}
use Rattle.initialize.proofs.Write.{bad-is, accepted, within}
use Rattle.kinds.specs.Kinds.{is}

-- a clock of 0, and the zero byte
two-zeros : 0 ∷ 0 ∷ [] ≡ to_be 2 0
unfolding to_be
two-zeros = refl

abbrev blocks_of : ℕ → List Block
blocks_of k = flat_bay (gap k []) []

no-relocs : (k : ℕ) → length (handles_of (blocks_of k)) ≡ 0
unfolding handles_of
no-relocs zero = refl
no-relocs (suc k) = refl

all-free : (k : ℕ) → sizes (blocks_of k) ≡ k
unfolding sizes
all-free zero = refl
all-free (suc k) = add-zero (suc k)

no_place : (h at k : ℕ) → place_of (is h) at (blocks_of k) ≡ 0
unfolding place_of
no_place h at zero = refl
no_place h at (suc k) = refl

free_bytes_lem : (k : ℕ) → join (map encode_block (blocks_of k)) ≡ free_bytes k
unfolding join encode_block free_bytes
free_bytes_lem zero = refl
free_bytes_lem (suc k) = append-nil (to_be 4 (suc k / 2) ++ replicate (suc k - free_header) 0) ∙ sym (rw (ne_eqb (suc k) 0 (λ e. omega arith)))

module _ (buf n m : ℕ) (x : Fresh n m) where
  abbrev u : Structure
  u = in_line (fresh buf n m)

  count-is : count u ≡ m
  count-is = omega (arith, no-relocs (n - (zone_header + master_size * m)), length-handles zone_header m)

  len_is : len u ≡ n
  len_is = omega (arith, count-is, all-free (n - (zone_header + master_size * m)), x.room)

  value_is : (h : ℕ) → value u h ≡ next_of h (handles_from zone_header m)
  value_is h = omega (arith, no_place h (start u) (n - (zone_header + master_size * m)))

  -- the structure's bytes
  pub fresh-encode : encode u ≡ fresh_bytes n m
  unfolding encode header fresh_bytes head_bytes size_bytes
  fresh-encode =
      let c = count-is in
      let s : start u ≡ zone_header + master_size * m = omega arith in
      let hd : header u ≡ head_bytes n m =
      rw (len_is, s, c) (ap₂ (λ (h : ℕ) (z : List ℕ). to_be 4 n ++ (to_be 4 (zone_header + master_size * m) ++ (to_be 4 m ++ (to_be 2 h ++ z)))) (head-handles zone_header m) two-zeros ∙ (simp append_assoc)) in
      ap₂ ◌++◌ hd (ap₂ ◌++◌ (ap (λ (k : ℕ). words (value u) (offsets zone_header k)) c ∙ words-chain (value u) zone_header m (λ g l. value_is g)) (free_bytes_lem (n - (zone_header + master_size * m))))

-- the call, by its cause
abbrev caused : ℕ → ℕ → List ℕ → Cause → Result
caused n m s c = initialize_with (first order (c ∷ [])) n m s

module _ (s : List ℕ) (n m : ℕ) (r : Bool) (e : r ≡ accepts (length s) n m) (t : r ≡ true) where
  long : length (take n s) ≡ n
  long = omega (arith, length-take n s, within (length s) n m r e t)

  pub init-fresh : Fresh (length (take n s)) m
  init-fresh = rw long (accepted (length s) n m r e t)

  pub init-done : (y : List ℕ) → y ≡ fresh_bytes (length (take n s)) m → result_of (told 0 0) (y ++ drop n s) ≡ initialize n m s
  init-done y q =
      ap (λ (b : List ℕ). result_of (told 0 0) (b ++ drop n s)) (q ∙ ap (λ (k : ℕ). fresh_bytes k m) long ∙ sym (fresh-encode (length s) n m (accepted (length s) n m r e t)))
      ∙ sym (ap (caused n m s) (bad-is (length s) n m r e ∙ ap (λ (u : Bool). cause 2 (not u)) t))

pub init-no : (s : List ℕ) (n m : ℕ) (r : Bool) → r ≡ accepts (length s) n m → r ≡ false → result_of (told 2 0) s ≡ initialize n m s
init-no s n m r e t = sym (ap (caused n m s) (bad-is (length s) n m r e ∙ ap (λ (u : Bool). cause 2 (not u)) t))
