-- The laws that the functions cite: writes one behind the other.
use mathlib.Core.Path.{◌≡◌, refl, sym, ap, ap₂, ◌∙◌}
use mathlib.Core.Bool.{Bool, true, false, cond, ◌&&◌, ◌||◌, not}
use mathlib.Core.List.{List, [], ◌∷◌, ◌++◌, append_assoc, append-nil}
use Prim.Native.Nat.{ℕ, zero, suc, ◌+◌, ◌*◌, ◌-◌, ◌/◌, ◌%◌, ◌≤◌}
use native.Mathlib.Omega.{arith}
use lib.Dec.{eqb, leb}
use borrow.Author.Tests.{ne_eqb}
use lib.ListN.{length, take, drop, replicate, length-append, length-take, length-drop, drop_of_length-le}
use lib.Seq.{take_at}
use Rattle.block_type.specs.Limits.{first_block, longest_zone, master_size, most_masters, zone_header, free_header, length_at, first_at, masters_at, chain_at, clock_at}
use Rattle.bigendian.specs.BigEndian.{to_be, overwrite}
use Rattle.bigendian.proofs.Laws.{length-to_be}
use Rattle.bigendian.proofs.Overwrite.{write-more}
use Rattle.bay.specs.Bay.{gap}
use Rattle.bay.specs.Sound.{bytes_of}
use Rattle.calls.specs.Table.{Cause, cause, bad_initialize, first, order}
use Rattle.zone.proofs.Initial.{Accepted, accepted as may-start}
use Rattle.masters.specs.chain.Chain.{chain_bytes}
use Rattle.masters.proofs.chain.Chain.{chain-long}
use Rattle.initialize.specs.Fresh.{size_bytes, head_bytes, free_bytes, fresh_bytes, accepts, Fresh}

-- ---- the arguments

one_of : (a b c d e : Bool) → not a || (not b || (not c || (not d || not e))) ≡ not (a && b && c && d && e)
one_of true true true true e = refl
one_of true true true false e = refl
one_of true true false d e = refl
one_of true false c d e = refl
one_of false b c d e = refl

-- cause 2, where it is tested by r
pub bad-is : (buf n m : ℕ) (r : Bool) → r ≡ accepts buf n m → bad_initialize buf n m ≡ cause 2 (not r)
bad-is buf n m r e = ap (cause 2) (one_of (eqb (n % 4) 0) (leb (zone_header + master_size * m) n) (leb n buf) (leb n longest_zone) (leb m most_masters) ∙ ap not (sym e))

module _ (buf n m : ℕ) (r : Bool) (e : r ≡ accepts buf n m) (t : r ≡ true) where
  may : Accepted buf n m
  may = may-start buf n m (ap (λ (c : Cause). first order (c ∷ [])) (bad-is buf n m r e ∙ ap (λ (u : Bool). cause 2 (not u)) t))

  pub accepted : Fresh n m
  accepted = record { four = may.by4; room = may.above; short = may.length-limit; few = may.masters-limit }

  pub within : n ≤ buf
  within = may.within

-- ---- lengths

pub head-long : (n m : ℕ) → length (head_bytes n m) ≡ zone_header
unfolding head_bytes size_bytes
head-long n m = simp (length-append, length-to_be)

-- ---- header

pub sizes-done : (z z₁ z₂ z₃ : List ℕ) (m f : ℕ) → Fresh (length z) m → f ≡ first_block m
    → z₁ ≡ overwrite z length_at (to_be 4 (length z)) → z₂ ≡ overwrite z₁ first_at (to_be 4 f) → z₃ ≡ overwrite z₂ masters_at (to_be 4 m) → z₃ ≡ overwrite z 0 (size_bytes (length z) m)
unfolding size_bytes
sizes-done z z₁ z₂ z₃ m f x ef e₁ e₂ e₃ =
    let a = to_be 4 (length z) in
    let b = to_be 4 (zone_header + master_size * m) in
    let l : zone_header ≤ length z = omega (arith, x.room) in
    let la = length-to_be 4 (length z) in
    let lb = length-to_be 4 (zone_header + master_size * m) in
    let lc = length-to_be 4 m in
    let lab = length-append a b in
    let p₂ : z₂ ≡ overwrite z 0 (a ++ b) = e₂ ∙ (rw (e₁, ef) (write-more z a b length_at first_at (omega arith) (omega arith))) in
    let p₃ : z₃ ≡ overwrite z 0 ((a ++ b) ++ to_be 4 m) = e₃ ∙ (rw p₂ (write-more z (a ++ b) (to_be 4 m) length_at masters_at (omega arith) (omega arith))) in
    p₃ ∙ ap (λ (x : List ℕ). overwrite z 0 x) (append_assoc a b (to_be 4 m))

sizes-long : (n m : ℕ) → length (size_bytes n m) ≡ chain_at
unfolding size_bytes
sizes-long n m = simp (length-append, length-to_be)

pub header-done : (z z₁ z₂ z₃ : List ℕ) (m h : ℕ) → Fresh (length z) m → h ≡ cond (eqb m 0) 0 zone_header
    → z₁ ≡ overwrite z 0 (size_bytes (length z) m) → z₂ ≡ overwrite z₁ chain_at (to_be 2 h) → z₃ ≡ overwrite z₂ clock_at (to_be 2 0) → z₃ ≡ overwrite z 0 (head_bytes (length z) m)
unfolding head_bytes
header-done z z₁ z₂ z₃ m h x eh e₁ e₂ e₃ =
    let a = size_bytes (length z) m in
    let l : zone_header ≤ length z = omega (arith, x.room) in
    let la = sizes-long (length z) m in
    let lb = length-to_be 2 h in
    let lc = length-to_be 2 0 in
    let lab = length-append a (to_be 2 h) in
    let p₂ : z₂ ≡ overwrite z 0 (a ++ to_be 2 h) = e₂ ∙ (rw e₁ (write-more z a (to_be 2 h) length_at chain_at (omega arith) (omega arith))) in
    let p₃ : z₃ ≡ overwrite z 0 ((a ++ to_be 2 h) ++ to_be 2 0) = e₃ ∙ (rw p₂ (write-more z (a ++ to_be 2 h) (to_be 2 0) length_at clock_at (omega arith) (omega arith))) in
    p₃ ∙ ap (λ (x : List ℕ). overwrite z 0 x) (append_assoc a (to_be 2 h) (to_be 2 0) ∙ ap (λ (y : ℕ). a ++ (to_be 2 y ++ to_be 2 0)) eh)

-- ---- the free block

free-is : (k : ℕ) → bytes_of (gap k []) ≡ free_bytes k
unfolding bytes_of free_bytes
free-is zero = refl
free-is (suc k) = rw (ne_eqb (suc k) 0 (λ e. omega arith)) (append-nil (to_be 4 (suc k / 2) ++ replicate (suc k - free_header) 0))

-- ---- all of it

module _ (z z₁ z₂ : List ℕ) (m f : ℕ) (x : Fresh (length z) m) (ef : f ≡ first_block m) (e₁ : z₁ ≡ overwrite z 0 (head_bytes (length z) m)) (e₂ : z₂ ≡ overwrite z₁ zone_header (chain_bytes zone_header m)) where
  abbrev hs : List ℕ
  hs = head_bytes (length z) m ++ chain_bytes zone_header m

  long : length hs ≡ f
  long = omega (arith, head-long (length z) m, chain-long zone_header m, length-append (head_bytes (length z) m) (chain_bytes zone_header m), ef)

  past : 0 + length hs ≡ f
  past = omega (arith, long)

  two : z₂ ≡ hs ++ drop f z
  two =
      let lh = head-long (length z) m in
      let lc = chain-long zone_header m in
      let r = x.room in
      e₂ ∙ (rw e₁ (write-more z (head_bytes (length z) m) (chain_bytes zone_header m) length_at zone_header (omega arith) (omega arith))) ∙ ap (λ (k : ℕ). hs ++ drop k z) past

  -- the bytes behind the masters
  abbrev rest : List ℕ
  rest = drop f z₂

  rest-long : length rest ≡ length z - (zone_header + master_size * m)
  rest-long = omega (arith, length-drop f z₂, ap length two, length-append hs (drop f z), length-drop f z, long, x.room, ef)

  all-long : length (take (length z₂ - f) rest) ≡ length z - (zone_header + master_size * m)
  all-long = omega (arith, rest-long, length-take (length z₂ - f) rest, length-drop f z₂)

  none-behind : drop (length z₂ - f) rest ≡ []
  none-behind = let q : length rest ≤ length z₂ - f = omega (arith, length-drop f z₂) in drop_of_length-le rest q

  pub make-done : (y : List ℕ) → y ≡ bytes_of (gap (length (take (length z₂ - f) (drop f z₂))) []) → take f z₂ ++ (y ++ drop (length z₂ - f) (drop f z₂)) ≡ fresh_bytes (length z) m
  unfolding fresh_bytes
  make-done y e =
      ap₂ ◌++◌ (ap (take f) two ∙ take_at hs (drop f z) f long) (ap (y ++◌) none-behind ∙ append-nil y ∙ e ∙ free-is (length (take (length z₂ - f) rest)) ∙ ap free_bytes all-long)
      ∙ append_assoc (head_bytes (length z) m) (chain_bytes zone_header m) (free_bytes (length z - (zone_header + master_size * m)))
