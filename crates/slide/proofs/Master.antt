-- One block's master: which it is, and what setting it changes.
use mathlib.Core.Path.{◌≡◌, refl, sym, ap, ◌∙◌}
use mathlib.Core.List.{List, ◌++◌}
use mathlib.Core.Bool.{Bool, true, false, cond}
use Prim.Native.Nat.{ℕ, ◌+◌, ◌-◌, ◌≤◌}
use native.Mathlib.Omega.{arith}
use borrow.Author.Tests.{ne_eqb}
use lib.Dec.{eqb}
use lib.ListN.{length, take, drop, take-append-drop}
use lib.Seq.{drop-drop, take-take, take_at, drop_at, length-take-le}
use Rattle.bigendian.specs.BigEndian.{from_be, to_be, slice, overwrite}
use Rattle.bigendian.proofs.Laws.{length-to_be}
use Rattle.bigendian.proofs.Overwrite.{write-left, write-length}
use Rattle.bigendian.proofs.Parts.{drop-take}
use Rattle.block_type.specs.Limits.{free_code, reloc_code, free_header, reloc_header, master_size, tag_at}
use Rattle.format.specs.WellFormed.{type_of, size_of, handle_of}
use Rattle.format.proofs.Walk.{kind-take, size-take, handle-take}
use Rattle.kinds.specs.Kinds.{item_in, header_of, master_of}
use Rattle.kinds.proofs.KindLaws.{master-header, master-some, master-none}
use Rattle.bay.specs.Bay.{Cell, free, held, cell_code}
use Rattle.bay.specs.Sound.{cell_at, decode_cell, Stepped}
use Rattle.slide.specs.ZoneBay.{owner_of, set_one}
use Rattle.slide.specs.Masters.{CellHere, IsOwner}

one_none : (at : ℕ) (c : Cell) (z : List ℕ) → owner_of c ≡ 0 → set_one at c z ≡ z
unfolding set_one
one_none at (free n) z q = refl
one_none at (held e) z q = rw q

one-some : (at : ℕ) (c : Cell) (z : List ℕ) (h : ℕ) → h ≡ owner_of c → (h ≡ 0 → ⊥) → set_one at c z ≡ overwrite z h (to_be 4 (at + reloc_header))
unfolding set_one
one-some at (free n) z h q ne = absurd (ne q)
one-some at (held e) z h q ne = rw (← q, ne_eqb h 0 ne, master-header e (λ x. ne (q ∙ x)))

-- ---- the block's master

handle-there : (z : List ℕ) (at : ℕ) → handle_of (drop at z) ≡ from_be (slice z (at + tag_at) 2)
unfolding handle_of
handle-there z at = rw (drop-drop tag_at at z)

-- of a block by its bytes b
owner-some : (b : List ℕ) → cell_code (decode_cell b) ≡ reloc_code → owner_of (decode_cell b) ≡ handle_of b
unfolding decode_cell
owner-some b e = go (eqb (type_of b) free_code) e
  where
    go : (t : Bool) → cell_code (cond t (free (size_of b)) (held (item_in b))) ≡ reloc_code → owner_of (cond t (free (size_of b)) (held (item_in b))) ≡ handle_of b
    go true q = let x : ⊥ = omega arith in absurd x
    go false q = master-some b q

owner-none : (b : List ℕ) → (cell_code (decode_cell b) ≡ reloc_code → ⊥) → owner_of (decode_cell b) ≡ 0
unfolding decode_cell
owner-none b e = go (eqb (type_of b) free_code) e
  where
    go : (t : Bool) → (cell_code (cond t (free (size_of b)) (held (item_in b))) ≡ reloc_code → ⊥) → owner_of (cond t (free (size_of b)) (held (item_in b))) ≡ 0
    go true q = refl
    go false q = master-none b q

module _ (z : List ℕ) (at k : ℕ) (h : CellHere z at) (ek : k ≡ type_of (drop at z)) where
  abbrev b : List ℕ
  b = take (size_of (drop at z)) (drop at z)

  pub own-none : (k ≡ reloc_code → ⊥) → owner_of (cell_at z at) ≡ 0
  own-none e = owner-none b (λ x. e (ek ∙ sym h.code ∙ x))

  module _ (e : k ≡ reloc_code) (o : ℕ) (eo : o ≡ from_be (slice z (at + tag_at) 2)) where
    own-is : o ≡ owner_of (cell_at z at)
    own-is = eo ∙ sym (owner-some b (h.code ∙ sym ek ∙ e) ∙ handle-take (size_of (drop at z)) (drop at z) h.low ∙ handle-there z at)

    pub own-zero : o ≡ 0 → owner_of (cell_at z at) ≡ 0
    own-zero q = sym own-is ∙ q

    pub own-some : (o ≡ 0 → ⊥) → IsOwner (cell_at z at) o
    own-some q = record { is = own-is; some = q }

-- ---- one master set

pub set-none : (z : List ℕ) (p : ℕ) (c : Cell) → owner_of c ≡ 0 → z ≡ set_one p c z
set-none z p c q = sym (one_none p c z q)

pub set-some : (z z' : List ℕ) (p h : ℕ) (c : Cell) → IsOwner c h → z' ≡ overwrite z h (to_be 4 (p + reloc_header)) → z' ≡ set_one p c z
set-some z z' p h c o e = e ∙ sym (one-some p c z h o.is o.some)

pub one_left : (p : ℕ) (c : Cell) (a b : List ℕ) → owner_of c + master_size ≤ length a → set_one p c (a ++ b) ≡ set_one p c a ++ b
unfolding set_one
one_left p (free n) a b l = refl
one_left p (held e) a b l = go (eqb (master_of e) 0)
  where
    go : (t : Bool) → cond t (a ++ b) (overwrite (a ++ b) (master_of e) (to_be 4 (p + header_of e))) ≡ cond t a (overwrite a (master_of e) (to_be 4 (p + header_of e))) ++ b
    go true = refl
    go false = write-left a b (to_be 4 (p + header_of e)) (master_of e) (omega (arith, length-to_be 4 (p + header_of e)))

one-long : (p : ℕ) (c : Cell) (a : List ℕ) → owner_of c + master_size ≤ length a → length (set_one p c a) ≡ length a
unfolding set_one
one-long p (free n) a l = refl
one-long p (held e) a l = go (eqb (master_of e) 0)
  where
    go : (t : Bool) → length (cond t a (overwrite a (master_of e) (to_be 4 (p + header_of e)))) ≡ length a
    go true = refl
    go false = write-length a (to_be 4 (p + header_of e)) (master_of e) (omega (arith, length-to_be 4 (p + header_of e)))

-- a master below lim is set: what lies from lim on stays
module _ (z : List ℕ) (p lim : ℕ) (c : Cell) (low : owner_of c + master_size ≤ lim) (l : lim ≤ length z) where
  lt : length (take lim z) ≡ lim
  lt = length-take-le lim z l

  long : length (set_one p c (take lim z)) ≡ lim
  long = one-long p c (take lim z) (omega (arith, lt)) ∙ lt

  split : set_one p c z ≡ set_one p c (take lim z) ++ drop lim z
  split = ap (set_one p c) (sym (take-append-drop lim z)) ∙ one_left p c (take lim z) (drop lim z) (omega (arith, lt))

  pub one-take : take lim (set_one p c z) ≡ set_one p c (take lim z)
  one-take = ap (take lim) split ∙ take_at (set_one p c (take lim z)) (drop lim z) lim long

  pub one-drop : (j : ℕ) → lim ≤ j → drop j (set_one p c z) ≡ drop j z
  one-drop j k =
      let e : j ≡ lim + (j - lim) = omega arith in
      let d : drop lim (set_one p c z) ≡ drop lim z = ap (drop lim) split ∙ drop_at (set_one p c (take lim z)) (drop lim z) lim long in
      ap (λ (i : ℕ). drop i (set_one p c z)) e
      ∙ sym (drop-drop (j - lim) lim (set_one p c z))
      ∙ ap (drop (j - lim)) d
      ∙ drop-drop (j - lim) lim z
      ∙ ap (λ (i : ℕ). drop i z) (sym e)

  pub one-length : length (set_one p c z) ≡ length z
  one-length = one-long p c z (omega arith)

-- ---- a step within z up to e is a step in z

pub record Here (z : List ℕ) (e at n : ℕ) : Type 0 where
  pub cell : CellHere z at
  pub same : cell_at (take e z) at ≡ cell_at z at
  pub fits : at + n ≤ e

pub here_in : (z : List ℕ) (e at n : ℕ) → e ≤ length z → Stepped (take e z) at n → Here z e at n
here_in z e at n l st =
    let f : at + n ≤ e = omega (arith, st.fits, length-take-le e z l) in
    let r : free_header ≤ e - at = omega (arith, st.low) in
    let dt = drop-take at e z in
    let q : size_of (drop at z) ≡ n = sym (size-take (e - at) (drop at z) r) ∙ ap size_of (sym dt) ∙ st.size_is in
    let b : take (size_of (drop at (take e z))) (drop at (take e z)) ≡ take (size_of (drop at z)) (drop at z) =
    rw (st.size_is, q, dt) (take-take n (e - at) (drop at z) (omega arith)) in
    let s : cell_at (take e z) at ≡ cell_at z at = ap decode_cell b in
    record {
      cell = record { low = omega (arith, st.low); fits = omega arith; code = ap cell_code (sym s) ∙ st.code ∙ ap type_of dt ∙ kind-take (e - at) (drop at z) r };
      same = s;
      fits = f;
    }
