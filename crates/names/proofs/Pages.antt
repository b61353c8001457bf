-- The laws of a walk over names: what a step from block to block keeps.
use mathlib.Core.Path.{◌≡◌, sym, ap, ◌∙◌}
use mathlib.Core.List.{List, [], ◌∷◌}
use mathlib.Core.Bool.{Bool, true}
use Prim.Native.Nat.{ℕ, ◌+◌, ◌%◌, ◌<◌, ◌≤◌}
use native.Mathlib.Omega.{arith}
use lib.Dec.{leb}
use borrow.Author.Tests.{leb-true, eqb-true}
use lib.ListN.{length, take, drop, length-take, length-drop}
use lib.Seq.{drop-drop}
use Rattle.block_type.specs.Limits.{smallest_block, page_header, tag_at}
use Rattle.bigendian.specs.BigEndian.{from_be, slice}
use Rattle.format.proofs.Bool.{and_left, and_right}
use Rattle.format.proofs.Walk.{blocks-cons, size-take, is-page-take, names-of}
use Rattle.format.specs.WellFormed.{size_of, split_from, split_blocks, every, size_ok, tile_ok}
use Rattle.format.specs.WellFormed.{is_page, name_of, page_size_ok}
use Rattle.names.specs.Pages.{Pages, Step}

pub name-law : (z : List ℕ) (at w : ℕ) → w ≡ from_be (slice z (at + tag_at) 4) → w ≡ name_of (drop at z)
unfolding name_of
name-law z at w e = rw drop-drop e

-- the rule of the first block
first-ok : (ok : List ℕ → Bool) (r : List ℕ) → 0 < length r → every ok (split_blocks r) ≡ true → ok (take (size_of r) r) ≡ true
unfolding every split_from
first-ok ok [] l h = let e : ⊥ = omega arith in absurd e
first-ok ok (x ∷ xs) l h = and_left (ok (take (size_of (x ∷ xs)) (x ∷ xs))) _ h

-- the rule of the others
rest_ok : (ok : List ℕ → Bool) (r : List ℕ) → 0 < length r → 0 < size_of r → every ok (split_blocks r) ≡ true → every ok (split_blocks (drop (size_of r) r)) ≡ true
unfolding every
rest_ok ok r l s h = and_right (ok (take (size_of r) r)) _ (rw (blocks-cons r l s) at h)

-- what the rules say of the first block's size
record Sized (r : List ℕ) : Type 0 where
  pub low : smallest_block ≤ size_of r
  pub four : size_of r % 4 ≡ 0
  pub fits : size_of r ≤ length r

sized : (r : List ℕ) → size_ok (take (size_of r) r) ≡ true → tile_ok (take (size_of r) r) ≡ true → Sized r
unfolding size_ok tile_ok
sized r h t =
    let b = take (size_of r) r in
    let low = leb-true smallest_block (size_of b) (and_left _ _ h) in
    let tile = eqb-true (size_of b) (length b) t in
    let l = length-take (size_of r) r in
    let n4 : smallest_block ≤ size_of r = omega arith in
    let e = size-take (size_of r) r n4 in
    let f = eqb-true (size_of b % 4) 0 (and_right (leb smallest_block (size_of b)) _ h) in
    record { low = n4; four = (rw e at f); fits = omega arith }

page-long : (r : List ℕ) → smallest_block ≤ size_of r → page_size_ok (take (size_of r) r) ≡ true → is_page r ≡ true → page_header ≤ size_of r
unfolding page_size_ok
page-long r l h p = leb-true page_header (size_of r) (rw (is-page-take (size_of r) r l, p, size-take (size_of r) r l) at h)

module _ (z : List ℕ) (at : ℕ) (g : Pages z at) (l : at < length z) where
  long : 0 < length (drop at z)
  long = omega (arith, length-drop at z)

  size-here : Sized (drop at z)
  size-here = sized (drop at z) (first-ok size_ok (drop at z) long g.sizes) (first-ok tile_ok (drop at z) long g.tiles)

  pub step_fits : at + smallest_block ≤ length z
  step_fits = omega (arith, size-here.low, size-here.fits, length-drop at z)

  page-here : is_page (drop at z) ≡ true → page_header ≤ size_of (drop at z)
  page-here p = page-long (drop at z) size-here.low (first-ok page_size_ok (drop at z) long g.long) p

  pub name-fits : is_page (drop at z) ≡ true → at + page_header ≤ length z
  name-fits p = omega (arith, page-here p, size-here.fits, length-drop at z)

  pub page-fits : (t : Bool) → t ≡ is_page (drop at z) → t ≡ true → at + page_header ≤ length z
  page-fits t e y = name-fits (sym e ∙ y)

  pub stepped : (n : ℕ) → n ≡ size_of (drop at z) → Step z at n
  stepped n e =
      let r = drop at z in
      let s = size-here in
      let p : 0 < size_of r = omega (arith, s.low) in
      let f : size_of r % 4 ≡ 0 = s.four in
      let d : drop (size_of r) r ≡ drop (at + n) z = drop-drop (size_of r) at z ∙ ap (λ (k : ℕ). drop (at + k) z) (sym e) in
      record {
        is_size = e;
        low = omega (arith, s.low);
        next = record {
          within = omega (arith, s.fits, length-drop at z);
          four = omega (arith, g.four);
          whole = g.whole;
          limit = g.limit;
          sizes = rw (← d) (rest_ok size_ok r long p g.sizes);
          tiles = rw (← d) (rest_ok tile_ok r long p g.tiles);
          long = rw (← d) (rest_ok page_size_ok r long p g.long);
        };
        heads = rw (← d) (names-of r long s.low page-here);
      }

pub page-room : (z : List ℕ) (at : ℕ) (t : Bool) → t ≡ is_page (drop at z) → t ≡ true → (is_page (drop at z) ≡ true → at + page_header ≤ length z) → at + page_header ≤ length z
page-room z at t e y h = h (sym e ∙ y)

pub step-next : (z : List ℕ) (at n : ℕ) → Step z at n → Pages z (at + n)
step-next z at n s = s.next
