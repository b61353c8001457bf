-- The writes that cut a block out of a free one, for a block of any kind whose data are zero.
use mathlib.Core.Path.{◌≡◌, refl, sym, ap, ap₂, ◌∙◌}
use mathlib.Core.List.{List, [], ◌∷◌, ◌++◌, append_assoc, append-nil}
use Prim.Native.Nat.{ℕ, ◌+◌, ◌-◌, ◌*◌, ◌/◌, ◌<◌, ◌≤◌}
use mathlib.Core.Bool.{Bool, true, false, cond}
use native.Mathlib.Omega.{arith}
use lib.Dec.{ltb}
use borrow.Author.Tests.{ltb-true, ltb-false}
use lib.ListN.{length, replicate, length-replicate, length-append}
use Rattle.block_type.specs.Limits.{free_header, reloc_code, page_code, reloc_header, page_header, type_unit, tag_at, status_at}
use Rattle.bigendian.specs.BigEndian.{to_be, overwrite}
use Rattle.bigendian.proofs.Laws.{length-to_be}
use Rattle.bigendian.proofs.Overwrite.{write-more, write-pad, write-length}
use Rattle.kinds.specs.Kinds.{Item, code_of, header_of, tag_of, item_size}
use Rattle.kinds.proofs.KindLaws.{tag-long, facts}
use Rattle.bay.specs.Bay.{held, gap}
use Rattle.bay.specs.Bytes.{encode_cell}
use Rattle.bay.specs.Sound.{bytes_of}
use Rattle.bay.proofs.BayBytes.{gap-some, gap-none, free-zeros}
use Rattle.room.specs.place.Fit.{blank, blank_page, with_rest, Fit}

-- ---- a block of any kind

module _ (z z₁ z₂ : List ℕ) (at n need h : ℕ) (x : Fit z at n need h) (e : Item) (en : item_size e ≡ need) (ez : e.bytes ≡ replicate (need - header_of e) 0)
    (e₁ : z₁ ≡ overwrite z at (to_be 2 (code_of e * type_unit + need / 2))) (e₂ : z₂ ≡ overwrite z₁ (at + tag_at) (tag_of e)) where
  abbrev head : List ℕ
  head = to_be 2 (code_of e * type_unit + need / 2)

  long-head : length head ≡ tag_at
  long-head = length-to_be 2 (code_of e * type_unit + need / 2)

  new_is : encode_cell (held e) ≡ head ++ (tag_of e ++ replicate (need - header_of e) 0)
  new_is = ap₂ (λ (k : ℕ) (d : List ℕ). to_be 2 (code_of e * type_unit + k / 2) ++ (tag_of e ++ d)) en ez

  long : length (encode_cell (held e)) ≡ need
  long =
      ap length new_is ∙ length-append head (tag_of e ++ replicate (need - header_of e) 0)
      ∙ omega (arith, long-head, length-append (tag_of e) (replicate {A = ℕ} (need - header_of e) 0), length-replicate {A = ℕ} (need - header_of e) 0, tag-long e)

  -- the block's header and its zeros
  placed : z₂ ≡ overwrite z at (encode_cell (held e))
  placed =
      let lu : length (head ++ tag_of e) ≡ header_of e = rw length-append (omega (arith, long-head, tag-long e)) in
      e₂ ∙ (rw e₁ (write-more z head (tag_of e) at (at + tag_at) (omega (arith, long-head)) (omega (arith, tag-long e, x.fits, x.inside))))
      ∙ write-pad z (head ++ tag_of e) (replicate (need - header_of e) 0) at (at + header_of e) (need - header_of e) (omega arith)
      (free-zeros z at n (header_of e) (need - header_of e) x.bytes (facts e).low (omega (arith, x.fits))) (omega (arith, x.fits, x.inside))
      ∙ ap (λ (y : List ℕ). overwrite z at y) (append_assoc head (tag_of e) (replicate (need - header_of e) 0) ∙ sym new_is)

  all : n ≤ need → z₂ ≡ overwrite z at (bytes_of (held e ∷ gap (n - need) []))
  unfolding bytes_of
  all k = placed ∙ ap (λ (y : List ℕ). overwrite z at y) (sym (rw (gap-none (n - need) (omega arith), append-nil)))

  part : (z₃ : List ℕ) → need < n → z₃ ≡ overwrite z₂ (at + need) (to_be 4 ((n - need) / 2)) → z₃ ≡ overwrite z at (bytes_of (held e ∷ gap (n - need) []))
  unfolding bytes_of
  part z₃ k e₃ =
      let new = encode_cell (held e) in
      let r = n - need in
      let v = to_be 4 (r / 2) in
      let lr = long in
      let lv = length-to_be 4 (r / 2) in
      let lu : length (new ++ v) ≡ need + free_header = rw length-append (omega arith) in
      let g : bytes_of (gap r []) ≡ v ++ replicate (r - free_header) 0 = gap-some r (omega arith) in
      e₃ ∙ (rw placed (write-more z new v at (at + need) (omega arith) (omega (arith, x.inside, x.size.four, x.four_n))))
      ∙ write-pad z (new ++ v) (replicate (r - free_header) 0) at (at + (need + free_header)) (r - free_header) (omega arith)
      (free-zeros z at n (need + free_header) (r - free_header) x.bytes (omega arith) (omega (arith, x.size.four, x.four_n))) (omega (arith, x.inside, x.size.four, x.four_n))
      ∙ ap (λ (y : List ℕ). overwrite z at y) (append_assoc new v (replicate (r - free_header) 0) ∙ ap (λ (y : List ℕ). new ++ y) (sym g))

  done : (z₃ : List ℕ) → z₃ ≡ with_rest z₂ at n need → z₃ ≡ overwrite z at (bytes_of (held e ∷ gap (n - need) []))
  done z₃ e₃ = go (ltb need n) refl e₃
    where
      go : (t : Bool) → ltb need n ≡ t → z₃ ≡ cond t (overwrite z₂ (at + need) (to_be 4 ((n - need) / 2))) z₂ → z₃ ≡ overwrite z at (bytes_of (held e ∷ gap (n - need) []))
      go true q w = part z₃ (ltb-true need n q) w
      go false q w = w ∙ all (ltb-false need n q)

-- ---- a relocatable block

pub blank-size : (need h : ℕ) → reloc_header ≤ need → item_size (blank need h) ≡ need
blank-size need h l = omega (arith, length-replicate {A = ℕ} (need - reloc_header) 0)

module _ (z z₁ z₂ : List ℕ) (at n need h : ℕ) (x : Fit z at n need h)
    (e₁ : z₁ ≡ overwrite z at (to_be 2 (reloc_code * type_unit + need / 2))) (e₂ : z₂ ≡ overwrite z₁ (at + tag_at) (to_be 2 h)) where
  pub cut-done : (z₃ : List ℕ) → z₃ ≡ with_rest z₂ at n need → z₃ ≡ overwrite z at (bytes_of (held (blank need h) ∷ gap (n - need) []))
  cut-done z₃ e₃ = done z z₁ z₂ at n need h x (blank need h) (blank-size need h x.size.low) refl e₁ e₂ z₃ e₃

-- ---- a page: its name and its status are written one after the other

pub page-size : (need n stamp : ℕ) → page_header ≤ need → item_size (blank_page need n stamp) ≡ need
page-size need n stamp l = omega (arith, length-replicate {A = ℕ} (need - page_header) 0)

module _ (z z₁ z₂ z₃ : List ℕ) (at n need name stamp : ℕ) (x : Fit z at n need 0) (l : page_header ≤ need)
    (e₁ : z₁ ≡ overwrite z at (to_be 2 (page_code * type_unit + need / 2))) (e₂ : z₂ ≡ overwrite z₁ (at + tag_at) (to_be 4 name)) (e₃ : z₃ ≡ overwrite z₂ (at + status_at) (to_be 2 stamp)) where
  abbrev page : Item
  page = blank_page need name stamp

  same-long : length z₁ ≡ length z
  same-long = let b = length-to_be 2 (page_code * type_unit + need / 2) in rw e₁ (write-length z (to_be 2 (page_code * type_unit + need / 2)) at (omega (arith, x.inside, x.fits)))

  tagged : z₃ ≡ overwrite z₁ (at + tag_at) (tag_of page)
  tagged =
      let a = length-to_be 4 name in
      let b = length-to_be 2 stamp in
      let w : stamp ≡ 0 + (0 + stamp) = omega arith in
      e₃ ∙ (rw e₂ (write-more z₁ (to_be 4 name) (to_be 2 stamp) (at + tag_at) (at + status_at) (omega arith) (omega (arith, x.inside, x.fits, same-long))))
      ∙ ap (λ (w : ℕ). overwrite z₁ (at + tag_at) (to_be 4 name ++ to_be 2 w)) w

  pub page-done : (z₄ : List ℕ) → z₄ ≡ with_rest z₃ at n need → z₄ ≡ overwrite z at (bytes_of (held (blank_page need name stamp) ∷ gap (n - need) []))
  page-done z₄ e₄ = done z z₁ z₃ at n need 0 x page (page-size need name stamp l) refl e₁ tagged z₄ e₄
