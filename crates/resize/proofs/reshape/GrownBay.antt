-- The grown part is the bytes of the bay with the block grown.
use mathlib.Core.Path.{◌≡◌, sym, ap, ap₂, ◌∙◌}
use mathlib.Core.List.{List, [], ◌∷◌, ◌++◌, append_assoc}
use Prim.Native.Nat.{ℕ, ◌+◌, ◌-◌, ◌*◌, ◌/◌}
use native.Mathlib.Omega.{arith}
use lib.ListN.{length, take, drop, replicate, length-append}
use lib.Seq.{drop-drop, take_at, drop_at, take_all}
use Rattle.block_type.specs.Limits.{type_unit, tag_at, reloc_code}
use Rattle.bigendian.specs.BigEndian.{to_be, slice}
use Rattle.bigendian.proofs.Laws.{length-to_be}
use Rattle.kinds.specs.Kinds.{Item, code_of, tag_of, item_size}
use Rattle.kinds.proofs.KindLaws.{tag-long}
use Rattle.calls.specs.State.{sized}
use Rattle.bay.specs.Bay.{Cell, held, gap, packed, resized}
use Rattle.bay.specs.Bytes.{encode_cell}
use Rattle.bay.specs.Sound.{bytes_of}
use Rattle.bay.proofs.Resize.{length-sized}
use Rattle.bay.proofs.BayBytes.{packed-bytes}
use Rattle.resize.specs.reshape.Grow.{grown_bytes}

-- the items xs, the block e, the items ys, n free bytes
abbrev pub laid : List Item → Item → List Item → ℕ → List Cell
laid xs e ys n = packed xs (held e ∷ packed ys (gap n []))

abbrev bytes_in : List Item → List ℕ
bytes_in xs = bytes_of (packed xs [])

laid-bytes : (xs ys : List Item) (e : Item) (n : ℕ) → bytes_of (laid xs e ys n) ≡ bytes_in xs ++ (encode_cell (held e) ++ (bytes_in ys ++ bytes_of (gap n [])))
unfolding bytes_of
laid-bytes xs ys e n = packed-bytes xs (held e ∷ packed ys (gap n [])) ∙ ap (λ (t : List ℕ). bytes_in xs ++ (encode_cell (held e) ++ t)) (packed-bytes ys (gap n []))

module _ (xs ys : List Item) (e : Item) (n at o run more a : ℕ) (la : length (bytes_in xs) ≡ at) (eo : o ≡ at + item_size e) (lb : length (bytes_in ys) ≡ run) (lg : length (bytes_of (gap n [])) ≡ n)
    (gain : a ≡ more + length e.bytes) where
  abbrev d : List ℕ
  d = e.bytes

  abbrev s : List ℕ
  s = bytes_of (laid xs e ys n)

  abbrev w₀ : List ℕ
  w₀ = to_be 2 (code_of e * type_unit + item_size e / 2)

  lw : length w₀ ≡ tag_at
  lw = length-to_be 2 (code_of e * type_unit + item_size e / 2)

  image : s ≡ bytes_in xs ++ (w₀ ++ ((tag_of e ++ d) ++ (bytes_in ys ++ bytes_of (gap n []))))
  image = laid-bytes xs ys e n ∙ ap (λ (t : List ℕ). bytes_in xs ++ t) (append_assoc w₀ (tag_of e ++ d) (bytes_in ys ++ bytes_of (gap n [])))

  lhd : length (tag_of e ++ d) ≡ o - (at + tag_at)
  lhd = omega (arith, length-append (tag_of e) d, tag-long e)

  drop-a : drop at s ≡ w₀ ++ ((tag_of e ++ d) ++ (bytes_in ys ++ bytes_of (gap n [])))
  drop-a = ap (drop at) image ∙ drop_at (bytes_in xs) _ at la

  drop-w : drop (at + tag_at) s ≡ (tag_of e ++ d) ++ (bytes_in ys ++ bytes_of (gap n []))
  drop-w = sym (drop-drop tag_at at s) ∙ ap (drop tag_at) drop-a ∙ drop_at w₀ _ tag_at lw

  pub drop-o : drop o s ≡ bytes_in ys ++ bytes_of (gap n [])
  drop-o =
      let q : o ≡ at + tag_at + (o - (at + tag_at)) = omega (arith, tag-long e) in
      ap (λ (k : ℕ). drop k s) q ∙ sym (drop-drop (o - (at + tag_at)) (at + tag_at) s) ∙ ap (drop (o - (at + tag_at))) drop-w ∙ drop_at (tag_of e ++ d) _ (o - (at + tag_at)) lhd

  pub long : length s ≡ o + run + n
  long =
      ap length image ∙ omega (
        arith,
        la,
        lb,
        lg,
        lhd,
        lw,
        tag-long e,
        length-append (bytes_in xs) (w₀ ++ ((tag_of e ++ d) ++ (bytes_in ys ++ bytes_of (gap n [])))),
        length-append w₀ ((tag_of e ++ d) ++ (bytes_in ys ++ bytes_of (gap n []))),
        length-append (tag_of e ++ d) (bytes_in ys ++ bytes_of (gap n [])),
        length-append (bytes_in ys) (bytes_of (gap n [])),
      )

  new-data : sized a d ≡ d ++ replicate more 0
  new-data = let k : a - length d ≡ more = omega arith in ap₂ (λ (x : List ℕ) (i : ℕ). x ++ replicate i 0) (take_all a d (omega arith)) k

  pub grown-bay : code_of e ≡ reloc_code → grown_bytes s at o run more ≡ bytes_of (laid xs (resized a e) ys (n - more))
  unfolding grown_bytes
  grown-bay kind =
      let g = bytes_of (gap (n - more) []) in
      let e₁ : take at s ≡ bytes_in xs = ap (take at) image ∙ take_at (bytes_in xs) _ at la in
      let e₂ : slice s (at + tag_at) (o - (at + tag_at)) ≡ tag_of e ++ d = ap (take (o - (at + tag_at))) drop-w ∙ take_at (tag_of e ++ d) _ (o - (at + tag_at)) lhd in
      let e₃ : slice s o run ≡ bytes_in ys = ap (take run) drop-o ∙ take_at (bytes_in ys) _ run lb in
      let e₄ : length s - (o + run) - more ≡ n - more = omega (arith, long) in
      let e₅ : o + more - at ≡ item_size (resized a e) = omega (arith, length-sized a d) in
      rw (e₁, e₂, e₃, e₄, e₅, ap (λ (k : ℕ). to_be 2 (k * type_unit + item_size (resized a e) / 2)) (sym kind))
      (ap (λ (t : List ℕ). bytes_in xs ++ (to_be 2 (code_of e * type_unit + item_size (resized a e) / 2) ++ t))
      (sym (ap (λ (x : List ℕ). (tag_of e ++ x) ++ (bytes_in ys ++ g)) new-data ∙ (simp append_assoc)))
      ∙ sym (laid-bytes xs ys (resized a e) (n - more) ∙ ap (λ (t : List ℕ). bytes_in xs ++ t) (append_assoc (to_be 2 (code_of e * type_unit + item_size (resized a e) / 2)) (tag_of e ++ sized a d) (bytes_in ys ++ g))))
