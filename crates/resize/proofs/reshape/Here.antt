-- The writes that give a block another size where it stands.
use mathlib.Core.Path.{◌≡◌, sym, ap, ap₂, ◌∙◌}
use mathlib.Core.List.{List, [], ◌∷◌, ◌++◌, append_assoc}
use Prim.Native.Nat.{ℕ, ◌+◌, ◌-◌, ◌*◌, ◌/◌, ◌%◌, ◌<◌, ◌≤◌, min}
use native.Mathlib.Omega.{arith}
use lib.ListN.{length, take, drop, replicate, length-replicate, length-append, length-take, length-drop, take-append-drop, replicate-append-replicate}
use Rattle.std.proofs.lemmas.List.{take_min}
use Rattle.block_type.specs.Limits.{free_header, type_unit, tag_at}
use Rattle.bigendian.specs.BigEndian.{to_be, slice, overwrite}
use Rattle.bigendian.proofs.Laws.{length-to_be}
use Rattle.bigendian.proofs.Overwrite.{write_mid}
use Rattle.kinds.specs.Kinds.{Item, code_of, header_of, tag_of}
use Rattle.kinds.proofs.KindLaws.{tag-long}
use Rattle.calls.specs.State.{sized}
use Rattle.bay.specs.Bay.{Cell, held, gap, resized}
use Rattle.bay.specs.Sound.{bytes_of}
use Rattle.bay.proofs.Resize.{length-sized}
use Rattle.bay.proofs.BayBytes.{gap-some, gap-none}

-- ---- lists

-- a write behind four lists
deep : (a w u k x x' t : List ℕ) (p : ℕ) → p ≡ length a + (length w + (length u + length k)) → length x ≡ length x'
    → overwrite (a ++ (w ++ (u ++ (k ++ (x ++ t))))) p x' ≡ a ++ (w ++ (u ++ (k ++ (x' ++ t))))
deep a w u k x x' t p e l =
    let q = a ++ (w ++ (u ++ k)) in
    let lq : length q ≡ p = omega (arith, length-append a (w ++ (u ++ k)), length-append w (u ++ k), length-append u k) in
    let g : (y : List ℕ) → a ++ (w ++ (u ++ (k ++ y))) ≡ q ++ y = λ y. simp append_assoc in
    ap (λ (y : List ℕ). overwrite y p x') (g (x ++ t)) ∙ write_mid q x x' t p lq l ∙ sym (g (x' ++ t))

abbrev zeros : ℕ → List ℕ
zeros n = replicate n 0

-- the first two bytes of the block e with n data bytes
abbrev word : Item → ℕ → List ℕ
word e n = to_be 2 (code_of e * type_unit + (header_of e + n) / 2)

-- ---- the block e with b data bytes and f free bytes behind it stands at o, its data at `at`

module _ (z : List ℕ) (e : Item) (o at b f a : ℕ) (ea : at ≡ o + header_of e) (eb : b ≡ length e.bytes) (there : slice z o (header_of e + b + f) ≡ bytes_of (held e ∷ gap f [])) (lg : length (bytes_of (gap f [])) ≡ f)
    (end : at + b + f ≤ length z) (four : a % 4 ≡ 0) (four_end : (b + f) % 4 ≡ 0) (fits : a ≤ b + f) where
  abbrev d : List ℕ
  d = e.bytes

  abbrev g : ℕ
  g = b + f - a

  abbrev new : List Cell
  new = held (resized a e) ∷ gap g []

  abbrev front : List ℕ
  front = take o z

  abbrev back : List ℕ
  back = drop (header_of e + b + f) (drop o z)

  lf : length front ≡ o
  lf = omega (arith, length-take o z)

  la : length (sized a d) ≡ a
  la = length-sized a d

  lw : (n : ℕ) → length (word e n) ≡ tag_at
  lw n = length-to_be 2 (code_of e * type_unit + (header_of e + n) / 2)

  split : z ≡ front ++ (bytes_of (held e ∷ gap f []) ++ back)
  split = sym (take-append-drop o z) ∙ ap (front ++◌) (sym (take-append-drop (header_of e + b + f) (drop o z)) ∙ ap (◌++ back) there)

  module _ (keep : ℕ) (ek : keep ≡ min a b) where
    abbrev gone : List ℕ
    gone = drop keep d ++ bytes_of (gap f [])

    long-gone : length gone ≡ b + f - keep
    long-gone = omega (arith, length-append (drop keep d) (bytes_of (gap f [])), length-drop keep d, lg)

    long-keep : length (take keep d) ≡ keep
    long-keep = omega (arith, length-take keep d)

    z-is : z ≡ front ++ (word e (length d) ++ (tag_of e ++ (take keep d ++ (gone ++ back))))
    unfolding bytes_of
    z-is =
        let q : d ≡ take keep d ++ drop keep d = sym (take-append-drop keep d) in
        split ∙ ap (λ (x : List ℕ). front ++ (((word e (length d) ++ (tag_of e ++ x)) ++ bytes_of (gap f [])) ++ back)) q ∙ (simp append_assoc)

    data_is : sized a d ≡ take keep d ++ zeros (a - keep)
    data_is =
        let n : a - length d ≡ a - keep = omega arith in
        ap₂ (λ (x : List ℕ) (k : ℕ). x ++ replicate k 0) (sym (ap (λ (k : ℕ). take k d) (ek ∙ ap (min a) eb) ∙ take_min a d)) n

    new_is : (t : List ℕ) → bytes_of (gap g []) ≡ t → front ++ (word e a ++ (tag_of e ++ ((take keep d ++ zeros (a - keep)) ++ (t ++ back)))) ≡ front ++ (bytes_of new ++ back)
    unfolding bytes_of
    new_is t q =
        sym (ap₂ (λ (n : ℕ) (y : List ℕ). front ++ (((word e n ++ (tag_of e ++ sized a d)) ++ y) ++ back)) la q
        ∙ ap (λ (x : List ℕ). front ++ (((word e a ++ (tag_of e ++ x)) ++ t) ++ back)) data_is
        ∙ (simp append_assoc))

    module _ (z₁ z₂ : List ℕ) (e₁ : z₁ ≡ overwrite z (at + keep) (replicate (at + b + f - (at + keep)) 0)) (e₂ : z₂ ≡ overwrite z₁ (at - header_of e) (word e a)) where
      after : z₂ ≡ front ++ (word e a ++ (tag_of e ++ (take keep d ++ (zeros (b + f - keep) ++ back))))
      after =
          let n : at + b + f - (at + keep) ≡ b + f - keep = omega arith in
          let p : at - header_of e ≡ o = omega arith in
          let y₁ : z₁ ≡ front ++ (word e (length d) ++ (tag_of e ++ (take keep d ++ (zeros (b + f - keep) ++ back)))) =
          e₁ ∙ ap₂ (λ (y : List ℕ) (k : ℕ). overwrite y (at + keep) (zeros k)) z-is n
          ∙ deep front (word e (length d)) (tag_of e) (take keep d) gone (zeros (b + f - keep)) back (at + keep) (omega (arith, lf, lw (length d), tag-long e, long-keep)) (long-gone ∙ sym (length-replicate {A = ℕ} (b + f - keep) 0)) in
          e₂ ∙ ap₂ (λ (y : List ℕ) (k : ℕ). overwrite y k (word e a)) y₁ p
          ∙ write_mid front (word e (length d)) (word e a) (tag_of e ++ (take keep d ++ (zeros (b + f - keep) ++ back))) o lf (lw (length d) ∙ sym (lw a))

      pub all-taken : b + f ≤ a → z₂ ≡ front ++ (bytes_of new ++ back)
      all-taken l =
          let n : b + f - keep ≡ a - keep = omega arith in
          after ∙ ap (λ (k : ℕ). front ++ (word e a ++ (tag_of e ++ (take keep d ++ (zeros k ++ back))))) n ∙ (simp append_assoc) ∙ new_is [] (gap-none g (omega arith))

      pub part_left : (z₃ : List ℕ) → a < b + f → z₃ ≡ overwrite z₂ (at + a) (to_be 4 ((b + f - a) / 2)) → z₃ ≡ front ++ (bytes_of new ++ back)
      part_left z₃ l e₃ =
          let k = take keep d ++ zeros (a - keep) in
          let v4 = to_be 4 (g / 2) in
          let n : zeros (b + f - keep) ≡ zeros (a - keep) ++ (zeros free_header ++ zeros (g - free_header)) =
          (let q : b + f - keep ≡ a - keep + (free_header + (g - free_header)) = omega arith in ap zeros q)
          ∙ sym (replicate-append-replicate {A = ℕ} (a - keep) (free_header + (g - free_header)) 0) ∙ ap (zeros (a - keep) ++◌) (sym (replicate-append-replicate {A = ℕ} free_header (g - free_header) 0)) in
          let y₂ : z₂ ≡ front ++ (word e a ++ (tag_of e ++ (k ++ (zeros free_header ++ (zeros (g - free_header) ++ back))))) =
          after ∙ ap (λ (x : List ℕ). front ++ (word e a ++ (tag_of e ++ (take keep d ++ (x ++ back))))) n ∙ (simp append_assoc) in
          let lk : length k ≡ a = omega (arith, length-append (take keep d) (zeros (a - keep)), long-keep, length-replicate {A = ℕ} (a - keep) 0) in
          e₃ ∙ ap (λ (y : List ℕ). overwrite y (at + a) v4) y₂
          ∙ deep front (word e a) (tag_of e) k (zeros free_header) v4 (zeros (g - free_header) ++ back) (at + a) (omega (arith, lf, lw a, tag-long e, lk)) (length-replicate {A = ℕ} free_header 0 ∙ sym (length-to_be 4 (g / 2)))
          ∙ (simp append_assoc) ∙ new_is (v4 ++ zeros (g - free_header)) (gap-some g (omega arith))
