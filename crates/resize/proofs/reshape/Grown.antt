-- Four writes make the grown part.
use mathlib.Core.Path.{◌≡◌, refl, sym, ap, ap₂, ◌∙◌}
use mathlib.Core.List.{List, [], ◌++◌, append_assoc}
use Prim.Native.Nat.{ℕ, ◌+◌, ◌-◌, ◌*◌, ◌/◌, ◌%◌, ◌<◌, ◌≤◌}
use native.Mathlib.Omega.{arith}
use lib.ListN.{length, take, drop, replicate, length-replicate, length-append, length-take, length-drop, take-append-drop, drop_of_length-le}
use lib.Seq.{drop-drop, drop-append-add}
use Rattle.block_type.specs.Limits.{free_header, reloc_code, type_unit, tag_at}
use Rattle.bigendian.specs.BigEndian.{to_be, slice, overwrite}
use Rattle.bigendian.proofs.Laws.{length-to_be}
use Rattle.bigendian.proofs.Overwrite.{write_mid}
use Rattle.bigendian.proofs.Parts.{drop-zeros, slice-rest}
use Rattle.bay.specs.Bay.{free, gap}
use Rattle.bay.specs.Bytes.{encode_cell}
use Rattle.bay.specs.Sound.{bytes_of}
use Rattle.bay.proofs.BayBytes.{gap-some, gap-none}
use Rattle.resize.specs.reshape.Grow.{grown_bytes, Room}

module _ (A H D B G : List ℕ) (at o top run more : ℕ) (lA : length A ≡ at) (lH : length H ≡ tag_at) (lD : at + tag_at + length D ≡ o) (lB : length B ≡ run) (lG : more ≤ length G) (et : top ≡ o + more) where
  abbrev X : List ℕ
  X = take more (B ++ G)

  abbrev R : List ℕ
  R = drop more (B ++ G)

  Y : List ℕ
  Y = drop run R

  l_x : length X ≡ more
  l_x = omega (arith, length-take more (B ++ G), length-append B G)

  l_m : length (take run R) ≡ length B
  l_m = omega (arith, length-take run R, length-drop more (B ++ G), length-append B G)

  step1 : overwrite (A ++ (H ++ (D ++ (B ++ G)))) top B ≡ A ++ (H ++ (D ++ (X ++ (B ++ Y))))
  unfolding Y
  step1 =
      let a = A ++ (H ++ (D ++ X)) in
      let la : length a ≡ top = omega (arith, length-append A (H ++ (D ++ X)), length-append H (D ++ X), length-append D X, l_x) in
      let e : B ++ G ≡ X ++ (take run R ++ Y) = sym (take-append-drop more (B ++ G)) ∙ ap (λ (x : List ℕ). X ++ x) (sym (take-append-drop run R)) in
      let g : (t : List ℕ) → A ++ (H ++ (D ++ (X ++ t))) ≡ a ++ t = λ t. simp append_assoc in
      ap (λ (x : List ℕ). overwrite (A ++ (H ++ (D ++ x))) top B) e
      ∙ ap (λ (x : List ℕ). overwrite x top B) (g (take run R ++ Y))
      ∙ write_mid a (take run R) B Y top la l_m
      ∙ sym (g (B ++ Y))

  step2 : overwrite (A ++ (H ++ (D ++ (X ++ (B ++ Y))))) o (replicate more 0) ≡ A ++ (H ++ (D ++ (replicate more 0 ++ (B ++ Y))))
  step2 =
      let a = A ++ (H ++ D) in
      let la : length a ≡ o = omega (arith, length-append A (H ++ D), length-append H D) in
      let g : (t : List ℕ) → A ++ (H ++ (D ++ t)) ≡ a ++ t = λ t. simp append_assoc in
      ap (λ (x : List ℕ). overwrite x o (replicate more 0)) (g (X ++ (B ++ Y)))
      ∙ write_mid a X (replicate more 0) (B ++ Y) o la (l_x ∙ sym (length-replicate {A = ℕ} more 0))
      ∙ sym (g (replicate more 0 ++ (B ++ Y)))

  step3 : (H' : List ℕ) → length H' ≡ tag_at → overwrite (A ++ (H ++ (D ++ (replicate more 0 ++ (B ++ Y))))) at H' ≡ A ++ (H' ++ (D ++ (replicate more 0 ++ (B ++ Y))))
  step3 H' l = write_mid A H H' (D ++ (replicate more 0 ++ (B ++ Y))) at lA (lH ∙ sym l)

  step4 : (H' T : List ℕ) → length H' ≡ tag_at → length T ≡ length (take free_header Y) → overwrite (A ++ (H' ++ (D ++ (replicate more 0 ++ (B ++ Y))))) (top + run) T ≡ A ++ (H' ++ (D ++ (replicate more 0 ++ (B ++ (T ++ drop free_header Y)))))
  step4 H' T l l_t =
      let z = replicate {A = ℕ} more 0 in
      let a = A ++ (H' ++ (D ++ (z ++ B))) in
      let la : length a ≡ top + run = omega (arith, length-append A (H' ++ (D ++ (z ++ B))), length-append H' (D ++ (z ++ B)), length-append D (z ++ B), length-append z B, length-replicate {A = ℕ} more 0) in
      let g : (t : List ℕ) → A ++ (H' ++ (D ++ (z ++ (B ++ t)))) ≡ a ++ t = λ t. simp append_assoc in
      ap (λ (x : List ℕ). overwrite x (top + run) T) (g Y ∙ ap (λ (y : List ℕ). a ++ y) (sym (take-append-drop free_header Y)))
      ∙ write_mid a (take free_header Y) T (drop free_header Y) (top + run) la (sym l_t)
      ∙ sym (g (T ++ drop free_header Y))

  Y-is : Y ≡ drop more G
  unfolding Y
  Y-is =
      let e : run + more ≡ length B + more = omega arith in
      drop-drop run more (B ++ G) ∙ ap (λ (k : ℕ). drop k (B ++ G)) comm ∙ drop-append-add B G more
    where
      comm : more + run ≡ length B + more
      comm = omega arith

gap-bytes : (n more : ℕ) (G : List ℕ) → G ≡ encode_cell (free n) → free_header ≤ more → more < n → n % 4 ≡ 0 → more % 4 ≡ 0 → to_be 4 ((n - more) / 2) ++ drop free_header (drop more G) ≡ bytes_of (gap (n - more) [])
gap-bytes n more G e l k q q' =
    let t = to_be 4 (n / 2) in
    let lt = length-to_be 4 (n / 2) in
    let j : more + free_header ≡ length t + more = omega arith in
    let d : drop (more + free_header) (t ++ replicate (n - free_header) 0) ≡ replicate (n - more - free_header) 0 =
    ap (λ (x : ℕ). drop x (t ++ replicate (n - free_header) 0)) j ∙ drop-append-add t (replicate (n - free_header) 0) more ∙ drop-zeros more (n - free_header) ∙ ap (λ (x : ℕ). replicate {A = ℕ} x 0) swap in
    rw (e, drop-drop free_header more (t ++ replicate (n - free_header) 0), d, gap-some (n - more) (omega arith))
  where
    swap : n - free_header - more ≡ n - more - free_header
    swap = omega arith

module _ (s s₁ s₂ s₃ : List ℕ) (at o run more : ℕ) (x : Room s at o run more)
    (e₁ : s₁ ≡ overwrite s (o + more) (slice s o run)) (e₂ : s₂ ≡ overwrite s₁ o (replicate (o + more - o) 0)) (e₃ : s₃ ≡ overwrite s₂ at (to_be 2 (reloc_code * type_unit + (o + more - at) / 2))) where
  abbrev a₀ : List ℕ
  a₀ = take at s

  abbrev h₀ : List ℕ
  h₀ = slice s at 2

  abbrev d₀ : List ℕ
  d₀ = slice s (at + tag_at) (o - (at + tag_at))

  abbrev b₀ : List ℕ
  b₀ = slice s o run

  abbrev g₀ : List ℕ
  g₀ = drop (o + run) s

  abbrev h₁ : List ℕ
  h₁ = to_be 2 (reloc_code * type_unit + (o + more - at) / 2)

  parts : s ≡ a₀ ++ (h₀ ++ (d₀ ++ (b₀ ++ g₀)))
  parts =
      let k : at + tag_at + (o - (at + tag_at)) ≡ o = omega (arith, x.low) in
      sym (take-append-drop at s) ∙ ap (λ (y : List ℕ). a₀ ++ y) (slice-rest s at tag_at ∙ ap (λ (y : List ℕ). h₀ ++ y)
      (slice-rest s (at + tag_at) (o - (at + tag_at)) ∙ ap (λ (y : List ℕ). d₀ ++ y) (ap (λ (m : ℕ). drop m s) k ∙ slice-rest s o run)))

  la : length a₀ ≡ at
  la = omega (arith, length-take at s, x.low, x.inside)

  lh : length h₀ ≡ tag_at
  lh = omega (arith, length-take tag_at (drop at s), length-drop at s, x.low, x.inside)

  ld : at + tag_at + length d₀ ≡ o
  ld = omega (arith, length-take (o - (at + tag_at)) (drop (at + tag_at) s), length-drop (at + tag_at) s, x.low, x.inside)

  lb : length b₀ ≡ run
  lb = omega (arith, length-take run (drop o s), length-drop o s, x.inside)

  lg : more ≤ length g₀
  lg = omega (arith, length-drop (o + run) s, x.inside)

  y₀ : List ℕ
  y₀ = Y a₀ h₀ d₀ b₀ g₀ at o (o + more) run more la lh ld lb lg refl

  three : s₃ ≡ a₀ ++ (h₁ ++ (d₀ ++ (replicate more 0 ++ (b₀ ++ y₀))))
  unfolding y₀
  three =
      let m : o + more - o ≡ more = omega arith in
      e₃ ∙ ap (λ (y : List ℕ). overwrite y at h₁)
      (e₂ ∙ ap₂ (λ (y : List ℕ) (k : ℕ). overwrite y o (replicate k 0)) (e₁ ∙ ap (λ (y : List ℕ). overwrite y (o + more) b₀) parts ∙ step1 a₀ h₀ d₀ b₀ g₀ at o (o + more) run more la lh ld lb lg refl) m
      ∙ step2 a₀ h₀ d₀ b₀ g₀ at o (o + more) run more la lh ld lb lg refl)
      ∙ step3 a₀ h₀ d₀ b₀ g₀ at o (o + more) run more la lh ld lb lg refl h₁ (length-to_be 2 (reloc_code * type_unit + (o + more - at) / 2))

  y-is : y₀ ≡ drop more g₀
  unfolding y₀
  y-is = Y-is a₀ h₀ d₀ b₀ g₀ at o (o + more) run more la lh ld lb lg refl

  pub grow-some : (s₄ : List ℕ) → o + more + run < length s → s₄ ≡ overwrite s₃ (o + more + run) (to_be 4 ((length s - (o + more + run)) / 2)) → s₄ ≡ grown_bytes s at o run more
  unfolding grown_bytes y₀
  grow-some s₄ l e₄ =
      let n = length s - (o + run) in
      let w : length s - (o + more + run) ≡ n - more = omega arith in
      let T = to_be 4 ((n - more) / 2) in
      let l_t : length T ≡ length (take free_header y₀) = omega (arith, length-to_be 4 ((n - more) / 2), length-take free_header y₀, ap length y-is, length-drop more g₀, length-drop (o + run) s, x.four, x.four_n, x.inside) in
      e₄ ∙ ap₂ (λ (y : List ℕ) (k : ℕ). overwrite y (o + more + run) (to_be 4 (k / 2))) three w
      ∙ step4 a₀ h₀ d₀ b₀ g₀ at o (o + more) run more la lh ld lb lg refl h₁ T (length-to_be 2 (reloc_code * type_unit + (o + more - at) / 2)) l_t
      ∙ ap (λ (y : List ℕ). a₀ ++ (h₁ ++ (d₀ ++ (replicate more 0 ++ (b₀ ++ y)))))
      (ap (λ (y : List ℕ). T ++ drop free_header y) y-is ∙ gap-bytes n more g₀ x.bytes x.some (omega arith) x.four_n x.four)

  pub grow-none : length s ≤ o + more + run → s₃ ≡ grown_bytes s at o run more
  unfolding grown_bytes
  grow-none l =
      let e : y₀ ≡ [] = y-is ∙ (let q : length g₀ ≤ more = omega (arith, length-drop (o + run) s) in drop_of_length-le g₀ q) in
      three ∙ ap (λ (y : List ℕ). a₀ ++ (h₁ ++ (d₀ ++ (replicate more 0 ++ (b₀ ++ y))))) (e ∙ sym (gap-none (length s - (o + run) - more) (omega arith)))
