-- A slide in place, a part a turn: what is left to move is written behind what has been, or before it.
use mathlib.Core.Path.{◌≡◌, refl, sym, ap, ap₂, ◌∙◌}
use mathlib.Core.List.{List, ◌++◌}
use Prim.Native.Nat.{ℕ, ◌+◌, ◌-◌, ◌<◌, ◌≤◌}
use native.Mathlib.Omega.{arith}
use lib.ListN.{length, take, drop, length-append, length-drop}
use lib.Seq.{length-take-le, take_at}
use Rattle.bigendian.specs.BigEndian.{slice, overwrite}
use Rattle.bigendian.proofs.Overwrite.{drop-write, write-none, before-write, write-more, write-before}
use Rattle.bigendian.proofs.Parts.{slice-add, length-slice, slice-take}

-- ---- a turn

pub down_step : (s t w : List ℕ) (dst src k n m : ℕ) → t ≡ overwrite s (dst + k) (slice s (src + k) m) → k < n → m ≤ n - k → dst ≤ src → src + n ≤ length s
    → overwrite s (dst + k) (slice s (src + k) (n - k)) ≡ w → overwrite t (dst + (k + m)) (slice t (src + (k + m)) (n - (k + m))) ≡ w
down_step s t w dst src k n m et h hm d l inv =
    let j = n - (k + m) in
    let a = slice s (src + k) m in
    let b = slice s (src + k + m) j in
    let la : length a ≡ m = length-slice s (src + k) m (omega arith) in
    let lb : length b ≡ j = length-slice s (src + k + m) j (omega arith) in
    let e₁ : n - k ≡ m + j = omega arith in
    let e₂ : src + (k + m) ≡ src + k + m = omega arith in
    let e₃ : dst + (k + m) ≡ dst + k + length a = omega arith in
    let f : drop (src + k + m) t ≡ drop (src + k + m) s = ap (drop (src + k + m)) et ∙ drop-write s (dst + k) (src + k + m) a (omega arith) (omega arith) in
    let g : slice t (src + (k + m)) j ≡ b = ap (λ (i : ℕ). slice t i j) e₂ ∙ ap (take j) f in
    ap₂ (λ (i : ℕ) (x : List ℕ). overwrite t i x) e₃ g
    ∙ ap (λ (x : List ℕ). overwrite x (dst + k + length a) b) et
    ∙ write-more s a b (dst + k) (dst + k + length a) refl (omega arith)
    ∙ ap (overwrite s (dst + k)) (sym (ap (slice s (src + k)) e₁ ∙ slice-add s (src + k) m j))
    ∙ inv

pub down-done : (s w : List ℕ) (dst src k n : ℕ) → n ≤ k → overwrite s (dst + k) (slice s (src + k) (n - k)) ≡ w → s ≡ w
down-done s w dst src k n h inv =
    let e : n - k ≡ 0 = omega arith in
    sym (write-none s (dst + k)) ∙ (rw e at inv)

pub up_step : (s t w : List ℕ) (dst src k m : ℕ) → t ≡ overwrite s (dst + (k - m)) (slice s (src + (k - m)) m) → m ≤ k → src ≤ dst → dst + k ≤ length s
    → overwrite s dst (slice s src k) ≡ w → overwrite t dst (slice t src (k - m)) ≡ w
up_step s t w dst src k m et hm d l inv =
    let j = k - m in
    let a = slice s src j in
    let b = slice s (src + j) m in
    let la : length a ≡ j = length-slice s src j (omega arith) in
    let lb : length b ≡ m = length-slice s (src + j) m (omega arith) in
    let e₁ : k ≡ j + m = omega arith in
    let e₂ : dst + j ≡ dst + length a = omega arith in
    let f : take (src + j) t ≡ take (src + j) s = ap (take (src + j)) et ∙ before-write s b (src + j) (dst + j) (omega arith) (omega arith) in
    let lt : length t ≡ length s = ap length et ∙ omega (arith, length-append (take (dst + j) s ++ b) (drop (dst + j + length b) s), length-append (take (dst + j) s) b, length-take-le (dst + j) s (omega arith), length-drop (dst + j + length b) s) in
    let g : slice t src j ≡ a = sym (slice-take t (src + j) src j (omega arith)) ∙ ap (λ (x : List ℕ). slice x src j) f ∙ slice-take s (src + j) src j (omega arith) in
    ap (overwrite t dst) g
    ∙ ap (λ (x : List ℕ). overwrite x dst a) (et ∙ ap (λ (i : ℕ). overwrite s i b) e₂)
    ∙ write-before s a b dst (omega arith)
    ∙ ap (overwrite s dst) (sym (ap (slice s src) e₁ ∙ slice-add s src j m))
    ∙ inv

pub up_done : (s w : List ℕ) (dst src k : ℕ) → k ≤ 0 → overwrite s dst (slice s src k) ≡ w → s ≡ w
up_done s w dst src k h inv =
    let e : k ≡ 0 = omega arith in
    sym (write-none s dst) ∙ (rw e at inv)

-- ---- a part through a buffer

pub through-law : (s s₁ t t₁ : List ℕ) (dst src n : ℕ) → src + n ≤ length s → t₁ ≡ overwrite t 0 (slice s src (src + n - src)) → s₁ ≡ overwrite s dst (slice t₁ 0 (n - 0)) → s₁ ≡ overwrite s dst (slice s src n)
through-law s s₁ t t₁ dst src n h et es =
    let e₁ : src + n - src ≡ n = omega arith in
    let e₂ : n - 0 ≡ n = omega arith in
    let x = slice s src n in
    let f : take n t₁ ≡ x = ap (take n) (et ∙ ap (λ (i : ℕ). overwrite t 0 (slice s src i)) e₁) ∙ take_at x (drop (0 + length x) t) n (length-slice s src n h) in
    es ∙ ap (overwrite s dst) (ap (λ (i : ℕ). take i t₁) e₂ ∙ f)
