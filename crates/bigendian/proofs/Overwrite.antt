-- What a write leaves: its length, and the bytes before it, in it and behind it.
use mathlib.Core.Path.{◌≡◌, refl, sym, ap, ap₂, ◌∙◌}
use mathlib.Core.List.{List, [], ◌++◌, append_assoc, append-nil}
use Prim.Native.Nat.{ℕ, ◌+◌, ◌-◌, ◌≤◌}
use native.Mathlib.Nat.{zero-add, add-zero, add_assoc}
use native.Mathlib.Omega.{arith}
use lib.ListN.{length, take, drop, length-append, length-take, length-drop, take-append-drop}
use lib.Seq.{drop-drop, take_at, drop_at, take-take, take-append-add, drop-append-add, take-append-le, drop-append-le, length-take-le}
use Rattle.bigendian.specs.BigEndian.{slice, overwrite}
use Rattle.bigendian.proofs.Parts.{slice-take}

pub write-right : (a b src : List ℕ) (p : ℕ) → overwrite (a ++ b) (length a + p) src ≡ a ++ overwrite b p src
write-right a b src p =
    rw (take-append-add a b p, add_assoc (length a) p (length src), drop-append-add a b (p + length src))
    (simp append_assoc)

pub write-left : (a b src : List ℕ) (p : ℕ) → p + length src ≤ length a → overwrite (a ++ b) p src ≡ overwrite a p src ++ b
write-left a b src p l =
    let l₀ : p ≤ length a = omega arith in
    rw (take-append-le p a b l₀, drop-append-le (p + length src) a b l) (simp append_assoc)

pub write-length : (a src : List ℕ) (p : ℕ) → p + length src ≤ length a → length (overwrite a p src) ≡ length a
write-length a src p l = simp (length-append, length-take, length-drop) (omega arith)

pub take-write : (s : List ℕ) (at n : ℕ) (b : List ℕ) → at ≤ length s → length b ≡ n → take (at + n) (overwrite s at b) ≡ take at s ++ b
take-write s at n b h e = take_at (take at s ++ b) (drop (at + length b) s) (at + n) (simp (length-append, length-take) (omega arith))

-- what lies behind a write stays
pub drop-write : (s : List ℕ) (at n : ℕ) (b : List ℕ) → at + length b ≤ n → n ≤ length s → drop n (overwrite s at b) ≡ drop n s
drop-write s at n b h k =
    let m = n - (at + length b) in
    let p = take at s ++ b in
    let e : n ≡ length p + m = simp (length-append, length-take) (omega arith) in
    let e' : at + length b + m ≡ n = omega arith in
    ap (λ (j : ℕ). drop j (overwrite s at b)) e ∙ drop-append-add p (drop (at + length b) s) m ∙ drop-drop m (at + length b) s ∙ ap (λ (j : ℕ). drop j s) e'

-- what is written where it stands changes nothing
pub write-still : (s : List ℕ) (at n : ℕ) → at + n ≤ length s → s ≡ overwrite s at (slice s at n)
write-still s at n h =
    let lc : length (slice s at n) ≡ n = simp (length-take, length-drop) (omega arith) in
    let d : slice s at n ++ drop (at + n) s ≡ drop at s = ap (λ (x : List ℕ). slice s at n ++ x) (sym (drop-drop n at s)) ∙ take-append-drop n (drop at s) in
    rw lc (sym (append_assoc (take at s) (slice s at n) (drop (at + n) s) ∙ ap (λ (x : List ℕ). take at s ++ x) d ∙ take-append-drop at s))

pub len-write : (s x y : List ℕ) (p : ℕ) → y ≡ overwrite s p x → p + length x ≤ length s → length y ≡ length s
len-write s x y p e l = ap length e ∙ write-length s x p l

-- of two writes that do not meet either may be the first
pub swap : (z x y : List ℕ) (p q : ℕ) → p + length x ≤ q → q ≤ length z → overwrite (overwrite z q y) p x ≡ overwrite (overwrite z p x) q y
swap z x y p q l u =
    let f = take q z in
    let r = drop (q + length y) z in
    let n : length f ≡ q = length-take-le q z u in
    let m : p + length x ≤ length f = omega arith in
    let g = overwrite f p x in
    let k : q ≡ length g + 0 = omega (arith, write-length f x p m) in
    let e : overwrite z p x ≡ g ++ drop q z = ap (λ (s : List ℕ). overwrite s p x) (sym (take-append-drop q z)) ∙ write-left f (drop q z) x p m in
    ap (λ (s : List ℕ). overwrite s p x) (append_assoc f y r)
    ∙ write-left f (y ++ r) x p m
    ∙ ap (λ (s : List ℕ). g ++ (y ++ s)) (sym (drop-drop (length y) q z) ∙ ap (λ (j : ℕ). drop j (drop q z)) (sym (zero-add (length y))))
    ∙ sym (ap₂ (λ (s : List ℕ) (o : ℕ). overwrite s o y) e k ∙ write-right g (drop q z) y 0)

pub write-none : (s : List ℕ) (i : ℕ) → overwrite s i [] ≡ s
write-none s i = rw (add-zero, append-nil, take-append-drop)

-- what lies before a write stays
pub before-write : (s b : List ℕ) (p at : ℕ) → p ≤ at → at ≤ length s → take p (overwrite s at b) ≡ take p s
before-write s b p at h l =
    let lt = length-take-le at s l in
    let e : take p (overwrite s at b) ≡ take p (take at s ++ b) = take-append-le p (take at s ++ b) (drop (at + length b) s) (omega (arith, length-append (take at s) b)) in
    e ∙ take-append-le p (take at s) b (omega arith) ∙ take-take p at s h

-- a write right behind a write
pub write-more : (z u v : List ℕ) (at k : ℕ) → k ≡ at + length u → k + length v ≤ length z → overwrite (overwrite z at u) k v ≡ overwrite z at (u ++ v)
write-more z u v at k e l =
    let h : at ≤ length z = omega arith in
    let f : k + length v ≡ at + length (u ++ v) = rw length-append (omega arith) in
    rw (drop-write z at (k + length v) u (omega arith) l, f, e, take-write z at (length u) u h refl, append_assoc (take at z) u v)

-- a write before one
pub write-before : (s a b : List ℕ) (p : ℕ) → p + length a + length b ≤ length s → overwrite (overwrite s (p + length a) b) p a ≡ overwrite s p (a ++ b)
write-before s a b p h =
    let q = p + length a in
    let r = drop (q + length b) s in
    let t : take p (overwrite s q b) ≡ take p s = before-write s b p q (omega arith) (omega arith) in
    let d : drop q (overwrite s q b) ≡ b ++ r = ap (drop q) (append_assoc (take q s) b r) ∙ drop_at (take q s) (b ++ r) q (length-take-le q s (omega arith)) in
    let e : p + length (a ++ b) ≡ q + length b = omega (arith, length-append a b) in
    rw (t, d, e) (simp append_assoc)

-- what stands behind a write may be counted to it
pub write-pad : (z u v : List ℕ) (at k n : ℕ) → k ≡ at + length u → slice z k n ≡ v → k + n ≤ length z → overwrite z at u ≡ overwrite z at (u ++ v)
write-pad z u v at k n e ev l =
    let lv : length v ≡ n = rw (← ev) (simp (length-take, length-drop) (omega arith)) in
    let f : at + length (u ++ v) ≡ k + n = rw length-append (omega arith) in
    let s : drop (at + length u) z ≡ v ++ drop (k + n) z =
    sym (take-append-drop n (drop (at + length u) z)) ∙ (rw (← e, ev, drop-drop)) in
    rw (s, f) (simp append_assoc)

-- an overwrite of x' over x, where a stands before it
pub write_mid : (a x x' r : List ℕ) (p : ℕ) → length a ≡ p → length x ≡ length x' → overwrite (a ++ (x ++ r)) p x' ≡ a ++ (x' ++ r)
write_mid a x x' r p e l =
    let e₁ : p + length x' ≡ length a + length x = omega arith in
    rw (take_at a (x ++ r) p e, e₁, drop-append-add a (x ++ r) (length x), drop_at x r (length x) refl) (append_assoc a x' r)

-- a stretch before a write stays, and one behind it
pub slice-low : (s x : List ℕ) (p o n : ℕ) → o + n ≤ p → p ≤ length s → slice (overwrite s p x) o n ≡ slice s o n
slice-low s x p o n l k = sym (slice-take (overwrite s p x) p o n l) ∙ ap (λ (y : List ℕ). slice y o n) (before-write s x p p (omega arith) k) ∙ slice-take s p o n l

pub slice-high : (s x : List ℕ) (p o n : ℕ) → p + length x ≤ o → o ≤ length s → slice (overwrite s p x) o n ≡ slice s o n
slice-high s x p o n l k = ap (take n) (drop-write s p o x l k)
