-- Two strips whose bays are related by R and whose fixed blocks are related by Q: each function of Bays keeps that, for ANY R and Q.
use mathlib.Core.Path.{◌≡◌, refl, ap, ap₂, subst}
use mathlib.Core.Bool.{Bool, true, false, cond, true≢false, false≢true}
use mathlib.Core.Option.{Option, none, some}
use Prim.Native.Nat.{ℕ, ◌+◌, ◌-◌, max}
use Rattle.calls.specs.Bays.{Bays, last, more, over, or_else, on_first, map_s, on_fixed, on_last, sum_s, max_s, max_less, first_s, last_s}
use Rattle.zone.specs.PickBays.{on_low, on_high, glue, on_join}

-- both absent, or both present and related
pub data Both {A B : Type 0} (R : A → B → Type 0) : Option A → Option B → Type 0 where
  absent : Both R none none
  present : {a : A} {b : B} → R a b → Both R (some a) (some b)

pub over-both : {A B C D : Type 0} {R : A → B → Type 0} {Q : C → D → Type 0} (f : A → C) (g : B → D) {a : Option A} {b : Option B}
    → ((x : A) (y : B) → R x y → Q (f x) (g y)) → Both R a b → Both Q (over f a) (over g b)
over-both f g h absent = absent
over-both f g h (present {a = a} {b = b} r) = present (h a b r)

pub or_else-both : {A B : Type 0} {R : A → B → Type 0} {a a' : Option A} {b b' : Option B} → Both R a b → Both R a' b' → Both R (or_else a a') (or_else b b')
or_else-both absent q = q
or_else-both (present r) q = present r

pub cond_both : {A B : Type 0} {R : A → B → Type 0} {a a' : Option A} {b b' : Option B} (t u : Bool)
    → t ≡ u → (t ≡ true → Both R a b) → Both R a' b' → Both R (cond t a a') (cond u b b')
cond_both true true e p q = p refl
cond_both false false e p q = q
cond_both true false e p q = absurd (true≢false e)
cond_both false true e p q = absurd (false≢true e)

module _ {B C F G : Type 0} (R : B → C → Type 0) (Q : F → G → Type 0) where
  pub data Like : Bays B F → Bays C G → Type 0 where
    like-last : {b : B} {c : C} → R b c → Like (last b) (last c)
    like-more : {b : B} {c : C} {x : F} {y : G} {s : Bays B F} {t : Bays C G} → R b c → Q x y → Like s t → Like (more b x s) (more c y t)

  module _ (t : B → Bool) (u : C → Bool) (tu : (b : B) (c : C) → R b c → t b ≡ u c)
      (f : B → B) (g : C → C) (fg : (b : B) (c : C) → R b c → t b ≡ true → R (f b) (g c)) where
    pub on_low-like : {s : Bays B F} {s' : Bays C G} → Like s s' → Both Like (on_low t f s) (on_low u g s')
    on_low-like (like-last {b = b} {c = c} r) = cond_both (t b) (u c) (tu b c r) (λ e. present (like-last (fg b c r e))) absent
    on_low-like (like-more {b = b} {c = c} {x = x} {y = y} r e l) =
        cond_both (t b) (u c) (tu b c r) (λ h. present (like-more (fg b c r h) e l))
        (over-both (more b x) (more c y) (λ v w k. like-more r e k) (on_low-like l))

    module _ (mk : ℕ → F) (mk' : ℕ → G) (mkQ : (n : ℕ) → Q (mk n) (mk' n)) (eb : B) (ec : C) (ebc : R eb ec)
        (at : F → ℕ) (at' : G → ℕ) (atQ : (x : F) (y : G) → Q x y → at x ≡ at' y) (end : ℕ) where
      abbrev Split : F × Bays B F → G × Bays C G → Type 0
      Split p q = Q p.0 q.0 × Like p.1 q.1

      pub on_high-like : {s : Bays B F} {s' : Bays C G} → Like s s' → Both Split (on_high t f mk eb at end s) (on_high u g mk' ec at' end s')
      on_high-like (like-last {b = b} {c = c} r) = cond_both (t b) (u c) (tu b c r) (λ e. present (mkQ end, like-more (fg b c r e) (mkQ end) (like-last ebc))) absent
      on_high-like (like-more {b = b} {c = c} {x = x} {y = y} r e l) =
          or_else-both (over-both _ _ (λ v w k. (k.0, like-more r e k.1)) (on_high-like l))
          (cond_both (t b) (u c) (tu b c r) (λ h. present (made, like-more (fg b c r h) made (like-more ebc e l))) absent)
        where
          made : Q (mk (at x)) (mk' (at' y))
          made = subst (λ n. Q (mk (at x)) (mk' n)) (atQ x y e) (mkQ (at x))

  module _ (j : B → F → B → B) (k : C → G → C → C) (jk : (b b' : B) (c c' : C) (x : F) (y : G) → R b c → R b' c' → Q x y → R (j b x b') (k c y c')) where
    pub glue-like : {b : B} {c : C} {x : F} {y : G} {s : Bays B F} {s' : Bays C G} → R b c → Q x y → Like s s' → Like (glue j b x s) (glue k c y s')
    glue-like r e (like-last q) = like-last (jk _ _ _ _ _ _ r q e)
    glue-like r e (like-more q e' l) = like-more (jk _ _ _ _ _ _ r q e) e' l

    pub on_join-like : (p : F → Bool) (p' : G → Bool) → ((x : F) (y : G) → Q x y → p x ≡ p' y) → {s : Bays B F} {s' : Bays C G} → Like s s' → Both Like (on_join p j s) (on_join p' k s')
    on_join-like p p' h (like-last r) = absent
    on_join-like p p' h (like-more {b = b} {c = c} {x = x} {y = y} r e l) =
        cond_both (p x) (p' y) (h x y e) (λ h. present (glue-like r e l)) (over-both (more b x) (more c y) (λ v w k. like-more r e k) (on_join-like p p' h l))

  pub map_s-like : (f : B → B) (g : C → C) → ((b : B) (c : C) → R b c → R (f b) (g c)) → {s : Bays B F} {s' : Bays C G} → Like s s' → Like (map_s f s) (map_s g s')
  map_s-like f g h (like-last r) = like-last (h _ _ r)
  map_s-like f g h (like-more r e l) = like-more (h _ _ r) e (map_s-like f g h l)

  pub on_fixed-like : (f : F → F) (g : G → G) → ((x : F) (y : G) → Q x y → Q (f x) (g y)) → {s : Bays B F} {s' : Bays C G} → Like s s' → Like (on_fixed f s) (on_fixed g s')
  on_fixed-like f g h (like-last r) = like-last r
  on_fixed-like f g h (like-more r e l) = like-more r (h _ _ e) (on_fixed-like f g h l)

  pub on_first-like : (f : B → B) (g : C → C) {s : Bays B F} {s' : Bays C G} → Like s s' → R (f (first_s s)) (g (first_s s')) → Like (on_first f s) (on_first g s')
  on_first-like f g (like-last r) q = like-last q
  on_first-like f g (like-more r e l) q = like-more q e l

  pub first_s-like : {s : Bays B F} {s' : Bays C G} → Like s s' → R (first_s s) (first_s s')
  first_s-like (like-last r) = r
  first_s-like (like-more r e l) = r

  pub on_last-like : (f : B → B) (g : C → C) {s : Bays B F} {s' : Bays C G} → Like s s' → R (f (last_s s)) (g (last_s s')) → Like (on_last f s) (on_last g s')
  on_last-like f g (like-last r) q = like-last q
  on_last-like f g (like-more r e l) q = like-more r e (on_last-like f g l q)

  pub last_s-like : {s : Bays B F} {s' : Bays C G} → Like s s' → R (last_s s) (last_s s')
  last_s-like (like-last r) = r
  last_s-like (like-more r e l) = last_s-like l

  pub sum_s-like : (μ : B → ℕ) (ν : C → ℕ) → ((b : B) (c : C) → R b c → μ b ≡ ν c) → {s : Bays B F} {s' : Bays C G} → Like s s' → sum_s μ s ≡ sum_s ν s'
  sum_s-like μ ν h (like-last r) = h _ _ r
  sum_s-like μ ν h (like-more r e l) = ap₂ ◌+◌ (h _ _ r) (sum_s-like μ ν h l)

  pub max_s-like : (μ : B → ℕ) (ν : C → ℕ) → ((b : B) (c : C) → R b c → μ b ≡ ν c) → {s : Bays B F} {s' : Bays C G} → Like s s' → max_s μ s ≡ max_s ν s'
  max_s-like μ ν h (like-last r) = h _ _ r
  max_s-like μ ν h (like-more r e l) = ap₂ max (h _ _ r) (max_s-like μ ν h l)

  pub max_less-like : (μ : B → ℕ) (ν : C → ℕ) (n : ℕ) → ((b : B) (c : C) → R b c → μ b ≡ ν c) → {s : Bays B F} {s' : Bays C G} → Like s s' → max_less μ n s ≡ max_less ν n s'
  max_less-like μ ν n h (like-last r) = ap (◌- n) (h _ _ r)
  max_less-like μ ν n h (like-more r e l) = ap₂ (λ (j k : ℕ). max (j - n) k) (h _ _ r) (max_s-like μ ν h l)
