-- What holds of an answer, where there is one, and of a branch.
use mathlib.Core.Path.{◌≡◌, refl}
use mathlib.Core.Bool.{Bool, true, false, cond}
use mathlib.Core.Option.{Option, none, some, get_or}
use Rattle.calls.specs.Bays.{over, or_else}

-- a DATA type, not a function by cases: then its implicit arguments are found
pub data Each {A : Type 0} (P : A → Type 0) : Option A → Type 0 where
  nothing : Each P none
  just : {a : A} → P a → Each P (some a)

pub each-some : {A : Type 0} {P : A → Type 0} {a : A} → Each P (some a) → P a
each-some (just p) = p

pub each_over : {A B : Type 0} {P : A → Type 0} {Q : B → Type 0} (f : A → B) {o : Option A} → ((a : A) → P a → Q (f a)) → Each P o → Each Q (over f o)
each_over f h nothing = nothing
each_over f h (just {a = a} p) = just (h a p)

pub each-cond : {A : Type 0} {P : A → Type 0} {a b : Option A} (t : Bool) → (t ≡ true → Each P a) → Each P b → Each P (cond t a b)
each-cond true p q = p refl
each-cond false p q = q

pub each-cond' : {A : Type 0} {P : A → Type 0} {a b : Option A} (t : Bool) → (t ≡ true → Each P a) → (t ≡ false → Each P b) → Each P (cond t a b)
each-cond' true p q = p refl
each-cond' false p q = q refl

pub each-get_d : {A : Type 0} {P : A → Type 0} {o : Option A} {d : A} → Each P o → P d → P (get_or o d)
each-get_d nothing q = q
each-get_d (just p) q = p

pub each-or_else : {A : Type 0} {P : A → Type 0} {a b : Option A} → Each P a → Each P b → Each P (or_else a b)
each-or_else nothing q = q
each-or_else (just p) q = just p

pub each_weaken : {A : Type 0} {P Q : A → Type 0} {o : Option A} → ((a : A) → P a → Q a) → Each P o → Each Q o
each_weaken h nothing = nothing
each_weaken h (just {a = a} p) = just (h a p)

pub each_and : {A : Type 0} {P Q : A → Type 0} {o : Option A} → Each P o → Each Q o → Each (λ (a : A). P a × Q a) o
each_and nothing nothing = nothing
each_and (just p) (just q) = just (p, q)

-- a branch, for any family, where both arms prove it
pub cond-ap : {A B : Type 0} (f : A → B) (t : Bool) {a b : A} {c d : B} → f a ≡ c → f b ≡ d → f (cond t a b) ≡ cond t c d
cond-ap f true p q = p
cond-ap f false p q = q

pub cond-one : {A B : Type 0} (f : A → B) (t : Bool) {a b : A} {c : B} → f a ≡ c → f b ≡ c → f (cond t a b) ≡ c
cond-one f true p q = p
cond-one f false p q = q
