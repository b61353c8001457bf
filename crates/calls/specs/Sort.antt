-- Lists: what each element has, one after the other; and a list in an order, by insertion, where r x y says that x goes before y, or may.
use Rattle.std.specs.Prelude.{Bool, cond, List, [], ◌∷◌, ◌++◌}

abbrev pub flat : {A B : Type 0} → (A → List B) → List A → List B
flat f [] = []
flat f (x ∷ xs) = f x ++ flat f xs

-- before the first that it may go before
abbrev pub insert_by : {A : Type 0} → (A → A → Bool) → A → List A → List A
insert_by r x [] = x ∷ []
insert_by r x (y ∷ ys) = cond (r x y) (x ∷ (y ∷ ys)) (y ∷ insert_by r x ys)

abbrev pub sort_by : {A : Type 0} → (A → A → Bool) → List A → List A
sort_by r [] = []
sort_by r (x ∷ xs) = insert_by r x (sort_by r xs)
