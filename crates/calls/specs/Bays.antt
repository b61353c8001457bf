-- Document 01: "A bay is the stretch between two neighbouring fixed blocks, or between such a block and bkFst or L, or with no
-- fixed block all from bkFst to L; it may be empty." Bays and fixed blocks in address order: a bay, then any number of times a
-- fixed block and a bay. B is what is kept of a bay, F of a fixed block.
-- (An S at the end of a name: over all the bays of such a sequence.)
use Rattle.std.specs.Prelude.{Bool, cond, List, ◌++◌, ℕ, ◌+◌, ◌-◌, max}
use Rattle.std.proofs.Math.Option.{Option, none, some}

pub data Bays (B F : Type 0) : Type 0 where
  last : B → Bays B F
  more : B → F → Bays B F → Bays B F

-- f of what is there
abbrev pub over : {A B : Type 0} → (A → B) → Option A → Option B
over f none = none
over f (some a) = some (f a)

-- the second where there is no first
abbrev pub or_else : {A : Type 0} → Option A → Option A → Option A
or_else none b = b
or_else (some a) b = some a

module _ {B F : Type 0} where
  -- the lowest bay that passes the test is changed (the last one, where no other passes)
  abbrev pub on_lowest : (B → Bool) → (B → B) → Bays B F → Bays B F
  on_lowest t f (last b) = last (f b)
  on_lowest t f (more b x s) = cond (t b) (more (f b) x s) (more b x (on_lowest t f s))

  -- the first bay changed
  abbrev pub on_first : (B → B) → Bays B F → Bays B F
  on_first f (last b) = last (f b)
  on_first f (more b x s) = more (f b) x s

  -- every bay changed
  abbrev pub map_s : (B → B) → Bays B F → Bays B F
  map_s f (last b) = last (f b)
  map_s f (more b x s) = more (f b) x (map_s f s)

  -- every fixed block changed
  abbrev pub on_fixed : (F → F) → Bays B F → Bays B F
  on_fixed f (last b) = last b
  on_fixed f (more b x s) = more b (f x) (on_fixed f s)

  -- the last bay changed
  abbrev pub on_last : (B → B) → Bays B F → Bays B F
  on_last f (last b) = last (f b)
  on_last f (more b x s) = more b x (on_last f s)

  -- the first bay that answers
  abbrev pub find_s : {X : Type 0} → (B → Option X) → Bays B F → Option X
  find_s f (last b) = f b
  find_s f (more b x s) = or_else (f b) (find_s f s)

  -- the first fixed block that passes the test
  abbrev pub find_f : (F → Bool) → Bays B F → Option F
  find_f p (last b) = none
  find_f p (more b x s) = cond (p x) (some x) (find_f p s)

  -- over all bays: the sum, the list, the maximum; the first bay and the last
  abbrev pub sum_s : (B → ℕ) → Bays B F → ℕ
  sum_s μ (last b) = μ b
  sum_s μ (more b x s) = μ b + sum_s μ s

  abbrev pub concat_s : {X : Type 0} → (B → List X) → Bays B F → List X
  concat_s f (last b) = f b
  concat_s f (more b x s) = f b ++ concat_s f s

  abbrev pub max_s : (B → ℕ) → Bays B F → ℕ
  max_s μ (last b) = μ b
  max_s μ (more b x s) = max (μ b) (max_s μ s)

  -- the maximum after n has been taken from the first bay
  abbrev pub max_less : (B → ℕ) → ℕ → Bays B F → ℕ
  max_less μ n (last b) = μ b - n
  max_less μ n (more b x s) = max (μ b - n) (max_s μ s)

  abbrev pub first_s : Bays B F → B
  first_s (last b) = b
  first_s (more b x s) = b

  abbrev pub last_s : Bays B F → B
  last_s (last b) = b
  last_s (more b x s) = last_s s
