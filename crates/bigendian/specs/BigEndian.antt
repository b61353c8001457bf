-- Numbers stored high byte first, at any width, and parts of a list.
use Rattle.std.specs.Prelude.{ℕ, zero, suc, ◌+◌, ◌*◌, ◌/◌, ◌%◌, ◌^◌, ◌<◌, List, [], ◌∷◌, ◌++◌, length, get_or, take, drop}

-- the number that a list of bytes stands for, high byte first
unfoldable pub from_be : List ℕ → ℕ
from_be [] = 0
from_be (x ∷ xs) = x * 256 ^ length xs + from_be xs

-- the low n bytes of v, high byte first
unfoldable pub to_be : ℕ → ℕ → List ℕ
to_be zero v = []
to_be (suc n) v = v / 256 ^ n % 256 ∷ to_be n v

-- the n elements of s from index at
abbrev pub slice : List ℕ → ℕ → ℕ → List ℕ
slice s at n = take n (drop at s)

-- s with b in the place of as many elements from index at
abbrev pub overwrite : List ℕ → ℕ → List ℕ → List ℕ
overwrite s at b = take at s ++ b ++ drop (at + length b) s

-- every element is a byte
abbrev pub Bytes : List ℕ → Type 0
Bytes s = (i : ℕ) → get_or s i 0 < 256
