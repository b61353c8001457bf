-- Names in a table with linear probing, a fingerprint each. A search for a name goes from its home on, up to its fingerprint or a slot that is empty.
use Rattle.std.specs.Prelude.{◌≡◌, List, Bool, true, false, cond, ℕ, zero, suc, ◌+◌, ◌*◌, ◌/◌, ◌%◌, ◌<◌, ◌≤◌, get_or, eqb}
use Rattle.names.specs.Mix.{mixed, head_of}

abbrev pub slots : ℕ
slots = 2048

-- how many slots a search tries
abbrev pub probes : ℕ
probes = 32

-- how many slots there are: a search from the last home tries as many as another
abbrev pub table_size : ℕ
table_size = slots + probes

-- a slot has 2 bytes
abbrev pub print_range : ℕ
print_range = 65536

abbrev pub home : ℕ → ℕ
home x = head_of slots (mixed x)

-- a name's fingerprint is odd, since 0 is a slot that is empty
abbrev pub print : ℕ → ℕ
print x = mixed x % print_range / 2 * 2 + 1

-- whether a search for the fingerprint f finds it in one of n slots from p on
unfoldable pub finds : List ℕ → ℕ → ℕ → ℕ → Bool
finds table p zero f = false
finds table p (suc n) f = cond (eqb (get_or table p 0) 0) false (cond (eqb (get_or table p 0) f) true (finds table (p + 1) n f))

-- x may have been put into the table; where this is false, it was not
unfoldable pub met : List ℕ → ℕ → Bool
met table x = finds table (home x) probes (print x)

-- a search for f that begins at p goes on to q
pub record Past (table : List ℕ) (p q f : ℕ) : Type 0 where
  pub far : p ≤ q
  pub full : (i : ℕ) → p ≤ i → i < q → get_or table i 0 ≡ 0 → ⊥
  pub other : (i : ℕ) → p ≤ i → i < q → get_or table i 0 ≡ f → ⊥

-- x was put into the table, where it was not before; or `new` is false, and the table says nothing more. One-sided on purpose: `new` may be false of a name that is new,
-- since another may have its fingerprint, or all slots that a search tries are full; the exact test decides then
pub record Noted (before after : List ℕ) (x : ℕ) (new : Bool) : Type 0 where
  pub was_not : new ≡ true → met before x ≡ false
  pub is_met : new ≡ true → met after x ≡ true
  pub stays : new ≡ true → (y : ℕ) → met before y ≡ true → met after y ≡ true
