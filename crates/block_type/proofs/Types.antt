-- What a test of a block type, as `==` and `is_movable` answer it, says of the type's code.
use Rattle.std.specs.Prelude.{◌≡◌, refl, Bool, true, false, ◌<◌, ◌≤◌, eqb}
use Rattle.std.proofs.Common.{sym, ◌∙◌, true≢false}
use native.Mathlib.Omega.{arith}
use borrow.Author.Tests.{eqb-true, eqb-false}
use Rattle.block_type.specs.Limits.{free_code, fixed_code, reloc_code, page_code}
use Rattle.block_type.specs.Types.{type_code, movable}
use Rattle.block_type.specs.declared.BlockType.{BlockType}
use Rattle.block_type.specs.declared.BlockType.TheVariants.{Free, Fixed, Relocatable, Page}
use Rattle.block_type.specs.contracts.BlockType.{the_type}
use denote.Enum.Bare.{sameb}

-- whether two types are one, as `a == b` answers it
abbrev pub same : BlockType → BlockType → Bool
same a b = sameb the_type a b

by-code : (a b : BlockType) → same a b ≡ eqb (type_code a) (type_code b)
by-code Free Free = refl
by-code Free Fixed = refl
by-code Free Relocatable = refl
by-code Free Page = refl
by-code Fixed Free = refl
by-code Fixed Fixed = refl
by-code Fixed Relocatable = refl
by-code Fixed Page = refl
by-code Relocatable Free = refl
by-code Relocatable Fixed = refl
by-code Relocatable Relocatable = refl
by-code Relocatable Page = refl
by-code Page Free = refl
by-code Page Fixed = refl
by-code Page Relocatable = refl
by-code Page Page = refl

-- ---- of any type b

pub same-test : (a b : BlockType) (t : Bool) → t ≡ same a b → t ≡ eqb (type_code a) (type_code b)
same-test a b t e = e ∙ by-code a b

pub same-yes : (a b : BlockType) (t : Bool) → t ≡ same a b → t ≡ true → type_code a ≡ type_code b
same-yes a b t e y = eqb-true (type_code a) (type_code b) (sym (same-test a b t e) ∙ y)

pub same-no : (a b : BlockType) (t : Bool) → t ≡ same a b → t ≡ false → type_code a ≡ type_code b → ⊥
same-no a b t e n = eqb-false (type_code a) (type_code b) (sym (same-test a b t e) ∙ n)

-- ---- of each, as a search finds it by the code

module _ (k : BlockType) (t : Bool) where
  pub free-test : t ≡ same k Free → t ≡ eqb (type_code k) free_code
  free-test e = same-test k Free t e

  pub free-yes : t ≡ same k Free → t ≡ true → type_code k ≡ free_code
  free-yes e y = same-yes k Free t e y

  pub free-no : t ≡ same k Free → t ≡ false → type_code k ≡ free_code → ⊥
  free-no e n = same-no k Free t e n

  pub fixed-test : t ≡ same k Fixed → t ≡ eqb (type_code k) fixed_code
  fixed-test e = same-test k Fixed t e

  pub fixed-yes : t ≡ same k Fixed → t ≡ true → type_code k ≡ fixed_code
  fixed-yes e y = same-yes k Fixed t e y

  pub fixed-no : t ≡ same k Fixed → t ≡ false → type_code k ≡ fixed_code → ⊥
  fixed-no e n = same-no k Fixed t e n

  pub reloc-test : t ≡ same k Relocatable → t ≡ eqb (type_code k) reloc_code
  reloc-test e = same-test k Relocatable t e

  pub reloc-yes : t ≡ same k Relocatable → t ≡ true → type_code k ≡ reloc_code
  reloc-yes e y = same-yes k Relocatable t e y

  pub reloc-no : t ≡ same k Relocatable → t ≡ false → type_code k ≡ reloc_code → ⊥
  reloc-no e n = same-no k Relocatable t e n

  pub page-test : t ≡ same k Page → t ≡ eqb (type_code k) page_code
  page-test e = same-test k Page t e

  pub page-yes : t ≡ same k Page → t ≡ true → type_code k ≡ page_code
  page-yes e y = same-yes k Page t e y

  pub page-no : t ≡ same k Page → t ≡ false → type_code k ≡ page_code → ⊥
  page-no e n = same-no k Page t e n

-- ---- of those that slide

pub movable-yes : (k : BlockType) (t : Bool) → t ≡ movable k → t ≡ true → fixed_code < type_code k
movable-yes Free t e y = let x : ⊥ = true≢false (sym y ∙ e) in absurd x
movable-yes Fixed t e y = let x : ⊥ = true≢false (sym y ∙ e) in absurd x
movable-yes Relocatable t e y = omega arith
movable-yes Page t e y = omega arith

pub movable-no : (k : BlockType) (t : Bool) → t ≡ movable k → t ≡ false → type_code k ≤ fixed_code
movable-no Free t e n = omega arith
movable-no Fixed t e n = omega arith
movable-no Relocatable t e n = let x : ⊥ = true≢false (sym e ∙ n) in absurd x
movable-no Page t e n = let x : ⊥ = true≢false (sym e ∙ n) in absurd x
