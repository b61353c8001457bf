-- What a test of the type that a block's word w shows says of w, as the sizes of free and used blocks ask it.
use Rattle.std.specs.Prelude.{◌≡◌, Bool, true, false, ℕ, ◌/◌, ◌<◌}
use Rattle.std.proofs.Common.{arith}
use Rattle.block_type.specs.Limits.{free_code, fixed_code}
use Rattle.block_type.specs.Types.{type_code, movable}
use Rattle.block_type.specs.declared.BlockType.{BlockType}
use Rattle.block_type.specs.declared.BlockType.TheVariants.{Fixed}
use Rattle.block_type.proofs.Types.{same, movable-yes, movable-no, fixed-yes, fixed-no}
use Rattle.block_check.specs.Word.{type_word}

module _ (k : BlockType) (w : ℕ) (ew : type_code k ≡ w / type_word) (moves : Bool) (em : moves ≡ movable k) where
  pub movable-used : moves ≡ true → free_code < w / type_word
  movable-used y = omega (arith, movable-yes k moves em y)

  module _ (n : moves ≡ false) (fixed : Bool) (ef : fixed ≡ same k Fixed) where
    pub fixed-used : fixed ≡ true → free_code < w / type_word
    fixed-used y = omega (arith, fixed-yes k fixed ef y)

    pub else-free : fixed ≡ false → w / type_word ≡ free_code
    else-free q = let no : type_code k ≡ fixed_code → ⊥ = fixed-no k fixed ef q in omega (arith, movable-no k moves em n)
