-- Names spread over places: their bits are mixed, and the highest say the place.
use Rattle.std.specs.Prelude.{ℕ, ◌*◌, ◌/◌, ◌%◌}
use Rattle.block_type.specs.Limits.{argument_range, handle_range}

-- places are at most as many as a number of 2 bytes can tell apart, as a handle is one
abbrev pub head_range : ℕ
head_range = handle_range

-- names are multiplied by this odd number, 2 ^ 32 divided by the golden ratio, to mix their bits: each bit of the product goes by all lower bits of
-- the name, and different names have different products. No proof goes by that
abbrev pub spread : ℕ
spread = 2654435769

unfoldable pub mixed : ℕ → ℕ
mixed x = x * spread % argument_range

-- the place, one of `heads`, of a name whose mixed bits are m
unfoldable pub head_of : ℕ → ℕ → ℕ
head_of heads m = m * heads / argument_range
