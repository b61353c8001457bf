-- The laws of a name's mixed bits and of its place.
use mathlib.Core.Path.{◌≡◌, refl}
use Prim.Native.Nat.{ℕ, ◌*◌, ◌/◌, ◌%◌, ◌<◌, ◌≤◌}
use native.Mathlib.Nat.{mul-lt-mul_of_pos_right}
use native.Mathlib.Omega.{arith}
use Rattle.block_type.specs.Limits.{argument_range}
use Rattle.names.specs.Mix.{head_range, spread, mixed, head_of}

pub mix-law : (x w : ℕ) → w ≡ x → w * spread % argument_range ≡ mixed x
unfolding mixed
mix-law x w e = rw e

product-below : (m heads : ℕ) → m < argument_range → 0 < heads → m * heads < argument_range * heads
product-below m heads l h = mul-lt-mul_of_pos_right l h

pub head-fits : (m heads : ℕ) → m < argument_range → 0 < heads → heads ≤ head_range → m * heads < 18446744073709551616
head-fits m heads l h k = omega (arith, product-below m heads l h)

pub head-law : (m heads : ℕ) → m * heads / argument_range ≡ head_of heads m
unfolding head_of
head-law m heads = refl

pub head-lt : (m heads : ℕ) → m < argument_range → 0 < heads → m * heads / argument_range < heads
head-lt m heads l h = omega (arith, product-below m heads l h)
