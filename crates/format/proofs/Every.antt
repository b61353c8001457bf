-- What a walk that found no fault says of every block.
use mathlib.Core.Path.{◌≡◌, ◌∙◌}
use mathlib.Core.List.{List}
use mathlib.Core.Bool.{Bool, true, ◌&&◌}
use Prim.Native.Nat.{ℕ}
use Rattle.format.specs.WellFormed.{every, type_ok, size_ok, tile_ok, zeros_ok, second_ok, page_size_ok, status_ok, neighbours_ok, handles_ok}
use Rattle.format.specs.OneWalk.{blocks_ok}
use Rattle.format.proofs.Bool.{and_left, and_right}
use Rattle.format.proofs.OneWalk.{blocks-walk}

module _ (z : List ℕ) (first : ℕ) (prev : Bool) (at : ℕ) (bs : List (List ℕ)) (h : blocks_ok z first prev at bs ≡ true) where
  to-pages : (every type_ok bs && every size_ok bs && every tile_ok bs && every zeros_ok bs && every second_ok bs && every page_size_ok bs) ≡ true
  to-pages =
      and_left _ (every status_ok bs)
      (and_left _ (neighbours_ok prev bs) (and_left _ (handles_ok z first at bs) (blocks-walk z first bs prev at ∙ h)))

  to-tiles : (every type_ok bs && every size_ok bs && every tile_ok bs) ≡ true
  to-tiles = and_left _ (every zeros_ok bs) (and_left _ (every second_ok bs) (and_left _ (every page_size_ok bs) to-pages))

  pub every-page : every page_size_ok bs ≡ true
  every-page = and_right (every type_ok bs && every size_ok bs && every tile_ok bs && every zeros_ok bs && every second_ok bs) _ to-pages

  pub every-tile : every tile_ok bs ≡ true
  every-tile = and_right (every type_ok bs && every size_ok bs) _ to-tiles

  pub every-size : every size_ok bs ≡ true
  every-size = and_right (every type_ok bs) _ (and_left _ (every tile_ok bs) to-tiles)
