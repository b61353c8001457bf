-- n bytes taken off the end of a bay, on bytes.
use Rattle.std.specs.Prelude.{◌≡◌, List, [], ◌++◌, ℕ, ◌-◌, ◌%◌, ◌≤◌, length, replicate}
use Rattle.block_type.specs.Limits.{free_header, longest_zone}
use Rattle.bigendian.specs.BigEndian.{slice, overwrite}
use Rattle.bay.specs.Bay.{Cell, free, bay_sum, gap}
use Rattle.bay.specs.Bytes.{encode_cell}
use Rattle.bay.specs.Sound.{bytes_of}
use Rattle.bays.specs.Places.{end_free}
use Rattle.slide.specs.ZoneBay.{set_all, bay_cells, ZoneBay, settled}

-- the free block of k bytes that ends at e, without its last n bytes, which are zero
abbrev pub trimmed : List ℕ → ℕ → ℕ → ℕ → List ℕ
trimmed z e k n = overwrite z (e - k) (bytes_of (gap (k - n) []) ++ replicate n 0)

-- a free block of k bytes ends at e, and n bytes can be taken off its end
pub record FreeEnd (z : List ℕ) (e k n : ℕ) : Type 0 where
  pub order : k ≤ e
  pub inside : e ≤ length z
  pub short : length z ≤ longest_zone
  pub low : free_header ≤ n
  pub fits : n ≤ k
  pub four : n % 4 ≡ 0
  pub four_k : k % 4 ≡ 0
  pub bytes : slice z (e - k) k ≡ encode_cell (free k)

-- z with the cells cs from a on and n zero bytes behind them, and their masters follow
unfoldable pub before_zeros : List ℕ → ℕ → List Cell → ℕ → List ℕ
before_zeros z a cs n = set_all a cs (overwrite z a (bytes_of cs ++ replicate n 0))

-- the bay from a to e has this sum and these free bytes at its end, its masters hold its blocks' places, and n bytes can be taken off its end
pub record CanTake (z : List ℕ) (n a e sum tail : ℕ) : Type 0 where
  pub bay : ZoneBay z a e
  pub held : settled z a (bay_cells z a e) ≡ z
  pub sum_is : sum ≡ bay_sum (bay_cells z a e)
  pub tail_is : tail ≡ end_free (bay_cells z a e)
  pub low : free_header ≤ n
  pub fits : n ≤ sum
  pub four : n % 4 ≡ 0
