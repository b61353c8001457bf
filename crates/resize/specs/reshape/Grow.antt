-- A block of a compacted bay grows: in bytes, and in a zone.
use Rattle.std.specs.Prelude.{◌≡◌, List, [], ◌++◌, ℕ, ◌+◌, ◌-◌, ◌*◌, ◌/◌, ◌%◌, ◌<◌, ◌≤◌, length, take, drop, replicate}
use Rattle.bigendian.specs.BigEndian.{to_be, slice}
use Rattle.block_type.specs.Limits.{free_header, reloc_header, reloc_code, reloc_limit, longest_zone, type_unit, tag_at}
use Rattle.bay.specs.Bay.{Cell, free, bay_size, bay_sum, gap}
use Rattle.bay.specs.Bytes.{encode_cell}
use Rattle.bay.specs.Ends.{start_free}
use Rattle.bay.specs.Sound.{bytes_of, Sound}
use Rattle.structure.specs.Structure.{start, decode_zone}
use Rattle.bays.specs.Places.{bays_of}
use Rattle.bays.specs.Found.{Numbers}
use Rattle.slide.specs.ZoneBay.{Low, part_of}
use Rattle.resize.specs.reshape.Own.{Own, bay_of}
use Rattle.structure.specs.IsZone.{IsZone}

-- the part s, whose block from at to o has `more` zero bytes at its end; the run bytes behind it stand higher, and the rest is free
unfoldable pub grown_bytes : List ℕ → ℕ → ℕ → ℕ → ℕ → List ℕ
grown_bytes s at o run more =
    take at s ++ (to_be 2 (reloc_code * type_unit + (o + more - at) / 2) ++ (slice s (at + tag_at) (o - (at + tag_at)) ++ (replicate more 0 ++ (slice s o run ++ bytes_of (gap (length s - (o + run) - more) [])))))

-- there is a free block of at least `more` bytes behind the run
pub record Room (s : List ℕ) (at o run more : ℕ) : Type 0 where
  pub low : at + reloc_header ≤ o
  pub inside : o + run + more ≤ length s
  pub short : length s ≤ longest_zone
  pub some : free_header ≤ more
  pub four : more % 4 ≡ 0
  pub four_n : (length s - (o + run)) % 4 ≡ 0
  pub bytes : drop (o + run) s ≡ encode_cell (free (length s - (o + run)))

-- the part of z from a to e, with a block grown, is the bytes of other cells, whose masters lie before it
pub data GrowsTo (z : List ℕ) (a e low high run more : ℕ) : Type 0 where
  grows_to : (cs : List Cell) → Sound cs → bay_size cs ≡ e - a → Low a cs → grown_bytes (part_of z a e) low high run more ≡ bytes_of cs → GrowsTo z a e low high run more

-- the block of handle h with b data bytes is to have a, for which there is no room right behind it, but in its bay from `from` to end
pub record Laid (z : List ℕ) (h from end sum b a : ℕ) : Type 0 where
  pub zone : IsZone z
  pub own : Own h (bays_of (decode_zone z))
  pub tail : ℕ
  pub numbers : Numbers (start (decode_zone z)) own.before (bay_of own) from end sum tail
  pub size : b ≡ length own.mine.bytes
  pub grows : b + start_free own.right < a
  pub enough : a - b ≤ bay_sum (bay_of own)
  pub four : a % 4 ≡ 0
  pub high : a ≤ reloc_limit
