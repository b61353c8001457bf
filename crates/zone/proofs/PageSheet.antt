-- The examples of pages hold: each is computed from bytes to bytes.
use mathlib.Core.Path.{refl}
use Rattle.bigendian.specs.BigEndian.{from_be, to_be}
use Rattle.memory.specs.Zeros.{all_zero}
use Rattle.format.specs.WellFormed.{well_formed, header_ok, zone_rules, block_rules, every, type_ok, size_ok, tile_ok, zeros_ok, second_ok, neighbours_ok, handles_ok, chain_from, type_of, size_of, handle_of, is_free, is_fixed, is_reloc, split_from, is_master, relocs, chain, offsets, page_size_ok, status_ok, names, distinct, name_of, status_of, is_page}
use Rattle.format.specs.Occurs.{occurs}
use Rattle.structure.specs.Structure.{encode_block, sizes, place_of, next_of, words, join, header, encode, decode_block, decode_zone, decode, handles_of, names_in}
use Rattle.zone.specs.PageSheet.{PageSheet}

pub page-sheet : PageSheet
unfolding well_formed header_ok zone_rules block_rules every type_ok size_ok tile_ok zeros_ok second_ok page_size_ok status_ok names distinct neighbours_ok handles_ok chain_from type_of size_of handle_of name_of status_of is_free is_fixed is_reloc is_page split_from is_master relocs chain all_zero from_be encode header to_be words join encode_block decode_block decode decode_zone place_of next_of sizes handles_of names_in occurs offsets
page-sheet = record {
  created = refl;
  stands = refl;
  dirty = refl;
  locked = refl;
  unlocked_only = refl;
  clean_only = refl;
  used = refl;
  use_told = refl;
  written = refl;
  dropped = refl;
  from_255 = refl;
  stamp_0 = refl;
  oldest = refl;
  no_help = refl;
  equals = refl;
  five = refl;
  twelve = refl;
  unlocked = refl;
  untouched = refl;
  later = refl;
  name_0 = refl;
  eleven = refl;
  to_the_limit = refl;
  beyond_it = refl;
  no_drop = refl;
  well = refl;
  bits = refl;
  last_byte = refl;
  two_names = refl;
  slides = refl;
  slid = refl;
  strips = refl;
  stripped = refl;
  grows = refl;
  grown = refl;
  hole = refl;
  passed_over = refl;
  no_zone = refl;
  left_broken = refl;
  two_pages = refl;
  no_header = refl;
}
