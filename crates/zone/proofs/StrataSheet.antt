-- The example of the mill's own strata holds: computed from bytes to counts.
use mathlib.Core.Path.{refl}
use Rattle.bigendian.specs.BigEndian.{from_be, to_be}
use Rattle.memory.specs.Zeros.{all_zero}
use Rattle.format.specs.WellFormed.{well_formed, header_ok, zone_rules, block_rules, every, type_ok, size_ok, tile_ok, zeros_ok, second_ok, neighbours_ok, handles_ok, chain_from, type_of, size_of, handle_of, is_free, is_fixed, is_reloc, split_from, is_master, relocs, chain, offsets, page_size_ok, status_ok, names, distinct, name_of, status_of, is_page}
use Rattle.format.specs.Occurs.{occurs}
use Rattle.structure.specs.Structure.{encode_block, sizes, place_of, next_of, words, join, header, encode, decode_block, decode_zone, decode, handles_of, names_in}
use Rattle.calls.specs.LentLimits.{rising}
use Rattle.zone.specs.Census.{count_if, counts_of, free_words}
use Rattle.zone.specs.StrataSheet.{StrataSheet}

pub strata-sheet : StrataSheet
unfolding well_formed header_ok zone_rules block_rules every type_ok size_ok tile_ok zeros_ok second_ok page_size_ok status_ok names distinct neighbours_ok handles_ok chain_from type_of size_of handle_of name_of status_of is_free is_fixed is_reloc is_page split_from is_master relocs chain all_zero from_be encode header to_be words join encode_block decode_block decode decode_zone place_of next_of sizes handles_of names_in occurs offsets rising count_if counts_of free_words
strata-sheet = record {
  lengths = refl;
  first = refl;
  rise = refl;
  last = refl;
  broken = refl;
  zeros = refl;
  at_limit = refl;
  below_limit = refl;
  beyond = refl;
  lowest = refl;
  none = refl;
}
