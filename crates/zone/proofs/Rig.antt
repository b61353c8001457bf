-- The table of the rig sheet holds: each row is computed from bytes to bytes.
use mathlib.Core.Path.{refl}
use Rattle.bigendian.specs.BigEndian.{from_be, to_be}
use Rattle.memory.specs.Zeros.{all_zero}
use Rattle.format.specs.WellFormed.{well_formed, header_ok, zone_rules, block_rules, every, type_ok, size_ok, tile_ok, zeros_ok, second_ok, neighbours_ok, handles_ok, chain_from, type_of, size_of, handle_of, is_free, is_fixed, is_reloc, split_from, is_master, relocs, chain, offsets, page_size_ok, status_ok, names, distinct, name_of, status_of, is_page}
use Rattle.format.specs.Occurs.{occurs}
use Rattle.structure.specs.Structure.{encode_block, sizes, place_of, next_of, words, join, header, encode, decode_block, decode_zone, decode, handles_of, names_in}
use Rattle.zone.specs.RigSheet.{Holds, AllHold, end, row, r1, r2, r3_before, r3, r4, r5, r6, r7, r8, table}

row-r1 : Holds r1
unfolding well_formed header_ok zone_rules block_rules every type_ok size_ok tile_ok zeros_ok second_ok page_size_ok status_ok names distinct neighbours_ok handles_ok chain_from type_of size_of handle_of name_of status_of is_free is_fixed is_reloc is_page split_from is_master relocs chain all_zero from_be encode header to_be words join encode_block decode_block decode decode_zone place_of next_of sizes handles_of names_in occurs offsets
row-r1 = record { told = refl; stands = refl }

row-r2 : Holds r2
unfolding well_formed header_ok zone_rules block_rules every type_ok size_ok tile_ok zeros_ok second_ok page_size_ok status_ok names distinct neighbours_ok handles_ok chain_from type_of size_of handle_of name_of status_of is_free is_fixed is_reloc is_page split_from is_master relocs chain all_zero from_be encode header to_be words join encode_block decode_block decode decode_zone place_of next_of sizes handles_of names_in occurs offsets
row-r2 = record { told = refl; stands = refl }

row-r3-before : Holds r3_before
unfolding well_formed header_ok zone_rules block_rules every type_ok size_ok tile_ok zeros_ok second_ok page_size_ok status_ok names distinct neighbours_ok handles_ok chain_from type_of size_of handle_of name_of status_of is_free is_fixed is_reloc is_page split_from is_master relocs chain all_zero from_be encode header to_be words join encode_block decode_block decode decode_zone place_of next_of sizes handles_of names_in occurs offsets
row-r3-before = record { told = refl; stands = refl }

row-r3 : Holds r3
unfolding well_formed header_ok zone_rules block_rules every type_ok size_ok tile_ok zeros_ok second_ok page_size_ok status_ok names distinct neighbours_ok handles_ok chain_from type_of size_of handle_of name_of status_of is_free is_fixed is_reloc is_page split_from is_master relocs chain all_zero from_be encode header to_be words join encode_block decode_block decode decode_zone place_of next_of sizes handles_of names_in occurs offsets
row-r3 = record { told = refl; stands = refl }

row-r4 : Holds r4
unfolding well_formed header_ok zone_rules block_rules every type_ok size_ok tile_ok zeros_ok second_ok page_size_ok status_ok names distinct neighbours_ok handles_ok chain_from type_of size_of handle_of name_of status_of is_free is_fixed is_reloc is_page split_from is_master relocs chain all_zero from_be encode header to_be words join encode_block decode_block decode decode_zone place_of next_of sizes handles_of names_in occurs offsets
row-r4 = record { told = refl; stands = refl }

row-r5 : Holds r5
unfolding well_formed header_ok zone_rules block_rules every type_ok size_ok tile_ok zeros_ok second_ok page_size_ok status_ok names distinct neighbours_ok handles_ok chain_from type_of size_of handle_of name_of status_of is_free is_fixed is_reloc is_page split_from is_master relocs chain all_zero from_be encode header to_be words join encode_block decode_block decode decode_zone place_of next_of sizes handles_of names_in occurs offsets
row-r5 = record { told = refl; stands = refl }

row-r6 : Holds r6
unfolding well_formed header_ok zone_rules block_rules every type_ok size_ok tile_ok zeros_ok second_ok page_size_ok status_ok names distinct neighbours_ok handles_ok chain_from type_of size_of handle_of name_of status_of is_free is_fixed is_reloc is_page split_from is_master relocs chain all_zero from_be encode header to_be words join encode_block decode_block decode decode_zone place_of next_of sizes handles_of names_in occurs offsets
row-r6 = record { told = refl; stands = refl }

row-r7 : Holds r7
unfolding well_formed header_ok zone_rules block_rules every type_ok size_ok tile_ok zeros_ok second_ok page_size_ok status_ok names distinct neighbours_ok handles_ok chain_from type_of size_of handle_of name_of status_of is_free is_fixed is_reloc is_page split_from is_master relocs chain all_zero from_be encode header to_be words join encode_block decode_block decode decode_zone place_of next_of sizes handles_of names_in occurs offsets
row-r7 = record { told = refl; stands = refl }

row-r8 : Holds r8
unfolding well_formed header_ok zone_rules block_rules every type_ok size_ok tile_ok zeros_ok second_ok page_size_ok status_ok names distinct neighbours_ok handles_ok chain_from type_of size_of handle_of name_of status_of is_free is_fixed is_reloc is_page split_from is_master relocs chain all_zero from_be encode header to_be words join encode_block decode_block decode decode_zone place_of next_of sizes handles_of names_in occurs offsets
row-r8 = record { told = refl; stands = refl }

pub rig-sheet : AllHold table
rig-sheet = row row-r1 (row row-r2 (row row-r3-before (row row-r3 (row row-r4 (row row-r5 (row row-r6 (row row-r7 (row row-r8 end))))))))
