-- Document 01: "(0,64,4), (1,6), (2,0), (3,20) print `0 0`, `0 16`, `0 62`, `6 0`", of which the third is `0 64` by document 02's U6, computed from bytes to bytes in a buffer of 80.
use mathlib.Core.Path.{◌≡◌, refl}
use mathlib.Core.List.{List, [], ◌∷◌, ◌++◌}
use Prim.Native.Nat.{ℕ}
use lib.ListN.{replicate}
use Rattle.bigendian.specs.BigEndian.{from_be, to_be}
use Rattle.memory.specs.Zeros.{all_zero}
use Rattle.format.specs.WellFormed.{well_formed, header_ok, zone_rules, block_rules, every, type_ok, size_ok, tile_ok, zeros_ok, second_ok, neighbours_ok, handles_ok, chain_from, type_of, size_of, handle_of, is_free, is_fixed, is_reloc, split_from, is_master, relocs, chain, offsets, page_size_ok, is_page, status_ok, distinct, names}
use Rattle.structure.specs.Structure.{encode_block, sizes, place_of, next_of, words, join, header, encode, decode_block, decode_zone, decode, handles_of}
use Rattle.records.specs.Records.{actions, action_of, act, with_value, with_byte, digits, text, first_records, printed, output}

abbrev bytes_of : ℕ → ℕ → ℕ → List ℕ
bytes_of code a b = code ∷ 0 ∷ 0 ∷ 0 ∷ to_be 4 a ++ to_be 4 b ++ to_be 4 0

abbrev example : List ℕ
example = bytes_of 0 64 4 ++ bytes_of 1 6 0 ++ bytes_of 2 0 0 ++ bytes_of 3 20 0

pub example-prints : output example (replicate 80 0)
    ≡ 48 ∷ 32 ∷ 48 ∷ 10 ∷ 48 ∷ 32 ∷ 49 ∷ 54 ∷ 10 ∷ 48 ∷ 32 ∷ 54 ∷ 52 ∷ 10 ∷ 54 ∷ 32 ∷ 48 ∷ 10 ∷ []
unfolding actions action_of act with_value with_byte digits text first_records printed output well_formed header_ok zone_rules block_rules every type_ok size_ok tile_ok zeros_ok second_ok neighbours_ok handles_ok chain_from type_of size_of handle_of is_free is_fixed is_reloc split_from is_master relocs chain all_zero from_be encode header to_be words join encode_block decode_block decode decode_zone place_of next_of sizes handles_of offsets page_size_ok is_page status_ok distinct names
example-prints = refl
