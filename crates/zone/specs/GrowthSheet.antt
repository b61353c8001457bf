-- Document 02, U3, by example: a zone whose masters grow while one block goes up and another down, byte by byte; where blocks
-- lie after the growth of two other zones; and the edges of 4 and 5.
use Rattle.std.specs.Prelude.{◌≡◌, true, List, [], ◌∷◌, ◌++◌, map, ℕ, replicate}
use Rattle.std.proofs.Math.Option.{none}
use Rattle.bigendian.specs.BigEndian.{slice}
use Rattle.block_type.specs.Limits.{zone_header, longest_zone}
use Rattle.calls.specs.Calls.{Call, by_handle, allocate_relocatable, allocate_fixed, free_pointer, resize, write}
use Rattle.calls.specs.Table.{Facts, refusal_of}
use Rattle.zone.specs.Call.{initialize}
use Rattle.zone.specs.RigSheet.{answers_of, bytes_after, brief, done, refused}

-- a fresh zone of n bytes with m masters
abbrev pub zone : ℕ → ℕ → List ℕ
zone n m = (initialize n m (replicate n 9)).bytes

-- two blocks, a hole of 40 bytes between them and one of 28 behind, then a fixed block; the last call finds no free master
abbrev pub calls : List Call
calls =
    allocate_fixed 0
    ∷ allocate_relocatable 44
    ∷ allocate_relocatable 4
    ∷ resize 16 4
    ∷ write (by_handle 16) 0 4 (1 ∷ 2 ∷ 3 ∷ 4 ∷ [])
    ∷ write (by_handle 20) 0 4 (5 ∷ 6 ∷ 7 ∷ 8 ∷ [])
    ∷ allocate_relocatable 4
    ∷ []

-- a number below 256 in 4 bytes
abbrev pub word : ℕ → List ℕ
word n = 0 ∷ 0 ∷ 0 ∷ n ∷ []

abbrev pub image : List ℕ
image =
    -- L, bkFst, m, hFstFree
    word 112 ++ word 56 ++ word 10 ++ (0 ∷ 28 ∷ 0 ∷ 0 ∷ [])
    -- the masters: two that were there, the new block's, and the chain
    ++ word 60 ++ word 68 ++ word 76 ++ word 32 ++ word 36 ++ word 40 ++ word 44 ++ word 48 ++ word 52 ++ word 0
    -- the blocks: handle 16 (it was at 24), handle 20 (at 72), the new one, free bytes
    ++ (128 ∷ 4 ∷ 0 ∷ 16 ∷ 1 ∷ 2 ∷ 3 ∷ 4 ∷ [])
    ++ (128 ∷ 4 ∷ 0 ∷ 20 ∷ 5 ∷ 6 ∷ 7 ∷ 8 ∷ [])
    ++ (128 ∷ 4 ∷ 0 ∷ 24 ∷ 0 ∷ 0 ∷ 0 ∷ 0 ∷ [])
    ++ (word 14 ++ replicate 24 0)
    -- the fixed block
    ++ (64 ∷ 2 ∷ 0 ∷ 0 ∷ [])

-- the answers of n relocatable allocations of no data bytes, in a fresh zone
abbrev pub answered : ℕ → ℕ → ℕ → List (List ℕ)
answered len m n = map brief (answers_of (replicate n (allocate_relocatable 0)) (zone len m))

-- one bay alone, which ends in a free block of 48 bytes: its gap is closed all the same
abbrev pub loose : List Call
loose = allocate_relocatable 44 ∷ allocate_relocatable 4 ∷ resize 16 4 ∷ allocate_relocatable 4 ∷ []

-- a fixed block between 56 bytes and 32: the block of 24 bytes, for which the first bay has no room after the 32, goes behind it
abbrev pub beyond : List Call
beyond = allocate_fixed 28 ∷ allocate_fixed 0 ∷ free_pointer 84 ∷ allocate_relocatable 0 ∷ allocate_relocatable 20 ∷ []

-- what the table is told of a zone with m masters, none of them free, and room enough
abbrev pub crowded : ℕ → Facts
crowded m = record {
  well = true;
  buf = longest_zone;
  len = longest_zone;
  chain = [];
  masters = m;
  size = λ t. none;
  largest = longest_zone;
  own = λ h. 0;
  first_sum = longest_zone;
  largest_after = longest_zone;
  largest_emptied = longest_zone;
  stop = λ need. none;
  live = m;
}

pub record GrowthSheet : Type 0 where
  pub answers : map brief (answers_of calls (zone 112 2)) ≡ done 112 ∷ done 16 ∷ done 20 ∷ done 0 ∷ done 0 ∷ done 0 ∷ done 24 ∷ []
  pub stands : bytes_after calls (zone 112 2) ≡ image
  pub closed : slice (bytes_after loose (zone 128 2)) zone_header 12 ≡ word 60 ++ word 68 ++ word 76
  pub behind : slice (bytes_after beyond (zone 112 1)) zone_header 8 ≡ word 56 ++ word 84
  -- with one master and one block, 36 bytes are free, 32, 28
  pub after_all : answered 60 1 2 ≡ done 16 ∷ done 20 ∷ []
  pub no_bay_case : answered 56 1 2 ≡ done 16 ∷ refused 5 ∷ []
  pub no_master_case : answered 52 1 2 ≡ done 16 ∷ refused 4 ∷ []
  -- with no master, likewise
  pub after_none : answered 52 0 1 ≡ done 16 ∷ []
  pub no_bay_none : answered 48 0 1 ≡ refused 5 ∷ []
  pub no_master_none : answered 44 0 1 ≡ refused 4 ∷ []
  -- "m + 8 above 8,188"
  pub to_the_limit : refusal_of (allocate_relocatable 0) (crowded 8180) ≡ 0
  pub beyond_it : refusal_of (allocate_relocatable 0) (crowded 8181) ≡ 4
