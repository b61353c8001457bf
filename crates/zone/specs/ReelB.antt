-- One concrete list of calls: the customer's reel B, in a zone of 96 bytes with 4 masters. Two splice marks with a profile and a recipe
-- between them, and a fixed block for the sampling hardware; the first mark is freed, and the profile grows: it goes to the front of the
-- bay and the recipe behind it slides up. Its handle still gives its bytes. Some calls are refused.
use Rattle.std.specs.Prelude.{List, [], ◌∷◌, ℕ, replicate}
use Rattle.calls.specs.Calls.{Call, by_handle, by_pointer, allocate_relocatable, allocate_fixed, free_handle, free_pointer, resize, size, read, write, view, compact, sums, check, length_of, enlarge, shrink, roster}

abbrev pub calls : List Call
calls =
    allocate_fixed 4  -- for the sampling hardware: pointer 92
    ∷ allocate_relocatable 4  -- a splice mark: handle 16
    ∷ allocate_relocatable 8  -- the profile: handle 20
    ∷ allocate_relocatable 4  -- the recipe: handle 24, its data at 56
    ∷ allocate_relocatable 4  -- another splice mark: handle 28
    ∷ write (by_handle 24) 0 4 (1 ∷ 2 ∷ 3 ∷ 4 ∷ 5 ∷ [])  -- the basis weight
    ∷ write (by_pointer 92) 2 2 (6 ∷ 7 ∷ [])
    ∷ free_handle 16
    ∷ free_handle 16  -- refused: 6
    ∷ resize 20 24  -- the profile grows, and the recipe slides: its data at 64
    ∷ read (by_handle 24) 0 4 (replicate 6 9)
    ∷ view (by_handle 24) 1 2
    ∷ resize 20 60  -- refused: 5
    ∷ allocate_relocatable 20  -- refused: 5
    ∷ allocate_fixed 0  -- pointer 88, where the next block begins
    ∷ allocate_relocatable 4  -- handle 16
    ∷ allocate_relocatable 0  -- refused: 4
    ∷ allocate_relocatable 40000  -- refused: 3, though the chain is empty
    ∷ resize 50 40000  -- refused: 6, though it is too large
    ∷ free_pointer 50  -- refused: 7
    ∷ read (by_handle 24) 0 5 (replicate 4 9)  -- refused: 8, though the buffer is too short
    ∷ read (by_handle 24) 0 4 []  -- refused: 10
    ∷ read (by_pointer 92) 0 4 (replicate 6 9)
    ∷ size (by_handle 20)
    ∷ compact
    ∷ sums
    ∷ check
    ∷ length_of
    ∷ shrink 100  -- strips nothing: a fixed block stands at the end
    ∷ enlarge 3  -- refused: 9
    ∷ enlarge 4
    ∷ free_pointer 88
    ∷ roster (replicate 31 9)  -- refused: 10
    ∷ roster (replicate 32 9)  -- just long enough
    ∷ roster (replicate 34 9)  -- handle 16 was given out last, and comes first
    ∷ []

-- what the ledger says of them: the refusal numbers, and the bytes that the handle gives after the slide
abbrev pub numbers : List ℕ
numbers =
    0 ∷ 0 ∷ 0 ∷ 0 ∷ 0 ∷ 0 ∷ 0 ∷ 0 ∷ 6 ∷ 0 ∷ 0 ∷ 0 ∷ 5 ∷ 5 ∷ 0 ∷ 0 ∷ 4 ∷ 3 ∷ 6 ∷ 7 ∷ 8 ∷ 10 ∷ 0 ∷ 0 ∷ 0 ∷ 0 ∷ 0 ∷ 0 ∷ 0 ∷ 9 ∷ 0 ∷ 0 ∷ 10 ∷ 0 ∷ 0 ∷ []

abbrev pub recipe : List ℕ
recipe = 1 ∷ 2 ∷ 3 ∷ 4 ∷ 9 ∷ 9 ∷ []

-- and what the last roster leaves in its second buffer: four records by rising handle, and the later bytes
abbrev pub listing : List ℕ
listing =
    0 ∷ 0 ∷ 0 ∷ 16 ∷ 0 ∷ 0 ∷ 0 ∷ 4
    ∷ 0 ∷ 0 ∷ 0 ∷ 20 ∷ 0 ∷ 0 ∷ 0 ∷ 24
    ∷ 0 ∷ 0 ∷ 0 ∷ 24 ∷ 0 ∷ 0 ∷ 0 ∷ 4
    ∷ 0 ∷ 0 ∷ 0 ∷ 28 ∷ 0 ∷ 0 ∷ 0 ∷ 4
    ∷ 9 ∷ 9 ∷ []
