-- Document 02, U5, by example: a page's bytes after each call on it, the clock's step from 255 to 0, who goes and who stops the dropping, the numbers, how
-- pages slide with other blocks, and bytes that are no zone.
use Rattle.std.specs.Prelude.{◌≡◌, true, false, List, [], ◌∷◌, ◌++◌, map, ℕ, suc, take, drop, replicate}
use Rattle.bigendian.specs.BigEndian.{slice}
use Rattle.format.specs.WellFormed.{well_formed}
use Rattle.calls.specs.Calls.{Call, by_name, set_dirty, clear_dirty, set_lock, clear_lock, create_page, use_page, mark_page, drop_page, allocate_relocatable, allocate_fixed, free_handle, free_pointer, size, write, compact, shrink, on_page}
use Rattle.calls.specs.Table.{refusal_of}
use Rattle.zone.specs.RigSheet.{answers_of, bytes_after, brief, done, refused}
use Rattle.zone.specs.GrowthSheet.{zone, word, crowded}

abbrev pub create : ℕ → ℕ → Call
create n c = on_page n (create_page c)

abbrev pub use' : ℕ → Call
use' n = on_page n use_page

-- 88 bytes between bkFst, which is 24, and L
abbrev pub vacant : List ℕ
vacant = zone 112 2

-- byte i replaced
abbrev pub with_byte : ℕ → ℕ → List ℕ → List ℕ
with_byte i v bs = take i bs ++ (v ∷ drop (suc i) bs)

abbrev pub answers : List Call → List ℕ → List (List ℕ)
answers cs bs = map brief (answers_of cs bs)

-- ---- one page, its name 01020304 high byte first

abbrev pub named : ℕ
named = 16909060

abbrev pub one_page : List ℕ
one_page = bytes_after (create named 5 ∷ []) vacant

abbrev pub image : List ℕ
image =
    -- L, bkFst, m, hFstFree, the clock, the zero byte; two masters
    word 112 ++ word 24 ++ word 2 ++ (0 ∷ 16 ∷ 1 ∷ 0 ∷ []) ++ word 20 ++ word 0
    -- the page: type 3 and 16 bytes, the name, both flags clear and stamp 1, data; then free bytes
    ++ (192 ∷ 8 ∷ 1 ∷ 2 ∷ 3 ∷ 4 ∷ 0 ∷ 1 ∷ replicate 8 0)
    ++ (word 36 ++ replicate 68 0)

-- ---- the clock goes round: pages 3, 2 and 1 get the stamps 254, 255 and 0, so their ages are 2, 1 and 0 when the clock is 0

abbrev pub round : List Call
round = create 3 20 ∷ create 2 20 ∷ create 1 20 ∷ create 4 20 ∷ use' 3 ∷ use' 2 ∷ use' 1 ∷ []

-- ---- the page 1 lies before a fixed block, where 28 bytes are all there is, and goes first all the same: 48 are needed

abbrev pub sides : List Call
sides = create 1 0 ∷ allocate_fixed 52 ∷ allocate_fixed 0 ∷ free_pointer 60 ∷ create 2 32 ∷ create 3 40 ∷ use' 1 ∷ use' 2 ∷ []

-- ---- a dirty page 1 and a locked page 2, of 28 bytes each; 32 are free

abbrev pub flagged_pages : List Call
flagged_pages = create 1 20 ∷ create 2 20 ∷ on_page 1 (mark_page set_dirty) ∷ on_page 2 (mark_page set_lock) ∷ []

-- ---- pages among other blocks: page 1 holds 1, 2, 3, 4

abbrev pub filled : Call
filled = write (by_name 1) 0 4 (1 ∷ 2 ∷ 3 ∷ 4 ∷ [])

abbrev pub lock : ℕ → Call
lock n = on_page n (mark_page set_lock)

-- a locked page between two relocatable blocks, of which the first goes
abbrev pub between : List Call
between = allocate_relocatable 4 ∷ create 1 4 ∷ allocate_relocatable 4 ∷ filled ∷ lock 1 ∷ free_handle 16 ∷ compact ∷ []

-- a page behind a block that goes, with only free bytes behind it: shrink compacts, and strips all of them
abbrev pub calls_at_end : List Call
calls_at_end = allocate_relocatable 4 ∷ create 1 4 ∷ filled ∷ free_handle 16 ∷ shrink 1000 ∷ []

-- before blocks for which masters are added
abbrev pub growing : List Call
growing = create 1 4 ∷ filled ∷ allocate_relocatable 0 ∷ allocate_relocatable 0 ∷ allocate_relocatable 0 ∷ []

-- bytes that are no zone: byte 15 is 1
abbrev pub broken_zone : List ℕ
broken_zone = with_byte 15 1 vacant

pub record PageSheet : Type 0 where
  -- create; set and clear dirty and lock; use
  pub created : answers (create named 5 ∷ []) vacant ≡ done 32 ∷ []
  pub stands : one_page ≡ image
  pub dirty : bytes_after (on_page named (mark_page set_dirty) ∷ []) one_page ≡ with_byte 30 128 image
  pub locked : bytes_after (on_page named (mark_page set_dirty) ∷ on_page named (mark_page set_lock) ∷ []) one_page ≡ with_byte 30 192 image
  pub unlocked_only : bytes_after (on_page named (mark_page clear_lock) ∷ []) (with_byte 30 192 image) ≡ with_byte 30 128 image
  pub clean_only : bytes_after (on_page named (mark_page clear_dirty) ∷ []) (with_byte 30 192 image) ≡ with_byte 30 64 image
  pub used : bytes_after (use' named ∷ []) (with_byte 30 192 image) ≡ with_byte 30 192 (with_byte 31 2 (with_byte 14 2 image))
  pub use_told : answers (use' named ∷ []) one_page ≡ done 32 ∷ []
  -- a write by name changes neither flags nor stamp
  pub written : bytes_after (write (by_name named) 6 2 (7 ∷ 8 ∷ []) ∷ []) one_page ≡ with_byte 38 7 (with_byte 39 8 image)
  -- "drop, which heeds neither flag": only the clock is not what it was
  pub dropped : bytes_after (on_page named (mark_page set_dirty) ∷ on_page named (mark_page set_lock) ∷ on_page named drop_page ∷ []) one_page ≡ with_byte 14 1 vacant
  -- "step the clock by one modulo 256"
  pub from_255 : slice (bytes_after (create named 5 ∷ []) (with_byte 14 255 vacant)) 14 2 ≡ 0 ∷ 0 ∷ []
  pub stamp_0 : slice (bytes_after (create named 5 ∷ []) (with_byte 14 255 vacant)) 30 2 ≡ 0 ∷ 0 ∷ []
  pub oldest : answers round (with_byte 14 253 vacant) ≡ done 32 ∷ done 60 ∷ done 88 ∷ done 32 ∷ refused 13 ∷ done 60 ∷ done 88 ∷ []
  -- by age alone, "until one does"
  pub no_help : answers sides vacant ≡ done 32 ∷ done 60 ∷ done 56 ∷ done 0 ∷ done 64 ∷ done 64 ∷ refused 13 ∷ refused 13 ∷ []
  -- "smaller name among equals": the stamp of page 1 is made that of page 2, which lies before it
  pub equals : answers (create 3 28 ∷ use' 1 ∷ use' 2 ∷ []) (with_byte 59 1 (bytes_after (create 2 20 ∷ create 1 20 ∷ []) vacant)) ≡ done 60 ∷ refused 13 ∷ done 32 ∷ []
  -- 5 before 12: 60 bytes with the dirty page gone, 68 are needed; then 60; and 12's value is the name
  pub five : answers (create 3 60 ∷ []) (bytes_after flagged_pages vacant) ≡ refused 5 ∷ []
  pub twelve : answers (create 3 52 ∷ []) (bytes_after flagged_pages vacant) ≡ (12 ∷ 1 ∷ 0 ∷ []) ∷ []
  pub unlocked : answers (on_page 2 (mark_page clear_lock) ∷ create 3 60 ∷ []) (bytes_after flagged_pages vacant) ≡ done 0 ∷ (12 ∷ 1 ∷ 0 ∷ []) ∷ []
  pub untouched : bytes_after (create 3 52 ∷ create 3 60 ∷ []) (bytes_after flagged_pages vacant) ≡ bytes_after flagged_pages vacant
  -- the clean page 1 is older, and stays: "nothing is dropped"
  pub later : answers (create 1 20 ∷ create 2 20 ∷ on_page 2 (mark_page set_dirty) ∷ create 3 60 ∷ use' 1 ∷ []) vacant ≡ done 32 ∷ done 60 ∷ done 0 ∷ (12 ∷ 2 ∷ 0 ∷ []) ∷ done 32 ∷ []
  -- 0 is a name like any other
  pub name_0 : answers (create 0 72 ∷ on_page 0 (mark_page set_dirty) ∷ create 5 8 ∷ []) vacant ≡ done 32 ∷ done 0 ∷ (12 ∷ 0 ∷ 0 ∷ []) ∷ []
  -- 11 before 3, 13 of a name that is not there, 3 from 32,757 on (in `crowded` no master is free, which a create does not ask for)
  pub eleven : answers (create named 40000 ∷ create 1 40000 ∷ use' 1 ∷ size (by_name 1) ∷ []) one_page ≡ refused 11 ∷ refused 3 ∷ refused 13 ∷ refused 13 ∷ []
  pub to_the_limit : refusal_of (create 1 32756) (crowded 8) ≡ 0
  pub beyond_it : refusal_of (create 1 32757) (crowded 8) ≡ 3
  -- a relocatable allocation drops nothing: a block of 40 bytes finds no room beside a page of 80
  pub no_drop : answers (create 1 72 ∷ allocate_relocatable 36 ∷ create 2 36 ∷ []) vacant ≡ done 32 ∷ refused 5 ∷ done 32 ∷ []
  -- "the rest zero", "byte 15 remains zero", "Names are distinct in a well-formed zone"
  pub well : well_formed (with_byte 14 200 one_page) ≡ true
  pub bits : map (λ (v : ℕ). well_formed (with_byte 30 v one_page)) (1 ∷ 2 ∷ 4 ∷ 8 ∷ 16 ∷ 32 ∷ 64 ∷ 128 ∷ 192 ∷ []) ≡ false ∷ false ∷ false ∷ false ∷ false ∷ false ∷ true ∷ true ∷ true ∷ []
  pub last_byte : well_formed (with_byte 15 1 one_page) ≡ false
  pub two_names : map (λ (v : ℕ). well_formed (with_byte 45 v (bytes_after (create 1 5 ∷ create 2 5 ∷ []) vacant))) (0 ∷ 1 ∷ 2 ∷ []) ≡ true ∷ false ∷ true ∷ []
  -- "Named blocks slide as relocatable ones do": with their names, flags, stamps and data
  pub slides : answers between vacant ≡ done 16 ∷ done 40 ∷ done 20 ∷ done 0 ∷ done 0 ∷ done 0 ∷ done 68 ∷ []
  pub slid : slice (bytes_after between vacant) 20 28 ≡ word 40 ++ (192 ∷ 6 ∷ 0 ∷ 0 ∷ 0 ∷ 1 ∷ 64 ∷ 1 ∷ 1 ∷ 2 ∷ 3 ∷ 4 ∷ []) ++ (128 ∷ 4 ∷ 0 ∷ 20 ∷ 0 ∷ 0 ∷ 0 ∷ 0 ∷ []) ++ word 34
  pub strips : answers calls_at_end vacant ≡ done 16 ∷ done 40 ∷ done 0 ∷ done 0 ∷ done 76 ∷ []
  pub stripped : bytes_after calls_at_end vacant ≡ word 36 ++ word 24 ++ word 2 ++ (0 ∷ 16 ∷ 1 ∷ 0 ∷ []) ++ word 20 ++ word 0 ++ (192 ∷ 6 ∷ 0 ∷ 0 ∷ 0 ∷ 1 ∷ 0 ∷ 1 ∷ 1 ∷ 2 ∷ 3 ∷ 4 ∷ []) ++ replicate 76 0
  pub grows : answers growing vacant ≡ done 32 ∷ done 0 ∷ done 16 ∷ done 20 ∷ done 24 ∷ []
  pub grown : map (λ (at : ℕ). slice (bytes_after growing vacant) at 4) (4 ∷ 12 ∷ 56 ∷ 60 ∷ 64 ∷ []) ≡ word 56 ∷ (0 ∷ 28 ∷ 1 ∷ 0 ∷ []) ∷ (192 ∷ 6 ∷ 0 ∷ 0 ∷ []) ∷ (0 ∷ 1 ∷ 0 ∷ 1 ∷ []) ∷ (1 ∷ 2 ∷ 3 ∷ 4 ∷ []) ∷ []
  -- a page behind a free block stays there: neither a mark nor a use moves it
  pub hole : answers (allocate_relocatable 4 ∷ create 1 4 ∷ free_handle 16 ∷ lock 1 ∷ use' 1 ∷ []) vacant ≡ done 16 ∷ done 40 ∷ done 0 ∷ done 0 ∷ done 40 ∷ []
  -- a locked page is passed over, though it is the oldest
  pub passed_over : answers (create 1 20 ∷ create 2 20 ∷ lock 1 ∷ create 3 28 ∷ use' 1 ∷ use' 2 ∷ []) vacant ≡ done 32 ∷ done 60 ∷ done 0 ∷ done 60 ∷ done 32 ∷ refused 13 ∷ []
  -- "1: zone not well-formed"
  pub no_zone : answers (create 1 4 ∷ use' 1 ∷ lock 1 ∷ on_page 1 drop_page ∷ size (by_name 1) ∷ []) broken_zone ≡ refused 1 ∷ refused 1 ∷ refused 1 ∷ refused 1 ∷ refused 1 ∷ []
  pub left_broken : bytes_after (create 1 4 ∷ use' 1 ∷ lock 1 ∷ on_page 1 drop_page ∷ []) broken_zone ≡ broken_zone
  -- a write to one of two pages leaves the other
  pub two_pages : slice (bytes_after (create 1 4 ∷ create 2 4 ∷ filled ∷ write (by_name 2) 0 4 (5 ∷ 6 ∷ 7 ∷ 8 ∷ []) ∷ []) vacant) 24 24 ≡ (192 ∷ 6 ∷ 0 ∷ 0 ∷ 0 ∷ 1 ∷ 0 ∷ 1 ∷ 1 ∷ 2 ∷ 3 ∷ 4 ∷ []) ++ (192 ∷ 6 ∷ 0 ∷ 0 ∷ 0 ∷ 2 ∷ 0 ∷ 2 ∷ 5 ∷ 6 ∷ 7 ∷ 8 ∷ [])
  -- a page has 8 bytes of header
  pub no_header : well_formed (take 24 vacant ++ (192 ∷ 2 ∷ 0 ∷ 0 ∷ []) ++ word 42 ++ replicate 80 0) ≡ false
