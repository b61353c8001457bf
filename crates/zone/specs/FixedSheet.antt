-- Document 02, U6, by example: fixed blocks on four-byte lines, pointers that are L or the next block's offset, older images, and the edges of 3.
use Rattle.std.specs.Prelude.{◌≡◌, true, false, List, [], ◌∷◌, ◌++◌, map, ℕ, take, replicate}
use Rattle.bigendian.specs.BigEndian.{slice}
use Rattle.format.specs.WellFormed.{well_formed}
use Rattle.calls.specs.Calls.{Answer, by_pointer, allocate_fixed, free_pointer, size, read, write, view, check}
use Rattle.calls.specs.Table.{refusal_of}
use Rattle.zone.specs.RigSheet.{answers_of, bytes_after, done, refused}
use Rattle.zone.specs.GrowthSheet.{zone, word, crowded}
use Rattle.zone.specs.PageSheet.{with_byte, answers}

-- 32 bytes between bkFst, which is 32, and L; the buffer ends with the zone
abbrev pub vacant : List ℕ
vacant = zone 64 4

-- a fixed block of no data, and one more
abbrev pub one : List ℕ
one = bytes_after (allocate_fixed 0 ∷ []) vacant

abbrev pub two : List ℕ
two = bytes_after (allocate_fixed 0 ∷ allocate_fixed 0 ∷ []) vacant

-- a zone in which a fixed block of 8 bytes has these bytes behind its first word: what was its data of 6 bytes when "data from byte 2" held
abbrev pub older : List ℕ → List ℕ
older d = take 32 vacant ++ word 12 ++ replicate 20 0 ++ (64 ∷ 4 ∷ d)

pub record FixedSheet : Type 0 where
  -- "The need is up4(4 + c)"; "data start at byte 4"
  pub needs : map (λ (c : ℕ). answers (allocate_fixed c ∷ []) vacant) (0 ∷ 1 ∷ 4 ∷ 5 ∷ 8 ∷ 9 ∷ 28 ∷ 29 ∷ []) ≡ map (◌∷ []) (done 64 ∷ done 60 ∷ done 60 ∷ done 56 ∷ done 56 ∷ done 52 ∷ done 36 ∷ refused 5 ∷ [])
  pub sizes : map (λ (c : ℕ). answers (size (by_pointer 60) ∷ []) (bytes_after (allocate_fixed c ∷ []) vacant)) (1 ∷ 2 ∷ 3 ∷ 4 ∷ []) ≡ replicate 4 (done 4 ∷ [])
  -- of no data: its pointer is L, and still its pointer
  pub at_end : answers (allocate_fixed 0 ∷ size (by_pointer 64) ∷ read (by_pointer 64) 0 0 [] ∷ read (by_pointer 64) 0 1 (9 ∷ []) ∷ write (by_pointer 64) 0 0 [] ∷ write (by_pointer 64) 0 1 (9 ∷ []) ∷ free_pointer 64 ∷ free_pointer 64 ∷ []) vacant ≡ done 64 ∷ done 0 ∷ done 0 ∷ refused 8 ∷ done 0 ∷ refused 8 ∷ done 0 ∷ refused 7 ∷ []
  pub stands : slice one 32 32 ≡ word 14 ++ replicate 24 0 ++ (64 ∷ 2 ∷ 0 ∷ 0 ∷ [])
  pub reads : map (λ (a : Answer). a.bytes) (answers_of (read (by_pointer 64) 0 0 (9 ∷ []) ∷ view (by_pointer 64) 0 0 ∷ []) one) ≡ (9 ∷ []) ∷ [] ∷ []
  pub writes : bytes_after (write (by_pointer 64) 0 0 (9 ∷ []) ∷ []) one ≡ one
  pub frees : bytes_after (free_pointer 64 ∷ []) one ≡ vacant
  -- of two, the lower one's pointer is the other's offset
  pub neighbours : answers (allocate_fixed 0 ∷ allocate_fixed 0 ∷ size (by_pointer 60) ∷ size (by_pointer 64) ∷ []) vacant ≡ done 64 ∷ done 60 ∷ done 0 ∷ done 0 ∷ []
  pub lower_freed : bytes_after (free_pointer 60 ∷ []) two ≡ one
  pub upper_freed : answers (free_pointer 64 ∷ size (by_pointer 60) ∷ size (by_pointer 64) ∷ []) two ≡ done 0 ∷ done 0 ∷ refused 7 ∷ []
  pub between : answers (free_pointer 56 ∷ free_pointer 58 ∷ free_pointer 61 ∷ free_pointer 62 ∷ free_pointer 63 ∷ []) two ≡ replicate 5 (refused 7)
  -- "the second word zero"
  pub second_word_checked : map (λ (i : ℕ). well_formed (with_byte i 1 one)) (62 ∷ 63 ∷ []) ≡ false ∷ false ∷ []
  pub checked : answers (check ∷ free_pointer 64 ∷ []) (with_byte 63 1 one) ≡ done 0 ∷ refused 1 ∷ []
  -- "an older image that holds a fixed block is refused unless it meets the new layout"
  pub older_refused : map (λ (d : List ℕ). well_formed (older d)) ((1 ∷ 2 ∷ 3 ∷ 4 ∷ 5 ∷ 6 ∷ []) ∷ (0 ∷ 2 ∷ 3 ∷ 4 ∷ 5 ∷ 6 ∷ []) ∷ (0 ∷ 0 ∷ 3 ∷ 4 ∷ 5 ∷ 6 ∷ []) ∷ []) ≡ false ∷ false ∷ true ∷ []
  pub older_read : answers (size (by_pointer 58) ∷ size (by_pointer 60) ∷ []) (older (0 ∷ 0 ∷ 3 ∷ 4 ∷ 5 ∷ 6 ∷ [])) ≡ refused 7 ∷ done 4 ∷ []
  -- "3 for fixed blocks: c above 32,760"
  pub to_the_limit : refusal_of (allocate_fixed 32760) (crowded 8) ≡ 0
  pub beyond_it : map (λ (c : ℕ). refusal_of (allocate_fixed c) (crowded 8)) (32761 ∷ 32762 ∷ []) ≡ 3 ∷ 3 ∷ []
