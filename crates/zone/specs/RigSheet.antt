-- Document 01, 'Rig sheet': the starred rows R1 to R8 as one table, with R5 and R6 reworked for document 02's U6. Each row starts from L = 64, m = 4, in a buffer of 70 bytes.
use Rattle.std.specs.Prelude.{◌≡◌, List, [], ◌∷◌, map, ℕ, length, replicate}
use Rattle.bigendian.specs.BigEndian.{slice}
use Rattle.calls.specs.Calls.{Call, Answer, by_handle, by_pointer, allocate_relocatable, allocate_fixed, free_handle, free_pointer, resize, shrink, size, sums}
use Rattle.zone.specs.Call.{call, initialize}

-- ---- a list of calls, each on the bytes that the last one left: the answers, and the bytes after it

abbrev pub answers_of : List Call → List ℕ → List Answer
answers_of [] bs = []
answers_of (c ∷ cs) bs = (call c bs).answer ∷ answers_of cs (call c bs).bytes

abbrev pub bytes_after : List Call → List ℕ → List ℕ
bytes_after [] bs = bs
bytes_after (c ∷ cs) bs = bytes_after cs (call c bs).bytes

-- ---- the table

-- bytes that stand at an offset
pub record Piece : Type 0 where
  pub at : ℕ
  pub bytes : List ℕ

-- the calls, the refusal and the values of each, and pieces of the buffer after the last
pub record Row : Type 0 where
  pub calls : List Call
  pub told : List (List ℕ)
  pub pieces : List Piece

-- the bytes beyond the zone are 9
abbrev pub fresh : List ℕ
fresh = (initialize 64 4 (replicate 70 9)).bytes

abbrev pub brief : Answer → List ℕ
brief a = a.number ∷ a.value ∷ a.second ∷ []

abbrev pub done : ℕ → List ℕ
done v = 0 ∷ v ∷ 0 ∷ []

abbrev pub refused : ℕ → List ℕ
refused n = n ∷ 0 ∷ 0 ∷ []

abbrev pub piece : ℕ → List ℕ → Piece
piece at bs = record { at = at; bytes = bs }

-- master h holds the offset p, below 256
abbrev pub master : ℕ → ℕ → Piece
master h p = piece h (0 ∷ 0 ∷ 0 ∷ p ∷ [])

pub record Holds (r : Row) : Type 0 where
  pub told : map brief (answers_of r.calls fresh) ≡ r.told
  pub stands : map (λ p. slice (bytes_after r.calls fresh) p.at (length p.bytes)) r.pieces ≡ map (λ p. p.bytes) r.pieces

-- fresh: 00000040 00000020 00000004 00100000 00000014 00000018 0000001C 00000000 00000010, then 28 zero bytes
abbrev pub r1 : Row
r1 = record {
  calls = [];
  told = [];
  pieces =
      piece 0 (0 ∷ 0 ∷ 0 ∷ 64 ∷ 0 ∷ 0 ∷ 0 ∷ 32 ∷ 0 ∷ 0 ∷ 0 ∷ 4 ∷ 0 ∷ 16 ∷ 0 ∷ 0 ∷ [])
      ∷ piece 16 (0 ∷ 0 ∷ 0 ∷ 20 ∷ 0 ∷ 0 ∷ 0 ∷ 24 ∷ 0 ∷ 0 ∷ 0 ∷ 28 ∷ 0 ∷ 0 ∷ 0 ∷ 0 ∷ [])
      ∷ piece 32 (0 ∷ 0 ∷ 0 ∷ 16 ∷ [])
      ∷ piece 36 (replicate 28 0)
      ∷ piece 64 (replicate 6 9)
      ∷ [];
}

-- relocatable 6: handle 16, data at 36, size 8, header 80060010
abbrev pub r2 : Row
r2 = record {
  calls = allocate_relocatable 6 ∷ size (by_handle 16) ∷ [];
  told = done 16 ∷ done 8 ∷ [];
  pieces = master 16 36 ∷ piece 32 (128 ∷ 6 ∷ 0 ∷ 16 ∷ []) ∷ piece 64 (replicate 6 9) ∷ [];
}

-- then relocatable 8: handle 20, data at 48. Free 16
abbrev pub r3_before : Row
r3_before = record {
  calls = allocate_relocatable 6 ∷ allocate_relocatable 8 ∷ free_handle 16 ∷ sums ∷ [];
  told = done 16 ∷ done 20 ∷ done 0 ∷ (0 ∷ 20 ∷ 20 ∷ []) ∷ [];
  pieces = master 20 48 ∷ piece 32 (0 ∷ 0 ∷ 0 ∷ 6 ∷ []) ∷ piece 56 (0 ∷ 0 ∷ 0 ∷ 4 ∷ 0 ∷ 0 ∷ 0 ∷ 0 ∷ []) ∷ [];
}

-- Relocatable 13: sum 20, pieces 12 and 8; handle 20 now at 36, new handle 16 at 48, size 16
abbrev pub r3 : Row
r3 = record {
  calls = allocate_relocatable 6 ∷ allocate_relocatable 8 ∷ free_handle 16 ∷ allocate_relocatable 13 ∷ size (by_handle 16) ∷ [];
  told = done 16 ∷ done 20 ∷ done 0 ∷ done 16 ∷ done 16 ∷ [];
  pieces = master 20 36 ∷ master 16 48 ∷ piece 32 (128 ∷ 6 ∷ 0 ∷ 20 ∷ []) ∷ piece 44 (128 ∷ 10 ∷ 0 ∷ 16 ∷ []) ∷ piece 64 (replicate 6 9) ∷ [];
}

-- then relocatable 0: refused 5. Resize 20 to 4, relocatable 0 again: handle 24, size 0
abbrev pub r4 : Row
r4 = record {
  calls = allocate_relocatable 6 ∷ allocate_relocatable 8 ∷ free_handle 16 ∷ allocate_relocatable 13 ∷ allocate_relocatable 0 ∷ resize 20 4 ∷ allocate_relocatable 0 ∷ size (by_handle 24) ∷ [];
  told = done 16 ∷ done 20 ∷ done 0 ∷ done 16 ∷ refused 5 ∷ done 0 ∷ done 24 ∷ done 0 ∷ [];
  pieces = master 24 44 ∷ piece 40 (128 ∷ 2 ∷ 0 ∷ 24 ∷ []) ∷ piece 64 (replicate 6 9) ∷ [];
}

-- fixed 5: pointer 56, size 8, header 40060000. Then relocatable 17: 5; relocatable 16: handle 16
abbrev pub r5 : Row
r5 = record {
  calls = allocate_fixed 5 ∷ size (by_pointer 56) ∷ allocate_relocatable 17 ∷ allocate_relocatable 16 ∷ [];
  told = done 56 ∷ done 8 ∷ refused 5 ∷ done 16 ∷ [];
  pieces = piece 52 (64 ∷ 6 ∷ 0 ∷ 0 ∷ 0 ∷ 0 ∷ 0 ∷ 0 ∷ 0 ∷ 0 ∷ 0 ∷ 0 ∷ []) ∷ master 16 36 ∷ [];
}

-- fixed 0, 8, 0: pointers 64, 52, 48. Free 52. Relocatable 9: 5, though 24 bytes are free; relocatable 8 twice: data at 36 and 52
abbrev pub r6 : Row
r6 = record {
  calls = allocate_fixed 0 ∷ allocate_fixed 8 ∷ allocate_fixed 0 ∷ free_pointer 52 ∷ sums ∷ allocate_relocatable 9 ∷ allocate_relocatable 8 ∷ allocate_relocatable 8 ∷ [];
  told = done 64 ∷ done 52 ∷ done 48 ∷ done 0 ∷ (0 ∷ 24 ∷ 12 ∷ []) ∷ refused 5 ∷ done 16 ∷ done 20 ∷ [];
  pieces = master 16 36 ∷ master 20 52 ∷ piece 60 (64 ∷ 2 ∷ 0 ∷ 0 ∷ []) ∷ [];
}

-- shrink 10: 8
abbrev pub r7 : Row
r7 = record { calls = shrink 10 ∷ []; told = done 8 ∷ []; pieces = piece 0 (0 ∷ 0 ∷ 0 ∷ 56 ∷ []) ∷ piece 32 (0 ∷ 0 ∷ 0 ∷ 12 ∷ []) ∷ piece 64 (replicate 6 9) ∷ [] }

-- fresh, shrink 1,000: 32
abbrev pub r8 : Row
r8 = record { calls = shrink 1000 ∷ []; told = done 32 ∷ []; pieces = piece 0 (0 ∷ 0 ∷ 0 ∷ 32 ∷ []) ∷ piece 32 (replicate 32 0) ∷ piece 64 (replicate 6 9) ∷ [] }

abbrev pub table : List Row
table = r1 ∷ r2 ∷ r3_before ∷ r3 ∷ r4 ∷ r5 ∷ r6 ∷ r7 ∷ r8 ∷ []

pub data AllHold : List Row → Type 0 where
  end : AllHold []
  row : {r : Row} {rs : List Row} → Holds r → AllHold rs → AllHold (r ∷ rs)
