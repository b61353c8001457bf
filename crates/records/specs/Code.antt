-- A record's code, as the code of the program has it.
use Rattle.std.specs.Prelude.{◌≡◌, [], ◌∷◌, ℕ, ◌%◌, get_or, Result, MatchResult}
use Rattle.calls.specs.Calls.{by_handle, allocate_relocatable, allocate_fixed, free_handle, free_pointer, resize, write, compact, enlarge, shrink}
use Rattle.records.specs.Records.{Action, initialize, call, read_byte, nothing, actions}
use Rattle.records.specs.declared.Code.{Code}
use Rattle.records.specs.declared.Code.TheVariants.{Initialize, AllocateRelocatable, AllocateFixed, FreeHandle, FreePointer, Resize, WriteByte, ReadByte, Compact, Enlarge, Shrink}
use Rattle.records.specs.declared.UnknownCode.{UnknownCode}

-- what it asks for, with the record's three numbers
abbrev pub asked : Code → ℕ → ℕ → ℕ → Action
asked Initialize a b d = initialize a b
asked AllocateRelocatable a b d = call (allocate_relocatable a)
asked AllocateFixed a b d = call (allocate_fixed a)
asked FreeHandle a b d = call (free_handle a)
asked FreePointer a b d = call (free_pointer a)
asked Resize a b d = call (resize a b)
asked WriteByte a b d = call (write (by_handle a) b 1 (d % 256 ∷ []))
asked ReadByte a b d = read_byte a b
asked Compact a b d = call compact
asked Enlarge a b d = call (enlarge a)
asked Shrink a b d = call (shrink a)

-- a byte is a code by its place in `actions`
pub record Means (byte : ℕ) (code : Code) : Type 0 where
  pub asks : (a b d : ℕ) → get_or (actions a b d) byte nothing ≡ asked code a b d

-- and none behind their end
pub record MeansNothing (byte : ℕ) : Type 0 where
  pub asks : (a b d : ℕ) → get_or (actions a b d) byte nothing ≡ nothing

abbrev pub Decodes : ℕ → Result Code UnknownCode → Type 0
Decodes byte r = MatchResult r (Means byte) (λ _. MeansNothing byte)
