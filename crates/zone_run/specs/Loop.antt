-- zone-run's loop: what is run on the buffer in a turn, what is handed over to be written, and when there is another turn; and what all of it comes to.
use Rattle.std.specs.Prelude.{◌≡◌, Option, Bool, true, false, ◌&&◌, List, ◌++◌, ℕ, ◌+◌, ◌*◌, ◌-◌, ◌^◌, ◌≤◌, length, take, replicate, leb, ltb}
use Rattle.std.specs.Io.{StartsWith}
use Rattle.std.specs.Io.KnownBytes.{Consumes, Appends}
use Rattle.std.proofs.Math.Option.{none}
use Rattle.records.specs.Records.{records_of, output, after_input}
use Rattle.records.specs.Book.{buffer_length, book_lines}
use Rattle.records.specs.Shown.{Run}

-- "65,536 zero bytes as buffer"
unfoldable pub fresh_buffer : List ℕ
fresh_buffer = replicate buffer_length 0

-- how much is read at a time: 4,096 records
abbrev pub chunk_size : ℕ
chunk_size = 65536

-- a proved loop has to end, so full chunks are counted, up to what 64 bits hold
abbrev pub most_chunks : ℕ
most_chunks = 2 ^ 64 - 1

-- the buffer is as n bytes of input leave it, from the fresh buffer on
pub record Seen (n : ℕ) (buffer : List ℕ) : Type 0 where
  pub input : List ℕ
  pub size : length input ≡ n
  pub leaves : buffer ≡ after_input input fresh_buffer

-- `chunk` comes after n bytes of input: these lines are what it adds to all that is printed
pub record Continues (n : ℕ) (chunk lines : List ℕ) : Type 0 where
  pub earlier : List ℕ
  pub size : length earlier ≡ n
  pub prints : output (earlier ++ chunk) fresh_buffer ≡ output earlier fresh_buffer ++ lines

-- a turn: the first `got` bytes of the chunk were run on the buffer, and the first `printed` bytes of `out` are their lines
pub record Turned (chunk out entry exit : List ℕ) (got printed : ℕ) : Type 0 where
  pub most : got ≤ length chunk
  pub run : Run (take got chunk) entry exit out printed

-- whether there is another turn, after `full` full chunks and one of `got` bytes: that was full too, its lines were written, and it can be
-- counted
unfoldable pub goes_on : ℕ → Bool → ℕ → Bool
goes_on got written full = leb chunk_size got && (ltb full most_chunks && written)

-- the run is over: all that was read was run, and there was a reason to stop
pub record Ended (buffer : List ℕ) (full got : ℕ) (written : Bool) : Type 0 where
  pub most : got ≤ chunk_size
  pub seen : Seen (full * chunk_size + got) buffer
  pub stops : goes_on got written full ≡ false

-- ---- what a reader gave and a writer got, where a clause can name that

-- a writer got these lines; or, if not all were written, the first of their bytes
pub record Wrote (had has : Option (List ℕ)) (lines : List ℕ) (written : Bool) : Type 0 where
  pub bytes : List ℕ
  pub got : Appends had has bytes
  pub first : StartsWith lines bytes
  pub whole : written ≡ true → bytes ≡ lines

-- n bytes of input were read, which leave the buffer so from the fresh one on, and the writer got their lines
pub record Served (before after had has : Option (List ℕ)) (n : ℕ) (buffer : List ℕ) (written : Bool) : Type 0 where
  pub input : List ℕ
  pub size : length input ≡ n
  pub taken : Consumes before after input
  pub leaves : buffer ≡ after_input input fresh_buffer
  pub lines : Wrote had has (output input fresh_buffer) written

-- an input that is no longer than this has no more full chunks than can be counted, and is read to its end
abbrev pub longest_input : ℕ
longest_input = (most_chunks + 1) * chunk_size - 1

-- the ledger's lines for an input: of a book that is fed its records and never sees a zone
abbrev pub ledger_lines : List ℕ → List ℕ
ledger_lines input = book_lines (records_of input) none

-- whatever became of the run: this was read, and the writer got the ledger's lines of it, or, of a run that failed, the first of their bytes
pub record Faithful (before after had has : Option (List ℕ)) (done : Bool) : Type 0 where
  pub input : List ℕ
  pub taken : Consumes before after input
  pub lines : Wrote had has (ledger_lines input) done
