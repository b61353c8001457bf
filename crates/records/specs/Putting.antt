-- For proofs: what the functions that put a line into a buffer promise to those that call them.
use Rattle.std.specs.Prelude.{◌≡◌, List, ℕ, ◌+◌, ◌≤◌, length}
use Rattle.bigendian.specs.BigEndian.{overwrite}
use Rattle.records.specs.Records.{Ran, text}

-- the bytes b were put at `at`, and the next go to r
pub record Put (b : List ℕ) (at : ℕ) (entry exit : List ℕ) (r : ℕ) : Type 0 where
  pub bytes : exit ≡ overwrite entry at b
  pub next : r ≡ at + length b

-- a record was run, and its line put at `at`
pub record Step (ran : Ran) (at : ℕ) (out zone' out' : List ℕ) (r : ℕ) : Type 0 where
  pub zone : zone' ≡ ran.bytes
  pub line : Put (text ran.shown) at out out' r
  pub short : r ≤ at + 22
