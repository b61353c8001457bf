-- The bytes of a zone with no block but a free one.
use Rattle.std.specs.Prelude.{◌≡◌, Bool, cond, ◌&&◌, List, [], ◌++◌, ℕ, ◌+◌, ◌*◌, ◌-◌, ◌/◌, ◌%◌, ◌≤◌, replicate, eqb, leb}
use Rattle.bigendian.specs.BigEndian.{to_be}
use Rattle.block_type.specs.Limits.{first_block, longest_zone, most_masters, master_size, zone_header, free_header}
use Rattle.masters.specs.chain.Chain.{chain_bytes}

-- length, bkFst, m
unfoldable pub size_bytes : ℕ → ℕ → List ℕ
size_bytes n m = to_be 4 n ++ (to_be 4 (zone_header + master_size * m) ++ to_be 4 m)

-- then the chain's head, the clock, which starts at 0, and a zero byte
unfoldable pub head_bytes : ℕ → ℕ → List ℕ
head_bytes n m = size_bytes n m ++ (to_be 2 (cond (eqb m 0) 0 zone_header) ++ to_be 2 0)

-- a free block of k bytes, none for 0
unfoldable pub free_bytes : ℕ → List ℕ
free_bytes k = cond (eqb k 0) [] (to_be 4 (k / 2) ++ replicate (k - free_header) 0)

unfoldable pub fresh_bytes : ℕ → ℕ → List ℕ
fresh_bytes n m = head_bytes n m ++ (chain_bytes zone_header m ++ free_bytes (n - (zone_header + master_size * m)))

-- whether a zone of n bytes with m masters can be made in a buffer of `buf` bytes
abbrev pub accepts : ℕ → ℕ → ℕ → Bool
accepts buf n m = eqb (n % 4) 0 && leb (first_block m) n && leb n buf && leb n longest_zone && leb m most_masters

-- what an accepted call may rely on, in a zone of n bytes
pub record Fresh (n m : ℕ) : Type 0 where
  pub four : n % 4 ≡ 0
  pub room : zone_header + master_size * m ≤ n
  pub short : n ≤ longest_zone
  pub few : m ≤ most_masters
