-- One free block over all bytes of a part, of which those behind an offset are free.
use mathlib.Core.Path.{◌≡◌, refl, sym}
use mathlib.Core.List.{List, [], ◌∷◌, append-nil}
use Prim.Native.Nat.{ℕ, ◌+◌, ◌-◌, ◌%◌, ◌<◌, ◌≤◌}
use native.Mathlib.Nat.{sub-zero}
use native.Mathlib.Omega.{arith}
use lib.ListN.{length, drop, drop_of_length-le}
use Rattle.block_type.specs.Limits.{longest_zone}
use Rattle.bigendian.specs.BigEndian.{overwrite}
use Rattle.bay.specs.Bay.{free, gap}
use Rattle.bay.specs.Bytes.{encode_cell}
use Rattle.bay.specs.Sound.{bytes_of}
use Rattle.bay.proofs.CellBytes.{enc}
use Rattle.bay.proofs.BayBytes.{gap-none, gap-some}
use Rattle.structure.specs.Structure.{encode_block, cell}
use Rattle.slide.specs.blank.Between.{Hole, nothing, Between}

free-same : (n : ℕ) → encode_block (cell (free n)) ≡ encode_cell (free n)
unfolding encode_block
free-same n = refl

module _ (s : List ℕ) (l : 0 < length s) (d : length s % 4 ≡ 0) (u : length s ≤ longest_zone) where
  pub whole-between : (end : ℕ) → end ≤ length s → Hole s end (length s) → Between s 0 0 end (length s)
  whole-between end e h = record { low = omega arith; order = omega arith; high = e; some = omega arith; fits = omega arith; short = u; ahead = nothing refl; behind = h }

  pub whole-done : (y : List ℕ) → y ≡ overwrite s 0 (encode_block (cell (free (length s - 0)))) → y ≡ bytes_of (gap (length s) [])
  whole-done y e =
      let n = length s in
      let k = (enc (free n) (omega arith, d, u)).long in
      let le : n ≤ 0 + length (encode_cell (free n)) = omega arith in
      let dr : drop (0 + length (encode_cell (free n))) s ≡ [] = drop_of_length-le s le in
      rw (e, sub-zero n, free-same n, gap-some n l, dr) (simp append-nil)

pub whole-none : (s : List ℕ) → length s ≤ 0 → s ≡ bytes_of (gap (length s) [])
whole-none [] l = sym (gap-none 0 refl)
whole-none (x ∷ s) l = absurd (omega arith)
