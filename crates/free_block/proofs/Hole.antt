-- A free block of a zone is zero behind its header.
use mathlib.Core.Path.{◌≡◌, sym, ap, ◌∙◌, subst}
use mathlib.Core.List.{List, [], ◌∷◌, ◌++◌, map, append_assoc}
use Prim.Native.Nat.{ℕ, zero, suc, ◌+◌, ◌-◌, ◌/◌}
use native.Mathlib.Omega.{arith}
use lib.ListN.{take, drop, replicate, length-replicate}
use lib.Seq.{drop-drop, take_at, drop_at}
use Rattle.block_type.specs.Limits.{free_header}
use Rattle.bigendian.specs.BigEndian.{to_be}
use Rattle.bigendian.proofs.Laws.{length-to_be}
use Rattle.bay.specs.Bay.{free, gap}
use Rattle.structure.specs.Structure.{Block, Structure, sizes, encode_block, encode, decode_zone, start, join, cell}
use Rattle.structure.specs.Valid.{Valid}
use Rattle.structure.proofs.Table.{Whole, encode-zone}
use Rattle.structure.proofs.Round.{rest-is}
use Rattle.structure.proofs.Sound.{valid-zone}
use Rattle.access.specs.row.Row.{bytes_of, Sound}
use Rattle.access.proofs.row.Laws.{bytes-append, bytes-long, sound-left, sound-right}
use Rattle.access.proofs.row.Zone.{valid-sound}
use Rattle.slide.specs.blank.Between.{Hole, nothing, zeros}
use Rattle.structure.specs.IsZone.{IsZone}
use Rattle.structure.proofs.IsZone.{whole_of}

module _ (z : List ℕ) (i : IsZone z) where
  abbrev d : Structure
  d = decode_zone z

  w : Whole z
  w = whole_of z i

  v : Valid d
  v = valid-zone z w

  pub free-hole : (pre : List Block) (n : ℕ) (post : List Block) → d.blocks ≡ pre ++ cell (free n) ∷ post → Hole z (start d + sizes pre) (start d + sizes pre + n)
  unfolding join encode_block
  free-hole pre n post e =
      let s : Sound (pre ++ cell (free n) ∷ post) = subst Sound e (valid-sound d v) in
      let o = start d + sizes pre in
      let rest = bytes_of post in
      let k : o + n - (o + free_header) ≡ n - free_header = omega arith in
      let b : drop o z ≡ (to_be 4 (n / 2) ++ replicate (n - free_header) 0) ++ rest =
      ap (drop o) (sym (encode-zone z w))
      ∙ sym (drop-drop (sizes pre) (start d) (encode d))
      ∙ ap (drop (sizes pre)) (rest-is d v ∙ ap (λ (b : List Block). bytes_of b) e ∙ bytes-append pre (cell (free n) ∷ post))
      ∙ drop_at (bytes_of pre) _ (sizes pre) (bytes-long pre (sound-left pre (cell (free n) ∷ post) s)) in
      let c : drop (o + free_header) z ≡ replicate (n - free_header) 0 ++ rest =
      sym (drop-drop free_header o z) ∙ ap (drop free_header) (b ∙ append_assoc (to_be 4 (n / 2)) (replicate (n - free_header) 0) rest) ∙ drop_at (to_be 4 (n / 2)) _ free_header (length-to_be 4 (n / 2)) in
      zeros (omega (arith, (sound-right pre (cell (free n) ∷ post) s).0.0))
      (rw k (ap (take (n - free_header)) c ∙ take_at (replicate (n - free_header) 0) rest (n - free_header) (length-replicate {A = ℕ} (n - free_header) 0)))

  -- n bytes that are no block or a free one
  pub gap-hole : (n : ℕ) (pre post : List Block) → d.blocks ≡ pre ++ (map cell (gap n []) ++ post) → Hole z (start d + sizes pre) (start d + sizes pre + n)
  gap-hole zero pre post e = nothing (omega arith)
  gap-hole (suc n) pre post e = free-hole pre (suc n) post e
