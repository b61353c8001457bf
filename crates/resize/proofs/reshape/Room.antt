-- The free block right behind the block of a live handle, by its offset.
use mathlib.Core.Path.{◌≡◌, refl, sym, ap, ◌∙◌}
use mathlib.Core.Bool.{false, true≢false}
use mathlib.Core.List.{List, [], ◌∷◌, ◌++◌, map}
use Prim.Native.Nat.{ℕ, ◌+◌, ◌-◌, ◌≤◌}
use native.Mathlib.Omega.{arith}
use mir.Val.{Fits}
use mir.Syntax.{w64}
use lib.ListN.{length, drop}
use Rattle.bay.specs.Bay.{Cell, free, held}
use Rattle.bay.specs.Counted.{live}
use Rattle.bay.specs.Ends.{start_free}
use Rattle.structure.specs.Structure.{Block, cell, fixed, Structure, start, len, place_of, decode_zone}
use Rattle.structure.specs.Valid.{Valid}
use Rattle.structure.proofs.Table.{Whole, encode-zone, len_is}
use Rattle.structure.proofs.Sound.{valid-zone}
use Rattle.access.specs.Edit.{place_in, data_in, data_of}
use Rattle.access.specs.row.Row.{Row, row, bytes_of, blocks_of}
use Rattle.access.proofs.row.Laws.{tiles-join}
use Rattle.zone.specs.Call.{in_bays}
use Rattle.zone.proofs.GroupLaws.{flatten-group}
use Rattle.zone.proofs.Grouped.{whole-bays, single-live}
use Rattle.settle.specs.surgery.Bays.{first_free}
use Rattle.free_block.specs.Around.{first_part}
use Rattle.bays.specs.Places.{bays_of}
use Rattle.settle.proofs.Tidy.{at_right}
use Rattle.resize.specs.reshape.Own.{Own, data_at, Known, known}
use Rattle.resize.proofs.reshape.Own.{OwnAt, own_of}
use Rattle.resize.proofs.reshape.Parts.{behind-bytes, behind-sound, parts-end}
use Rattle.structure.specs.IsZone.{IsZone}
use Rattle.structure.proofs.IsZone.{whole_of}
use Rattle.kinds.specs.Kinds.{is}

-- ---- the free bytes in front of some blocks

first-none : (bs : List Block) → first_free bs ≡ false → first_part bs ≡ 0
first-none [] q = refl
first-none (cell (free n) ∷ bs) q = absurd (true≢false q)
first-none (cell (held e) ∷ bs) q = refl
first-none (fixed d ∷ bs) q = refl

first-cells : (cs : List Cell) (r : List Block) → first_free r ≡ false → first_part (map cell cs ++ r) ≡ start_free cs
first-cells [] r q = first-none r q
first-cells (free n ∷ cs) r q = refl
first-cells (held e ∷ cs) r q = refl

-- ---- of a live handle

module _ (z : List ℕ) (i : IsZone z) (h at n : ℕ) (ea : at ≡ place_in z h) (alive : at ≡ 0 → ⊥) (en : n ≡ length (data_in z h)) where
  w : Whole z
  w = whole_of z i

  abbrev s : Structure
  s = decode_zone z

  v : Valid s
  v = valid-zone z w

  once : live h (bays_of s) ≤ 1
  once = single-live (in_bays (len s) s) (whole-bays (len s) s v (omega arith)) h

  found : OwnAt h (start s) (bays_of s)
  unfolding place_in
  found = own_of h (bays_of s) (start s) once (λ q. alive (ea ∙ ap (place_of (is h) (start s)) (sym (flatten-group (start s) s.blocks)) ∙ q))

  abbrev o : Own h (bays_of s)
  o = found.own

  at_is : at ≡ data_at (start s) o
  unfolding place_in
  at_is = ea ∙ ap (place_of (is h) (start s)) (sym (flatten-group (start s) s.blocks)) ∙ found.place

  n-is : n ≡ length o.mine.bytes
  unfolding data_in
  n-is = en ∙ ap (λ (bs : List Block). length (data_of h bs)) (sym (flatten-group (start s) s.blocks)) ∙ ap length o.bytes

  abbrev behind : List Block
  behind = map cell o.right ++ o.after

  bytes-are : drop (at + n) z ≡ bytes_of behind
  bytes-are = ap (drop (at + n)) (sym (encode-zone z w)) ∙ behind-bytes s v h o (at + n) (omega (arith, at_is, n-is))

  blocks-are : blocks_of (drop (at + n) z) ≡ behind
  blocks-are = ap blocks_of bytes-are ∙ tiles-join behind (behind-sound s v h o)

  behind_is : first_part (blocks_of (drop (at + n) z)) ≡ start_free o.right
  behind_is = ap first_part blocks-are ∙ first-cells o.right o.after (at_right (o.at (λ (b : List Cell). b)))

  pub room_word : Fits w64 (at + n)
  room_word = record { fits = omega (arith, at_is, n-is, parts-end s v h o, len_is z w, w.limit) }

  pub room_row : Row (drop (at + n) z)
  room_row = row behind (behind-sound s v h o) bytes-are

  pub room-in : at + n ≤ length z
  room-in = omega (arith, at_is, n-is, parts-end s v h o, len_is z w, w.all)

  pub room-is : (e : ℕ) → e ≡ at + n + first_part (blocks_of (drop (at + n) z)) → Known z h at n (e - (at + n))
  room-is e q = known i o at_is n-is (omega (arith, q, behind_is))
