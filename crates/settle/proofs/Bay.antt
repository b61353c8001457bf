-- A run of cells among the blocks of a valid structure is a bay of its bytes.
use mathlib.Core.Path.{◌≡◌, sym, ap, ◌∙◌, subst}
use mathlib.Core.List.{List, [], ◌∷◌, ◌++◌, map}
use Prim.Native.Nat.{ℕ, ◌+◌, ◌-◌, ◌<◌, ◌≤◌}
use native.Mathlib.Omega.{arith}
use lib.ListN.{length, drop}
use lib.Seq.{drop-drop, take_at, drop_at}
use Rattle.format.specs.Occurs.{occurs}
use Rattle.block_type.specs.Limits.{zone_header, master_size}
use Rattle.kinds.proofs.KindLaws.{master-all}
use Rattle.bay.specs.Bay.{Cell, free, held, bay_size}
use Rattle.bay.specs.Sound.{bytes_of, cells_of, Sound, is_bay}
use Rattle.bay.proofs.BayBytes as Bytes
use Rattle.structure.specs.Structure.{Block, Structure, sizes, count, start, encode, cell, handles_of}
use Rattle.structure.specs.Valid.{Valid}
use Rattle.structure.proofs.Round.{offset-is, rest-is, length-is}
use Rattle.structure.proofs.Append.{occurs-own, occurs-held}
use Rattle.access.specs.row.Row as Row
use Rattle.access.proofs.row.Laws.{bytes-append, bytes-long, sound-left, sound-right}
use Rattle.access.proofs.row.Zone.{valid-sound}
use Rattle.settle.proofs.surgery.Sound.{handle-in}
use Rattle.settle.proofs.surgery.Replace.{occurs-parts, sizes-parts}
use Rattle.slide.specs.ZoneBay.{Low, is_low, part_of, bay_cells, ZoneBay}
use Rattle.settle.proofs.Cells.{all-bytes, all-sizes, sound-cells}

lows : (lim : ℕ) (cs : List Cell) → master_size ≤ lim → ((h : ℕ) → 0 < occurs h (handles_of (map cell cs)) → h + master_size ≤ lim) → Low lim cs
unfolding handles_of occurs
lows lim [] l f = tt
lows lim (free n ∷ cs) l f = (l, lows lim cs l f)
lows lim (held e ∷ cs) l f = (master-all (λ (k : ℕ). k + master_size ≤ lim) e l (λ h q. f h (occurs-own h e (map cell cs) q)), lows lim cs l (λ h k. f h (omega (arith, occurs-held h e (map cell cs)))))

module _ (s : Structure) (v : Valid s) (pre post : List Block) (cs : List Cell) (e : s.blocks ≡ pre ++ (map cell cs ++ post)) where
  abbrev a : ℕ
  a = start s + sizes pre

  abbrev mid : List Block
  mid = map cell cs

  sound-parts : Row.Sound (pre ++ (mid ++ post))
  sound-parts = subst Row.Sound e (valid-sound s v)

  pub cells-sound : Sound cs
  cells-sound = sound-cells cs (sound-left mid post (sound-right pre (mid ++ post) sound-parts))

  bytes-are : drop (start s) (encode s) ≡ Row.bytes_of pre ++ (Row.bytes_of mid ++ Row.bytes_of post)
  bytes-are =
      rest-is s v ∙ ap (λ (b : List Block). Row.bytes_of b) e ∙ bytes-append pre (mid ++ post) ∙ ap (λ (x : List ℕ). Row.bytes_of pre ++ x) (bytes-append mid post)

  pub part-is : part_of (encode s) a (a + bay_size cs) ≡ bytes_of cs
  part-is =
      let n : a + bay_size cs - a ≡ bay_size cs = omega arith in
      let lp = bytes-long pre (sound-left pre (mid ++ post) sound-parts) in
      let lm : length (Row.bytes_of mid) ≡ bay_size cs = ap length (sym (all-bytes cs)) ∙ Bytes.bytes-long cs cells-sound in
      rw (n, ← drop-drop (sizes pre) (start s) (encode s), bytes-are, drop_at (Row.bytes_of pre) (Row.bytes_of mid ++ Row.bytes_of post) (sizes pre) lp, take_at (Row.bytes_of mid) (Row.bytes_of post) (bay_size cs) lm)
      (sym (all-bytes cs))

  pub cells_are : bay_cells (encode s) a (a + bay_size cs) ≡ cs
  cells_are = ap cells_of part-is ∙ Bytes.cells-bytes cs cells-sound

  among : (h : ℕ) → 0 < occurs h (handles_of mid) → h + master_size ≤ a
  among h l =
      let i = handle-in s v h (omega (arith, ap (λ (b : List Block). occurs h (handles_of b)) e, occurs-parts h pre mid post)) in
      omega (arith, (offset-is h zone_header (count s) i).1)

  pub zone-bay : ZoneBay (encode s) a (a + bay_size cs)
  zone-bay = record {
    order = omega arith;
    inside = omega (arith, length-is s v, sizes-parts pre mid post, ap sizes e, all-sizes cs);
    short = omega (arith, length-is s v, v.short);
    bay = is_bay cs cells-sound part-is;
    low = rw cells_are (is_low (lows a cs (omega arith) among));
  }

-- a run of cells by its offsets
pub bay-at : (s : Structure) → Valid s → (before after : List Block) (bay : List Cell) → s.blocks ≡ before ++ (map cell bay ++ after) → (z : List ℕ) (a e : ℕ) → encode s ≡ z → a ≡ start s + sizes before → e ≡ a + bay_size bay
    → ZoneBay z a e × (bay_cells z a e ≡ bay)
bay-at s v before after bay parts z a e ez ea ee =
    subst (λ (y : List ℕ). ZoneBay y a e × (bay_cells y a e ≡ bay)) ez (rw (ee, ea) (zone-bay s v before after bay parts, cells_are s v before after bay parts))
