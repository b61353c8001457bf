-- Bytes taken off the end of a bay of a zone: that they can be taken, and what is left.
use mathlib.Core.Path.{◌≡◌, refl, sym, ap, ◌∙◌}
use mathlib.Core.List.{List, ◌++◌}
use Prim.Native.Nat.{ℕ, ◌+◌, ◌-◌, ◌≤◌}
use native.Mathlib.Omega.{arith}
use lib.ListN.{length, replicate, length-append, length-replicate}
use Rattle.block_type.specs.Limits.{longest_zone}
use Rattle.bigendian.specs.BigEndian.{overwrite}
use Rattle.bigendian.proofs.Overwrite.{write-length}
use Rattle.bay.specs.Bay.{Cell, bay_size, bay_sum, take_high}
use Rattle.bay.specs.Sound.{bytes_of}
use Rattle.bay.proofs.Laws.{cut-less}
use Rattle.bay.proofs.BayBytes.{bytes-long}
use Rattle.bays.specs.Places.{end_free}
use Rattle.structure.specs.Structure.{Block, Structure, encode, decode_zone}
use Rattle.structure.specs.Valid.{Valid}
use Rattle.structure.proofs.Table.{encode-zone}
use Rattle.structure.proofs.Sound.{valid-zone}
use Rattle.slide.specs.ZoneBay.{ZoneBay, bay_cells, settled}
use Rattle.slide.proofs.Change.{Kept, kept-now}
use Rattle.settle.proofs.Any.{settle}
use Rattle.settle.proofs.Bay.{cells-sound, zone-bay, cells_are}
use Rattle.room.specs.bay_end.Taken.{before_zeros, CanTake}
use Rattle.room.specs.bay_end.Run.{Run}
use Rattle.room.proofs.bay_end.Masters.{all-length}
use Rattle.room.proofs.bay_end.Kept.{taken-kept}
use Rattle.structure.proofs.IsZone.{whole_of}

module _ (z : List ℕ) (n a e sum tail : ℕ) (r : Run z n a e sum tail) where
  abbrev s : Structure
  s = decode_zone z

  pub run-valid : Valid s
  run-valid = valid-zone z (whole_of z r.zone)

  is-z : encode s ≡ z
  is-z = encode-zone z (whole_of z r.zone)

  bay-at : ZoneBay (encode s) a e
  bay-at = rw (r.numbers.end_is, r.numbers.start_is) (zone-bay s run-valid r.before r.after r.bay r.parts)

  cells_at : bay_cells (encode s) a e ≡ r.bay
  cells_at = rw (r.numbers.end_is, r.numbers.start_is) (cells_are s run-valid r.before r.after r.bay r.parts)

  stands : settled (encode s) a r.bay ≡ encode s
  stands = rw r.numbers.start_is
      (settle s run-valid r.before r.after r.bay r.bay r.parts (cells-sound s run-valid r.before r.after r.bay r.parts) refl refl
      ∙ ap (λ (bs : List Block). encode (record { clock = s.clock; chain = s.chain; blocks = bs })) (sym r.parts))

  can-take : CanTake (encode s) n a e sum tail
  can-take = record {
    bay = bay-at;
    held = ap (settled (encode s) a) cells_at ∙ stands;
    sum_is = r.numbers.sum_is ∙ ap (λ (cs : List Cell). bay_sum cs) (sym cells_at);
    tail_is = r.numbers.tail_is ∙ ap (λ (cs : List Cell). end_free cs) (sym cells_at);
    low = r.low;
    fits = omega (arith, r.numbers.sum_is, r.fits);
    four = r.four;
  }

  pub run_take : CanTake z n a e sum tail
  run_take = rw is-z at can-take

  -- ---- what is left

  less : bay_size (take_high n r.bay) + n ≡ bay_size r.bay
  less = (cut-less n r.bay r.fits).size

  pub run_end : (e - n ≡ a + bay_size (take_high n r.bay)) × (n ≤ e) × (e ≤ length (encode s)) × (length (encode s) ≤ longest_zone)
  run_end = (omega (arith, r.numbers.end_is, less), omega (arith, r.numbers.end_is, less), bay-at.inside, bay-at.short)

  pub run-kept : Kept a (e - a - n) (take_high n r.bay)
  run-kept =
      rw cells_at at (taken-kept a n r.four (e - a) (bay_cells (encode s) a e) (omega (arith, r.low)) (rw cells_at r.fits) (omega (arith, run_end.2, run_end.3)) (kept-now (encode s) a e bay-at))

  -- the bytes, by the bay's own cells
  pub run-left : (y : List ℕ) → y ≡ before_zeros z a (take_high n (bay_cells z a e)) n → y ≡ before_zeros (encode s) a (take_high n r.bay) n
  run-left y q =
      q ∙ ap (λ (u : List ℕ). before_zeros u a (take_high n (bay_cells u a e)) n) (sym is-z) ∙ ap (λ (cs : List Cell). before_zeros (encode s) a (take_high n cs) n) cells_at

  abbrev pub body : List ℕ
  body = overwrite (encode s) a (bytes_of (take_high n r.bay) ++ replicate n 0)

  pub body-long : length body ≡ length (encode s)
  body-long =
      write-length (encode s) (bytes_of (take_high n r.bay) ++ replicate n 0) a
      (omega (arith, length-append (bytes_of (take_high n r.bay)) (replicate n 0), length-replicate {A = ℕ} n 0, bytes-long (take_high n r.bay) run-kept.sound, run_end))

  pub run_long : (y : List ℕ) → y ≡ before_zeros z a (take_high n (bay_cells z a e)) n → length y ≡ length (encode s)
  unfolding before_zeros
  run_long y q = ap length (run-left y q) ∙ all-length a a (omega arith) a (take_high n r.bay) body run-kept.low (omega (arith, body-long, run_end)) ∙ body-long
