-- The extent of a block of a zone: each step of the search may be done, and finds it. And where a block's data lie.
use mathlib.Core.Path.{◌≡◌, refl}
use mathlib.Core.List.{List}
use Prim.Native.Nat.{ℕ, ◌+◌, ◌-◌, ◌<◌, ◌≤◌}
use native.Mathlib.Omega.{arith}
use mir.Val.{Fits}
use mir.Syntax.{w64}
use lib.ListN.{length, drop}
use Rattle.format.specs.WellFormed.{first_field}
use Rattle.kinds.specs.Kinds.{Item, header_of}
use Rattle.bay.specs.Bay.{held, bay_size}
use Rattle.structure.specs.Structure.{Block, cell, sizes, start, decode_zone}
use Rattle.structure.specs.IsZone.{IsZone}
use Rattle.structure.proofs.IsZone.{whole_of}
use Rattle.access.specs.row.Row.{Row}
use Rattle.slide.specs.declared.blank.Extent.{Extent}
use Rattle.free_block.specs.Around.{Around, Freeing}
use Rattle.free_block.specs.Extends.{BlockIn, Extends}
use Rattle.free_block.specs.Walk.{Stopped, Extended}
use Rattle.free_block.proofs.Found.{block-fits, prev-fits, end_row, from_low, to_high, around-in, around-extends}

module _ (z : List ℕ) (at end : ℕ) (p : BlockIn z at end) where
  pub at-in : at ≤ length z
  at-in = omega (arith, block-fits z p.zone (first_field z) refl p.low p.block p.high p.parts at p.at_is)

  pub end-in : end ≤ length z
  end-in = omega (arith, block-fits z p.zone (first_field z) refl p.low p.block p.high p.parts at p.at_is, p.end_is)

  module _ (first : ℕ) (ef : first ≡ first_field z) (prev stop : ℕ) (s : Stopped z first at prev stop) where
    pub prev-in : prev < length z
    prev-in = prev-fits z p.zone first ef p.low p.block p.high p.parts at p.at_is prev stop s

    pub row_in : Row (drop end z)
    row_in = end_row z p.zone first ef p.low p.block p.high p.parts at p.at_is prev stop s end p.end_is

    pub extends : (e : Extent) → Extended z prev at end e.from e.to → e.at ≡ at → e.end ≡ end → Extends z at end e
    extends e x a b = record {
      at_is = a;
      end_is = b;
      from_is = λ q. from_low z q.zone first ef q.low q.block q.high q.parts at q.at_is prev stop s end q.end_is e.from e.to x;
      to_is = λ q. to_high z q.zone first ef q.low q.block q.high q.parts at q.at_is prev stop s end q.end_is e.from e.to x;
    }

-- the block of e, whose n data bytes lie at `place`, behind hd bytes of its header
module _ (z : List ℕ) (i : IsZone z) (bs' : List Block) (e : Item) (a : Around (decode_zone z).blocks bs' (cell (held e)))
    (hd place n : ℕ) (eh : header_of e ≡ hd) (ep : place ≡ start (decode_zone z) + (sizes a.pre + bay_size a.low) + header_of e) (en : n ≡ length e.bytes) where
  pub held-low : hd ≤ place
  held-low = omega (arith, ep, eh)

  at_is : place - hd ≡ start (decode_zone z) + (sizes a.pre + bay_size a.low)
  at_is = omega (arith, ep, eh)

  end_is : place + n ≡ place - hd + (header_of e + length e.bytes)
  end_is = omega (arith, held-low, eh, en)

  pub held-in : BlockIn z (place - hd) (place + n)
  held-in = around-in z i bs' (cell (held e)) a (place - hd) at_is (place + n) end_is

  pub held-word : Fits w64 (place + n)
  held-word = record { fits = omega (arith, end-in z (place - hd) (place + n) held-in, (whole_of z i).limit, (whole_of z i).all) }

  pub held-freeing : (x : Extent) → Extends z (place - hd) (place + n) x → Freeing z bs' (cell (held e)) x.from x.at x.end x.to
  held-freeing x q = around-extends z i bs' (cell (held e)) a (place - hd) at_is (place + n) end_is x q
