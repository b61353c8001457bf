-- A block in another bay than the one in some place: freeing it leaves that bay as it is, and its place with its free neighbours lies apart from it.
use mathlib.Core.Path.{◌≡◌, refl, sym, ap, ◌∙◌}
use mathlib.Core.Bool.{true}
use mathlib.Core.Option.{Option, none, some}
use mathlib.Core.List.{List, [], ◌∷◌, ◌++◌, map}
use Prim.Native.Nat.{ℕ, ◌+◌, ◌-◌, ◌≤◌}
use native.Mathlib.Omega.{arith}
use Rattle.structure.specs.Structure.{Block, cell, fixed, sizes}
use Rattle.calls.specs.Bays.{Bays, or_else}
use Rattle.kinds.specs.Kinds.{Item, item_size, is}
use Rattle.calls.specs.State.{get, Fixed}
use Rattle.bay.specs.Bay.{Cell, free, held, bay_size, items, release}
use Rattle.bay.specs.Counted.{count, live}
use Rattle.bay.specs.Ends.{end_free, start_free}
use Rattle.bay.proofs.Laws.{bsize-append}
use Rattle.bay.proofs.Sound.{Sound}
use Rattle.bay.proofs.Free.{release-none, released}
use Rattle.zone.specs.PickBays.{AllS}
use Rattle.zone.specs.Group.{flat_bay, flatten}
use Rattle.zone.proofs.Once.{often, count-get, block_of}
use Rattle.bays.proofs.At.{no-sizes, later-sizes}
use Rattle.free_block.specs.Around.{Around}
use Rattle.free_block.proofs.Around.{around-same, around-later}
use Rattle.free_block.proofs.Own.{none-released, around-own, own_block}
use Rattle.bays.specs.Slot.{Slot, slot_end, slot_fixed, slot_behind, plug, others, blocks_before}
use Rattle.resize.specs.relocate.Move.{Apart, below, above}
use Rattle.bays.proofs.Slots.{plug-map, behind-sizes}

pub end_low : (cs : List Cell) → end_free cs ≤ bay_size cs
end_low [] = omega arith
end_low (free n ∷ []) = omega arith
end_low (held e ∷ []) = omega arith
end_low (c ∷ (d ∷ cs)) = omega (arith, end_low (d ∷ cs))

start-low : (cs : List Cell) → start_free cs ≤ bay_size cs
start-low [] = omega arith
start-low (free n ∷ cs) = omega arith
start-low (held e ∷ cs) = omega arith

-- where the free neighbours of a block begin and end, the first block being at 0
abbrev pub low_end : {bs bs' : List Block} {b : Block} → Around bs bs' b → ℕ
low_end a = sizes a.pre + (bay_size a.low - end_free a.low)

abbrev pub high_end_of : {bs bs' : List Block} {b : Block} → ℕ → Around bs bs' b → ℕ
high_end_of n a = sizes a.pre + bay_size a.low + n + start_free a.high

pub record Beside (h : ℕ) (e : Item) (k : Slot) (c : List Cell) : Type 0 where
  pub around : Around (flatten (plug k c)) (flatten (plug (others (release (is h)) k) c)) (cell (held e))
  pub its : is h e ≡ true
  pub apart : Apart (low_end around) (high_end_of (item_size e) around) (sizes (blocks_before k)) (bay_size c)

module _ (h : ℕ) (e : Item) where
  -- a bay that has not the handle, and a block behind it
  in_rest : (x : Fixed) (s : Bays (List Cell) Fixed) (c : List Cell) → AllS Sound s → live h s ≤ 1 → block_of h s ≡ some e → Beside h e (slot_fixed x s) c
  in_rest x s c d l f =
      let o = own_block (is h) e s d l f in
      let a = around-later c x.bytes o.0 in
      record { around = a; its = o.1; apart = above (omega (arith, later-sizes c x o.0.pre, no-sizes)) }

  -- a block in the first bay
  in-first : (b : List Cell) (x : Fixed) (k : Slot) (c : List Cell) → Sound b → AllS Sound (plug k c) → Sound c → get (is h) (items b) ≡ some e → count (is h) (items b) ≤ 1 → live h (plug k c) ≡ 0 → count (is h) (items c) ≡ 0
      → Beside h e (slot_behind b x k) c
  in-first b x k c d ds dc g l n m =
      let r = released (is h) e d g l in
      let same : plug (others (release (is h)) k) c ≡ plug k c = ap (plug (others (release (is h)) k)) (sym (release-none (is h) dc m)) ∙ sym (plug-map (release (is h)) k c) ∙ none-released (is h) (plug k c) ds n in
      let a = around-own (is h) e b (fixed x.bytes ∷ flatten (plug k c)) refl r in
      let p = ap bay_size r.parts ∙ bsize-append r.low (held e ∷ r.high) in
      record {
        around = around-same refl (ap (λ (t : Bays (List Cell) Fixed). flat_bay (release (is h) b) (fixed x.bytes ∷ flatten t)) same) a;
        its = r.its;
        apart = below (omega (arith, no-sizes, p, behind-sizes b x k, start-low r.high));
      }

  -- a block behind the first bay
  in-later : (b : List Cell) (x : Fixed) (k : Slot) (c : List Cell) → Sound b → count (is h) (items b) ≡ 0 → Beside h e k c → Beside h e (slot_behind b x k) c
  in-later b x k c d m r =
      let a = around-later b x.bytes r.around in
      record {
        around = around-same refl (ap (λ (u : List Cell). flat_bay u (fixed x.bytes ∷ flatten (plug (others (release (is h)) k) c))) (release-none (is h) d m)) a;
        its = r.its;
        apart = go r.apart;
      }
    where
      go : Apart (low_end r.around) (high_end_of (item_size e) r.around) (sizes (blocks_before k)) (bay_size c)
          → Apart (sizes (map cell b ++ (fixed x.bytes ∷ r.around.pre)) + (bay_size r.around.low - end_free r.around.low)) (sizes (map cell b ++ (fixed x.bytes ∷ r.around.pre)) + bay_size r.around.low + item_size e + start_free r.around.high) (sizes (blocks_before (slot_behind b x k))) (bay_size c)
      go (below q) = below (omega (arith, later-sizes b x r.around.pre, behind-sizes b x k))
      go (above q) = above (omega (arith, later-sizes b x r.around.pre, behind-sizes b x k))

  pub beside : (k : Slot) (c : List Cell) → Sound c → AllS Sound (plug k c) → live h (plug k c) ≤ 1 → count (is h) (items c) ≡ 0 → block_of h (plug k c) ≡ some e → Beside h e k c
  beside slot_end c dc d l m f = go (get (is h) (items c)) (count-get (is h) (items c) l) f
    where
      go : (o : Option Item) → count (is h) (items c) ≡ often o → o ≡ some e → Beside h e slot_end c
      go none q f = let x : ◌≡◌ {A = ℕ} 0 1 = cc in absurd (omega arith)
      go (some i) q f = absurd (omega arith)
  beside (slot_fixed x s) c dc d l m f = go (get (is h) (items c)) (count-get (is h) (items c) (omega arith)) f
    where
      go : (o : Option Item) → count (is h) (items c) ≡ often o → or_else o (block_of h s) ≡ some e → Beside h e (slot_fixed x s) c
      go none q f = in_rest x s c d.1 (omega arith) f
      go (some i) q f = absurd (omega arith)
  beside (slot_behind b x k) c dc d l m f = go (get (is h) (items b)) refl (count-get (is h) (items b) (omega arith)) f (λ f. beside k c dc d.1 (omega arith) m f)
    where
      go : (o : Option Item) → get (is h) (items b) ≡ o → count (is h) (items b) ≡ often o → or_else o (block_of h (plug k c)) ≡ some e → (block_of h (plug k c) ≡ some e → Beside h e k c) → Beside h e (slot_behind b x k) c
      go none g q f ih = in-later b x k c d.0 q (ih f)
      go (some i) g q f ih = in-first b x k c d.0 d.1 dc (g ∙ f) (omega arith) (omega arith) m
