-- A new block in a bay that has been made ready for it, compacted or not.
use mathlib.Core.Path.{◌≡◌, refl, ap, ◌∙◌}
use mathlib.Core.Bool.{Bool, true, false}
use mathlib.Core.List.{List, [], ◌∷◌, ◌++◌}
use Prim.Native.Nat.{ℕ, ◌+◌, ◌-◌, ◌≤◌}
use Rattle.bigendian.specs.BigEndian.{to_be, overwrite}
use Rattle.block_type.specs.Limits.{master_size, chain_at}
use Rattle.structure.specs.Structure.{start, head_of, encode, decode_zone}
use Rattle.structure.specs.IsZone.{IsZone}
use Rattle.kinds.specs.Kinds.{Item, item_size, masters_of, master_of}
use Rattle.bay.specs.Bay.{held, gap}
use Rattle.bay.specs.Sound.{bytes_of, Sound1}
use Rattle.slide.specs.ZoneBay.{settled}
use Rattle.room.specs.place.Fit.{Size, Fit}
use Rattle.room.specs.place.Room.{LowestRoom}
use Rattle.room.specs.place.Prepared.{prepared}
use Rattle.room.proofs.place.InZone as InZone
use Rattle.room.proofs.place.InZone.{with_block}

module _ (z : List ℕ) (need a e at n : ℕ) (t : Bool) (iz : IsZone z) (x : LowestRoom z need a e at n t) (i : Item) (si : item_size i ≡ need) (z₁ : List ℕ) (e₁ : z₁ ≡ prepared t a e z) where
  pub fit : (h : ℕ) → h + master_size ≤ start (decode_zone z) → Size need → Fit z₁ at n need h
  fit h m size = go t refl e₁
    where
      go : (u : Bool) → t ≡ u → z₁ ≡ prepared u a e z → Fit z₁ at n need h
      go true f q = InZone.fit-made z need a e at n t iz x i si f z₁ q h m size
      go false f q = rw q (InZone.fit-there z need a e at n t iz x i si f h m size)

  -- a block without a master
  pub bare : master_of i ≡ 0 → masters_of i ≡ [] → Sound1 (held i) → overwrite z₁ at (bytes_of (held i ∷ gap (n - need) [])) ≡ encode (with_block i (decode_zone z).chain (decode_zone z))
  bare m none ok = go t refl e₁
    where
      go : (u : Bool) → t ≡ u → z₁ ≡ prepared u a e z → overwrite z₁ at (bytes_of (held i ∷ gap (n - need) [])) ≡ encode (with_block i (decode_zone z).chain (decode_zone z))
      go true f q = InZone.bare-made z need a e at n t iz x i si f z₁ q m none ok
      go false f q = ap (λ (y : List ℕ). overwrite y at (bytes_of (held i ∷ gap (n - need) []))) q ∙ InZone.bare-there z need a e at n t iz x i si f m none ok

  -- a block whose master is the chain's head
  pub linked : (ks : List ℕ) → (decode_zone z).chain ≡ masters_of i ++ ks → Sound1 (held i) → (next : ℕ) → next ≡ head_of ks
      → settled (overwrite z₁ chain_at (to_be 2 next)) at (held i ∷ gap (n - need) []) ≡ encode (with_block i ks (decode_zone z))
  linked ks m ok next eh = go t refl e₁
    where
      go : (u : Bool) → t ≡ u → z₁ ≡ prepared u a e z → settled (overwrite z₁ chain_at (to_be 2 next)) at (held i ∷ gap (n - need) []) ≡ encode (with_block i ks (decode_zone z))
      go true f q = InZone.linked-made z need a e at n t iz x i si f z₁ q ks m ok next eh
      go false f q = ap (λ (y : List ℕ). settled (overwrite y chain_at (to_be 2 next)) at (held i ∷ gap (n - need) [])) q ∙ InZone.linked-there z need a e at n t iz x i si f ks m ok next eh
