-- The two ways of an allocation: a master is free, or masters are added first.
use mathlib.Core.Path.{◌≡◌, sym, ap, ◌∙◌}
use mathlib.Core.Bool.{cond}
use mathlib.Core.List.{List, [], ◌∷◌}
use Prim.Native.Nat.{ℕ}
use Rattle.structure.specs.Structure.{Structure, encode, decode_zone}
use Rattle.calls.specs.Table.{is_empty}
use Rattle.masters.specs.Grown.{grown_in}
use Rattle.allocate.specs.growth.Grows.{GrowsIn}
use Rattle.allocate.specs.relocatable.Ready.{allocated, with_master_in, Going}
use Rattle.allocate.specs.declared.relocatable.Spot.{Spot}

pub with-same : (s : Structure) (h : ℕ) (ks : List ℕ) → s.chain ≡ h ∷ ks → with_master_in s ≡ s
with-same s h ks e = ap (λ (ls : List ℕ). cond (is_empty ls) (grown_in s) s) e

pub with-more : (s : Structure) → s.chain ≡ [] → with_master_in s ≡ grown_in s
with-more s e = ap (λ (ls : List ℕ). cond (is_empty ls) (grown_in s) s) e

pub grown-done : (z : List ℕ) (need a e : ℕ) → GrowsIn z need a e → (y : List ℕ) → y ≡ encode (allocated need (grown_in (decode_zone z))) → y ≡ encode (allocated need (with_master_in (decode_zone z)))
grown-done z need a e g y q = q ∙ ap (λ (s : Structure). encode (allocated need s)) (sym (with-more (decode_zone z) g.growing.none))

pub same-done : (z : List ℕ) (p : Spot) → Going z p → (y : List ℕ) → y ≡ encode (allocated p.need (decode_zone z)) → y ≡ encode (allocated p.need (with_master_in (decode_zone z)))
same-done z p g y q = q ∙ ap (λ (s : Structure). encode (allocated p.need s)) (sym (with-same (decode_zone z) p.handle g.room_in.ks g.room_in.is_chain))
