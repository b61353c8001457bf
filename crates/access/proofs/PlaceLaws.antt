-- Where a handle's data lies, by the bytes and by the structure.
use mathlib.Core.Path.{◌≡◌, refl, sym, ap, ◌∙◌}
use mathlib.Core.List.{List, map}
use mathlib.Core.Bool.{Bool, true, false, cond}
use Prim.Native.Nat.{ℕ, zero, suc, ◌+◌, ◌<◌, ◌≤◌}
use native.Mathlib.Omega.{arith}
use lib.Dec.{eqb}
use borrow.Author.Tests.{ne_eqb}
use lib.ListN.{length, drop}
use Rattle.format.specs.Occurs.{occurs}
use Rattle.block_type.specs.Limits.{master_size}
use Rattle.bigendian.specs.BigEndian.{from_be, slice}
use Rattle.format.specs.WellFormed.{first_field, masters_field, chain_field, is_master, master_at, split_blocks}
use Rattle.format.proofs.Bool.{not-both}
use Rattle.format.proofs.Masters.{is-master}
use Rattle.format.proofs.Count.{all-at}
use Rattle.format.proofs.Live.{live_of, live-high}
use Rattle.format.proofs.Handles.{handles, handles-high}
use Rattle.structure.specs.Structure.{place_of, decode_zone, decode_block}
use Rattle.structure.proofs.Table.{Whole, start_is}
use Rattle.structure.proofs.Back.{master-of}
use Rattle.access.specs.Edit.{place_in}
use Rattle.structure.specs.IsZone.{IsZone}
use Rattle.structure.proofs.IsZone.{whole_of}
use Rattle.structure.proofs.Decoded.{places}
use Rattle.kinds.specs.Kinds.{is}

module _ (z : List ℕ) (i : IsZone z) (h : ℕ) where
  w : Whole z
  w = whole_of z i

  abbrev place : ℕ
  place = place_in z h

  abbrev n : ℕ
  n = occurs h (handles (split_blocks (drop (first_field z) z)))

  pub by_count : place ≡ cond (eqb n 0) 0 (master_at z h)
  unfolding decode_zone place_in
  by_count =
      ap (λ (o : ℕ). place_of (is h) o (map decode_block (split_blocks (drop (first_field z) z)))) (start_is z w)
      ∙ places z (first_field z) false (first_field z) h (split_blocks (drop (first_field z) z)) w.parts.walk

  dead : (0 < n → ⊥) → ◌≡◌ {A = ℕ} 0 place
  dead f = go n refl
    where
      go : (k : ℕ) → n ≡ k → ◌≡◌ {A = ℕ} 0 place
      go zero e = sym (by_count ∙ (rw e))
      go (suc k) e = absurd (f (omega arith))

  module _ (first : ℕ) (t : Bool) (ef : first ≡ first_field z) (et : t ≡ is_master first h) where
    pub place-no : t ≡ false → ◌≡◌ {A = ℕ} 0 place
    place-no q = dead (λ l.
        let m = all-at _ h (handles (split_blocks (drop (first_field z) z))) (handles-high z (first_field z) false (first_field z) (split_blocks (drop (first_field z) z)) w.parts.walk) l in
        not-both (rw (← ef) at (master-of (first_field z) h m.0)) (sym et ∙ q))

    pub place-low : (v : ℕ) → v ≡ from_be (slice z h 4) → v < first → ◌≡◌ {A = ℕ} 0 place
    place-low v e l = dead (λ p. omega (arith, live-high z (first_field z) (masters_field z) (chain_field z) w.begin w.parts h p))

    pub place-yes : (v : ℕ) → t ≡ true → v ≡ from_be (slice z h 4) → first ≤ v → v ≡ place
    place-yes v q e l =
        let m = is-master (first_field z) h (rw ef at (sym et ∙ q)) in
        let p = live_of z (first_field z) (masters_field z) (chain_field z) w.begin w.parts h m (omega arith) in
        e ∙ sym (by_count ∙ (rw (ne_eqb n 0 (λ x. omega arith))))

    pub handle-fits : t ≡ true → h + master_size ≤ length z
    handle-fits q = let m = is-master first h (sym et ∙ q) in omega (arith, w.within)
