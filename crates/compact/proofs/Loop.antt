-- The loop over the bays: what is true before each turn, and after the last.
use mathlib.Core.Path.{◌≡◌, refl, sym, ap, ◌∙◌, subst}
use mathlib.Core.Bool.{Bool, false}
use mathlib.Core.List.{List, [], ◌∷◌, ◌++◌, map, append_assoc}
use Prim.Native.Nat.{ℕ, suc, ◌+◌, ◌<◌, ◌≤◌, max}
use native.Mathlib.Omega.{arith}
use lib.ListN.{length, drop, length-drop, drop_of_length-le}
use Rattle.bigendian.specs.BigEndian.{from_be}
use Rattle.format.specs.WellFormed.{first_field, type_of, size_of}
use Rattle.structure.specs.Structure.{Block, cell, fixed, Structure, sizes, start, encode, decode_zone}
use Rattle.structure.proofs.Table.{encode-zone, start_is}
use Rattle.structure.proofs.Sound.{valid-zone}
use Rattle.calls.specs.Bays.{Bays, last, more, map_s, max_s}
use Rattle.calls.specs.State.{Fixed, fsize}
use Rattle.bay.specs.Bay.{Cell, bay_size, bay_sum, compact_bay}
use Rattle.bay.proofs.Laws.{tidy-size}
use Rattle.zone.specs.Group.{flatten}
use Rattle.zone.proofs.Places.{Tiled}
use Rattle.zone.proofs.GroupLaws.{flatten-group}
use Rattle.bays.specs.Places.{bays_at}
use Rattle.bays.proofs.At.{tiled-place, tiled-last, tiled-long, tiled-rest}
use Rattle.bays.proofs.Zone.{zone-bays}
use Rattle.settle.proofs.surgery.Sound.{last_free}
use Rattle.settle.proofs.surgery.Replace.{sizes-parts}
use Rattle.settle.proofs.Cells.{all-sizes}
use Rattle.settle.proofs.Tidy.{compact-start}
use Rattle.compact.specs.Compacted.{compacted, largest}
use Rattle.compact.specs.Next.{first_bay, second_at, bay_from, end_from, next_from, goes_on, next_after, Ended, BayNext, BayCompacted}
use Rattle.compact.proofs.Next.{on-end, on-fixed, after-end, after-fixed}
use Rattle.slide.specs.ZoneBay.{ZoneBay, bay_cells, settled}
use Rattle.compact.proofs.Going.{Stands, stands-short, stands-bays, its-bay, its-cells, its-fixed, packs, new-valid, new-long}
use Rattle.structure.specs.IsZone.{IsZone}
use Rattle.structure.proofs.IsZone.{whole_of}

-- s₀ is to be compacted; the bays below `at` are, and `best` is the largest of their sums
pub data Going (s₀ : Structure) (z : List ℕ) (at best : ℕ) : Type 0 where
  under-way : (s : Structure) (pre : List Block) (u : Bays (List Cell) Fixed) → Stands s z at pre u → s.clock ≡ s₀.clock → s.chain ≡ s₀.chain
      → pre ++ flatten (map_s compact_bay u) ≡ (compacted s₀).blocks → max best (max_s bay_sum u) ≡ largest s₀ → Going s₀ z at best
  through : length z < at → z ≡ encode (compacted s₀) → best ≡ largest s₀ → Going s₀ z at best

no-sizes : (k : ℕ) → k + sizes [] ≡ k
unfolding sizes
no-sizes k = omega arith

pub going_start : (z : List ℕ) (first : ℕ) → IsZone z → first ≡ first_field z → Going (decode_zone z) z first 0
going_start z first i e =
    let d = decode_zone z in
    let w = whole_of z i in
    let b = zone-bays z i first e in
    under-way d [] _ (record {
      valid = valid-zone z w;
      image = sym (encode-zone z w);
      parts = sym (flatten-group (start d) d.blocks);
      left = refl;
      place = e ∙ sym (start_is z w) ∙ sym (no-sizes (start d));
      tiled = subst (λ (u : Bays (List Cell) Fixed). Tiled first u (length z)) b.bays b.tiled;
    }) refl refl refl (omega arith)

pub first-within : (z : List ℕ) (first : ℕ) → IsZone z → first ≡ first_field z → first ≤ suc (length z)
first-within z first i e = omega (arith, (zone-bays z i first e).low)

module _ (s₀ : Structure) (z : List ℕ) (at best : ℕ) (g : Going s₀ z at best) where
  pub going-most : length z < at → best ≡ largest s₀
  going-most l = go g
    where
      go : Going s₀ z at best → best ≡ largest s₀
      go (under-way s pre u x k c p m) = absurd (omega (arith, tiled-long x.tiled))
      go (through k p m) = m

  pub going-bytes : length z < at → z ≡ encode (compacted s₀)
  going-bytes l = go g
    where
      go : Going s₀ z at best → z ≡ encode (compacted s₀)
      go (under-way s pre u x k c p m) = absurd (omega (arith, tiled-long x.tiled))
      go (through k p m) = p

-- ---- one turn

last_end : (p : Bool) (l : List Block) (d : List ℕ) → last_free p (l ++ (fixed d ∷ [])) ≡ false
last_end p [] d = refl
last_end p (b ∷ l) d = last_end _ l d

pre-sizes : (pre : List Block) (b : List Cell) (x : Fixed) → sizes (pre ++ (map cell b ++ (fixed x.bytes ∷ []))) ≡ sizes pre + (bay_size b + fsize x)
unfolding sizes
pre-sizes pre b x = omega (arith, sizes-parts pre (map cell b) (fixed x.bytes ∷ []), all-sizes b)

regroup : (a b c d : List Block) → a ++ (b ++ (c ++ d)) ≡ (a ++ (b ++ c)) ++ d
regroup a b c d = simp append_assoc

-- the first of the bays that are left
record FirstIs (z : List ℕ) (at : ℕ) (u : Bays (List Cell) Fixed) : Type 0 where
  bay : ZoneBay z at (at + bay_size (first_bay u))
  cells : bay_cells z at (at + bay_size (first_bay u)) ≡ first_bay u
  stop : goes_on z (at + bay_size (first_bay u)) ≡ false
  next : next_after z (at + bay_size (first_bay u)) ≡ second_at (length z) u
  ended : Ended z (at + bay_size (first_bay u))

no_size : size_of [] ≡ 0
unfolding size_of type_of from_be
no_size = refl

first_is : (s : Structure) (z : List ℕ) (at : ℕ) (pre : List Block) (u : Bays (List Cell) Fixed) → Stands s z at pre u → FirstIs z at u
first_is s z at pre (last b) x =
    let p : at + bay_size b ≡ length z = tiled-last x.tiled in
    let l : length z ≤ at + bay_size b = omega arith in
    let n : size_of (drop (at + bay_size b) z) ≡ 0 = ap size_of (drop_of_length-le z l) ∙ no_size in
    record {
      bay = its-bay s x.valid z x.image at pre [] b x.parts x.place;
      cells = its-cells s x.valid z x.image at pre [] b x.parts x.place;
      stop = sym (on-end z (at + bay_size b) l);
      next = sym (after-end z (at + bay_size b) l) ∙ omega arith;
      ended = record { inside = omega arith; short = stands-short x; fits = omega arith; block = λ h. absurd (omega arith) };
    }
first_is s z at pre (more b f w) x =
    let post = fixed f.bytes ∷ flatten w in
    let e = at + bay_size b in
    let k = its-fixed s x.valid z x.image at pre post b x.parts x.place f.bytes (flatten w) refl in
    let n : e + size_of (drop e z) ≤ length z = omega (arith, k.size_is, k.long, k.low, length-drop e z) in
    let l : e < length z = omega (arith, k.size_is, k.low) in
    record {
      bay = its-bay s x.valid z x.image at pre post b x.parts x.place;
      cells = its-cells s x.valid z x.image at pre post b x.parts x.place;
      stop = sym (on-fixed z e (type_of (drop e z)) l refl k.kind);
      next = sym (after-fixed z e (size_of (drop e z)) l refl) ∙ omega (arith, k.size_is, tiled-place x.tiled);
      ended = record { inside = omega arith; short = stands-short x; fits = n; block = λ h. omega (arith, k.size_is, k.low) };
    }

first_next : (z : List ℕ) (at : ℕ) → FirstIs z at (bays_at z at) → BayNext z at
unfolding bay_from end_from next_from
first_next z at f = record { bay = f.bay; cells = f.cells; stop = f.stop; after = f.next; ended = f.ended }

-- what the walk was told of them
bay-is : (z : List ℕ) (at : ℕ) (u : Bays (List Cell) Fixed) → bays_at z at ≡ u → bay_from z at ≡ first_bay u
unfolding bay_from
bay-is z at u e = ap first_bay e

next_is : (z : List ℕ) (at : ℕ) (u : Bays (List Cell) Fixed) → bays_at z at ≡ u → next_from z at ≡ second_at (length z) u
unfolding next_from
next_is z at u e = ap (second_at (length z)) e

module _ (s₀ : Structure) (z : List ℕ) (at best : ℕ) (g : Going s₀ z at best) (l : at ≤ length z) where
  pub going_next : BayNext z at
  going_next = go g
    where
      go : Going s₀ z at best → BayNext z at
      go (through k p m) = absurd (omega arith)
      go (under-way s pre u x k c p m) = first_next z at (subst (FirstIs z at) (sym (stands-bays x)) (first_is s z at pre u x))

  module _ (z' : List ℕ) (sum next best' : ℕ) (eb : best' ≡ max best sum) (r : BayCompacted z at z' sum next) where
    turn : (s : Structure) (pre : List Block) (u : Bays (List Cell) Fixed) → Stands s z at pre u → s.clock ≡ s₀.clock → s.chain ≡ s₀.chain
        → pre ++ flatten (map_s compact_bay u) ≡ (compacted s₀).blocks → max best (max_s bay_sum u) ≡ largest s₀ → bay_from z at ≡ first_bay u → next ≡ second_at (length z) u → Going s₀ z' next best'
    turn s pre (last b) x k c p m i n =
        let y = packs s x.valid z x.image at pre [] b x.parts x.place z' (r.bytes ∙ ap (λ (d : List Cell). settled z at (compact_bay d)) i) in
        through (omega (arith, n, ap length y, new-long s x.valid z x.image at pre [] b x.parts x.place x.left refl))
        (y ∙ (λ j. encode (record { clock = k j; chain = c j; blocks = p j })))
        (omega (arith, eb, r.sum_is, ap bay_sum i, m))
    turn s pre (more b f w) x k c p m i n =
        let post = fixed f.bytes ∷ flatten w in
        let y = packs s x.valid z x.image at pre post b x.parts x.place z' (r.bytes ∙ ap (λ (d : List Cell). settled z at (compact_bay d)) i) in
        let t : Structure = record { clock = s.clock; chain = s.chain; blocks = pre ++ (map cell (compact_bay b) ++ post) } in
        let nl = new-long s x.valid z x.image at pre post b x.parts x.place x.left refl in
        let ps = pre-sizes pre (compact_bay b) f in
        under-way t (pre ++ (map cell (compact_bay b) ++ (fixed f.bytes ∷ []))) w (record {
          valid = new-valid s x.valid z x.image at pre post b x.parts x.place x.left refl;
          image = y;
          parts = regroup pre (map cell (compact_bay b)) (fixed f.bytes ∷ []) (flatten w);
          left = ap (last_free false) (sym (append_assoc pre (map cell (compact_bay b)) (fixed f.bytes ∷ []))) ∙ last_end false (pre ++ map cell (compact_bay b)) f.bytes;
          place = omega (arith, n, tiled-place x.tiled, x.place, ps, tidy-size b, compact-start s x.valid pre post b x.parts);
          tiled = subst (λ (j : ℕ). Tiled j w (length z')) (sym n) (subst (Tiled (f.place + fsize f) w) (sym (ap length y ∙ nl)) (tiled-rest x.tiled));
        }) k c
        (sym (regroup pre (map cell (compact_bay b)) (fixed f.bytes ∷ []) (flatten (map_s compact_bay w))) ∙ p)
        (omega (arith, eb, r.sum_is, ap bay_sum i, m))

    pub going-turn : Going s₀ z' next best'
    going-turn = go g
      where
        go : Going s₀ z at best → Going s₀ z' next best'
        go (through k p m) = absurd (omega arith)
        go (under-way s pre u x k c p m) = turn s pre u x k c p m (bay-is z at u (stands-bays x)) (r.next_is ∙ next_is z at u (stands-bays x))
