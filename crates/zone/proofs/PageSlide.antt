-- Compact, enlarge and shrink: every block that is not free is met as it was, byte for byte and in the old order.
use mathlib.Core.Path.{◌≡◌, refl, ap, ap₂, sym, ◌∙◌, subst}
use mathlib.Core.Bool.{Bool, true, false}
use mathlib.Core.List.{List, [], ◌∷◌, ◌++◌, map, append-nil}
use Prim.Native.Nat.{ℕ, zero, suc, ◌*◌, ◌/◌, min}
use native.Mathlib.Omega.{arith}
use lib.Dec.{eqb}
use Rattle.format.specs.WellFormed.{is_free}
use Rattle.kinds.specs.Kinds.{Item}
use Rattle.kinds.proofs.KindLaws.{not_free}
use Rattle.calls.specs.Calls.{Call, Answer, beside, Given}
use Rattle.calls.specs.Bays.{Bays, last, more, map_s, on_last, last_s}
use Rattle.calls.specs.State.{Fixed, Out}
use Rattle.calls.specs.Table.{refusal_of}
use Rattle.bay.specs.Bay.{Cell, free, held, bay_sum, items, gap, join_bays, compact_bay, take_high}
use Rattle.bay.proofs.Each.{cond-one}
use Rattle.bay.proofs.Laws.{items-gap, items-weld, tidy-items}
use Rattle.structure.specs.Structure.{Block, cell, fixed, encode_block}
use Rattle.structure.specs.Valid.{Tiled}
use Rattle.structure.proofs.Back.{enc-cell, enc-fixed}
use Rattle.zone.specs.Group.{flat_bay, flatten}
use Rattle.zone.specs.Work.{Zone, facts, work}
use Rattle.zone.specs.Call.{Result}
use Rattle.zone.specs.Promise.{Promise}
use Rattle.zone.specs.Claim.{blocks_in}
use Rattle.zone.specs.PageSays.{held_met, Slides, by_compact, by_enlarge, by_shrink}
use Rattle.zone.proofs.Keep.{Whole, valid-line}
use Rattle.zone.proofs.Grouped.{work-whole, work-buffer}
use Rattle.zone.proofs.Run.{Stored, stored-after, call-worked, call-refused}
use Rattle.zone.proofs.PagesMet.{says, blocks-enc}
use Rattle.zone.proofs.PageIdle.{taken}

-- ---- blocks that are not free

abbrev used : List Block → List Block
used [] = []
used (cell (free n) ∷ l) = used l
used (cell (held e) ∷ l) = cell (held e) ∷ used l
used (fixed d ∷ l) = fixed d ∷ used l

met-used : (prev : Bool) (l : List Block) → Tiled prev l → held_met (map encode_block l) ≡ map encode_block (used l)
unfolding held_met is_free
met-used prev [] t = refl
met-used prev (cell (free n) ∷ l) t = rw (enc-cell (free n) (t.1, t.2, t.3)).kind (met-used true l t.4)
met-used prev (fixed d ∷ l) t = rw (enc-fixed d t.0 t.1).kind (ap (encode_block (fixed d) ∷◌) (met-used false l t.3))
met-used prev (cell (held e) ∷ l) t = rw ((says e t.0 (omega (arith, t.1))).kind, not_free e) (ap (encode_block (cell (held e)) ∷◌) (met-used false l t.3))

used-bay : (cs : List Cell) (r : List Block) → used (flat_bay cs r) ≡ map (λ (e : Item). cell (held e)) (items cs) ++ used r
used-bay [] r = refl
used-bay (free n ∷ cs) r = used-bay cs r
used-bay (held e ∷ cs) r = ap (cell (held e) ∷◌) (used-bay cs r)

-- ---- bays that keep their blocks

same-bay : (b d : List Cell) (r q : List Block) → items b ≡ items d → used r ≡ used q → used (flat_bay b r) ≡ used (flat_bay d q)
same-bay b d r q e f = used-bay b r ∙ ap₂ (λ (es : List Item) (l : List Block). map (λ (e : Item). cell (held e)) es ++ l) e f ∙ sym (used-bay d q)

module _ (f : List Cell → List Cell) (q : (b : List Cell) → items (f b) ≡ items b) where
  on-all : (s : Bays (List Cell) Fixed) → used (flatten (map_s f s)) ≡ used (flatten s)
  on-all (last b) = same-bay (f b) b [] [] (q b) refl
  on-all (more b x s) = same-bay (f b) b (fixed x.bytes ∷ flatten (map_s f s)) (fixed x.bytes ∷ flatten s) (q b) (ap (fixed x.bytes ∷◌) (on-all s))

  on-last : (s : Bays (List Cell) Fixed) → used (flatten (on_last f s)) ≡ used (flatten s)
  on-last (last b) = same-bay (f b) b [] [] (q b) refl
  on-last (more b x s) = same-bay b b (fixed x.bytes ∷ flatten (on_last f s)) (fixed x.bytes ∷ flatten s) refl (ap (fixed x.bytes ∷◌) (on-last s))

-- ---- the three calls

work-slides : {c : Call} → Slides c → (z : Zone) → used (flatten (work c z).next.bays) ≡ used (flatten z.bays)
work-slides by_compact z = on-all compact_bay tidy-items z.bays
work-slides (by_enlarge {k = k}) z = on-last (λ b. join_bays b (gap k [])) (λ b. items-weld b (gap k []) ∙ ap (items b ++◌) (items-gap k []) ∙ append-nil (items b)) z.bays
work-slides (by_shrink {k = k}) z =
    let n : ℕ = min (k / 4 * 4) (bay_sum (last_s z.bays)) in
    cond-one (λ (o : Out (List Cell)). used (flatten o.next.bays)) (eqb n 0) refl (on-last (take_high n) (taken n) z.bays)

given : {c : Call} → Slides c → Given (beside c)
given by_compact = tt
given by_enlarge = tt
given by_shrink = tt

pub slid : (c : Call) (bs after : List ℕ) (a : Answer) (z : Zone) → Whole z → Stored bs z → Slides c → Promise c bs a after → held_met (blocks_in after) ≡ held_met (blocks_in bs)
slid c bs after a z w s l p = go (refusal_of c (facts true z)) refl
  where
    walk : (bs : List ℕ) (z : Zone) → Whole z → Stored bs z → held_met (blocks_in bs) ≡ map encode_block (used (flatten z.bays))
    walk bs z w s = ap held_met (blocks-enc bs z w s) ∙ met-used false (flatten z.bays) (valid-line z w).tiled

    go : (n : ℕ) → refusal_of c (facts true z) ≡ n → held_met (blocks_in after) ≡ held_met (blocks_in bs)
    go zero e =
        let u : Zone = (work c z).next in
        let w' : Whole u = work-whole c z (given l) w e in
        let s' : Stored after u = subst (λ (b : List ℕ). Stored b u) (sym (ap (λ (r : Result). r.bytes) (p ∙ call-worked bs z w s c e))) (stored-after bs z u w w' (work-buffer c z (given l) w e) s) in
        walk after u w' s' ∙ ap (map encode_block) (work-slides l z) ∙ sym (walk bs z w s)
    go (suc n) e = ap (λ (b : List ℕ). held_met (blocks_in b)) (ap (λ (r : Result). r.bytes) (p ∙ call-refused bs z w s c n e))
