-- What dropping all unlocked pages would leave free in each bay, as a walk through the buffer meets it, is what the table asks of the zone.
use mathlib.Core.Path.{◌≡◌, refl, ap, ap₂, sym, ◌∙◌}
use mathlib.Core.Bool.{Bool, true, false, cond, not, ◌&&◌, ◌||◌}
use mathlib.Core.List.{List, [], ◌∷◌, ◌++◌, map}
use Prim.Native.Nat.{ℕ, ◌+◌, max}
use native.Mathlib.Omega.{arith}
use native.Mathlib.Nat.{add-zero, zero-add}
use lib.Dec.{eqb}
use lib.ListN.{drop}
use Rattle.block_type.specs.Limits.{free_code, fixed_code, page_code, tag_at}
use Rattle.format.specs.WellFormed.{type_of, size_of}
use Rattle.kinds.specs.Kinds.{Key, of_handle, of_name, Item, key_code, key_tag, KeyFits, item_size}
use Rattle.calls.specs.Bays.{Bays, last, more}
use Rattle.calls.specs.State.{Fixed}
use Rattle.calls.specs.Pages.{key_unlocked, unlocked, freed, sum_without}
use Rattle.bay.specs.Bay.{Cell, free, held, bay_sum, items}
use Rattle.structure.specs.Structure.{Block, cell, fixed, encode_block}
use Rattle.structure.specs.Valid.{Tiled}
use Rattle.structure.proofs.Back.{enc-cell, enc-fixed}
use Rattle.zone.specs.Group.{flat_bay, flatten}
use Rattle.zone.specs.Work.{Zone}
use Rattle.zone.specs.Claim.{card_in}
use Rattle.zone.specs.Growth.{largest_of}
use Rattle.zone.specs.PageSays.{emptied_met, emptied_in}
use Rattle.zone.proofs.Keep.{Whole, valid-line}
use Rattle.zone.proofs.Run.{Stored}
use Rattle.zone.proofs.MetBlocks.{sums_s}
use Rattle.zone.proofs.PagesMet.{Says, says, card-is, blocks-enc}

-- the bytes of a block that count
abbrev loose_size : Item → ℕ
loose_size e = cond (unlocked e) (item_size e) 0

abbrev loose_b : ℕ → List Block → List ℕ
loose_b n [] = n ∷ []
loose_b n (cell (free k) ∷ bs) = loose_b (n + k) bs
loose_b n (cell (held e) ∷ bs) = loose_b (n + loose_size e) bs
loose_b n (fixed d ∷ bs) = n ∷ loose_b 0 bs

met-loose : (n : ℕ) (e : Item) (rest : ℕ → List ℕ) → Says e → KeyFits e.key
    → cond (eqb (type_of (encode_block (cell (held e)))) fixed_code) (n ∷ rest 0)
    (rest (n + cond (eqb (type_of (encode_block (cell (held e)))) free_code || (eqb (type_of (encode_block (cell (held e)))) page_code && not (card_in (encode_block (cell (held e)))).lock)) (size_of (encode_block (cell (held e)))) 0))
    ≡ rest (n + loose_size e)
met-loose n e rest x ok = rw (x.kind, x.same) (go e.key (item_size e) x.tag ok)
  where
    go : (k : Key) (i : ℕ) → drop tag_at (encode_block (cell (held e))) ≡ key_tag k ++ e.bytes → KeyFits k
        → cond (eqb (key_code k) fixed_code) (n ∷ rest 0) (rest (n + cond (eqb (key_code k) free_code || (eqb (key_code k) page_code && not (card_in (encode_block (cell (held e)))).lock)) i 0)) ≡ rest (n + cond (key_unlocked k) i 0)
    go (of_handle h) i t ok = refl
    go (of_name m s) i t ok = ap (λ b. rest (n + cond (not b.lock) i 0)) (card-is m s e.bytes (encode_block (cell (held e))) t ok)

loose-enc : (n : ℕ) (prev : Bool) (bs : List Block) → Tiled prev bs → emptied_met n (map encode_block bs) ≡ loose_b n bs
unfolding emptied_met
loose-enc n prev [] t = refl
loose-enc n prev (cell (free k) ∷ bs) t = let x = enc-cell (free k) (t.1, t.2, t.3) in rw (x.kind, x.same) (loose-enc (n + k) true bs t.4)
loose-enc n prev (fixed d ∷ bs) t = let x = enc-fixed d t.0 t.1 in rw x.kind (ap (n ∷◌) (loose-enc 0 false bs t.3))
loose-enc n prev (cell (held e) ∷ bs) t =
    met-loose n e (λ (k : ℕ). emptied_met k (map encode_block bs)) (says e t.0 (omega (arith, t.1))) t.2.1 ∙ loose-enc (n + loose_size e) false bs t.3

loose-bay : (n : ℕ) (cs : List Cell) (r : List Block) → loose_b n (flat_bay cs r) ≡ loose_b (n + (bay_sum cs + freed unlocked (items cs))) r
loose-bay n [] r = ap (λ (q : ℕ). loose_b q r) (sym (add-zero n))
loose-bay n (free k ∷ cs) r = loose-bay (n + k) cs r ∙ ap (λ (q : ℕ). loose_b q r) (sums n k (bay_sum cs) (freed unlocked (items cs)))
  where
    sums : (n k a b : ℕ) → n + k + (a + b) ≡ n + (k + a + b)
    sums n k a b = omega arith
loose-bay n (held e ∷ cs) r = loose-bay (n + loose_size e) cs r ∙ ap (λ (q : ℕ). loose_b q r) (go (unlocked e))
  where
    go : (t : Bool) → n + cond t (item_size e) 0 + (bay_sum cs + freed unlocked (items cs)) ≡ n + (bay_sum cs + cond t (item_size e + freed unlocked (items cs)) (freed unlocked (items cs)))
    go true = omega arith
    go false = omega arith

abbrev loose_sum : List Cell → ℕ
loose_sum b = bay_sum b + freed unlocked (items b)

loose-strip : (s : Bays (List Cell) Fixed) → loose_b 0 (flatten s) ≡ sums_s loose_sum s
loose-strip (last b) = loose-bay 0 b [] ∙ ap (◌∷ []) (zero-add (loose_sum b))
loose-strip (more b x s) = loose-bay 0 b (fixed x.bytes ∷ flatten s) ∙ ap₂ ◌∷◌ (zero-add (loose_sum b)) (loose-strip s)

largest : (s : Bays (List Cell) Fixed) → largest_of (sums_s loose_sum s) ≡ sum_without items bay_sum unlocked s
largest (last b) = omega arith
largest (more b x s) = ap (max (loose_sum b)) (largest s)

pub loose-walk : (bs : List ℕ) (z : Zone) → Whole z → Stored bs z → largest_of (emptied_in bs) ≡ sum_without items bay_sum unlocked z.bays
loose-walk bs z w s =
    ap (λ (l : List (List ℕ)). largest_of (emptied_met 0 l)) (blocks-enc bs z w s)
    ∙ ap largest_of (loose-enc 0 false (flatten z.bays) (valid-line z w).tiled ∙ loose-strip z.bays)
    ∙ largest z.bays
