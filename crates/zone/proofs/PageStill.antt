-- Pages that go move no block: the masters hold what they held, and the other pages lie where they lay.
use mathlib.Core.Path.{◌≡◌, refl, ap, sym, ◌∙◌}
use mathlib.Core.Bool.{Bool, true, false, cond, true≢false}
use mathlib.Core.Option.{none, some}
use mathlib.Core.List.{List, [], ◌∷◌, ◌++◌, map, append_assoc}
use Prim.Native.Nat.{ℕ, zero, suc, ◌+◌, ◌-◌, ◌*◌, ◌≤◌}
use native.Mathlib.Nat.{add-zero}
use native.Mathlib.Omega.{arith}
use lib.Dec.{eqb}
use lib.ListN.{length, take, drop}
use lib.Seq.{take_at}
use borrow.Author.Tests.{eqb-true, eqb-false, ne_eqb}
use Rattle.bigendian.specs.BigEndian.{slice}
use Rattle.block_type.specs.Limits.{fixed_header, master_size, zone_header, first_block}
use Rattle.format.specs.WellFormed.{first_field, offsets}
use Rattle.format.proofs.Count.{length-offsets}
use Rattle.kinds.specs.Kinds.{Key, of_handle, of_name, Item, key_named, is, has_name, header_of, item_size}
use Rattle.kinds.proofs.KindLaws.{is-no-page}
use Rattle.calls.specs.Bays.{Bays, last, more, map_s}
use Rattle.calls.specs.State.{Fixed, master_count}
use Rattle.bay.specs.Bay.{Cell, free, held, items, gap, release}
use Rattle.structure.specs.Structure.{Block, fixed, count, start, next_of, place_of, value, words, join, encode_block}
use Rattle.structure.proofs.Words.{length-words, words-values, words_l}
use Rattle.structure.proofs.Round.{heads}
use Rattle.zone.specs.Group.{flat_bay, flatten}
use Rattle.zone.specs.Work.{Zone, clear_out}
use Rattle.zone.specs.Call.{in_line}
use Rattle.zone.specs.Claim.{page_at}
use Rattle.zone.specs.PageSays.{Unmoved}
use Rattle.zone.proofs.HowMany.{many, release-le, release-gone}
use Rattle.zone.proofs.Keep.{Whole, valid-line, count-line, masters-are}
use Rattle.zone.proofs.Run.{Stored}
use Rattle.zone.proofs.Fields.{first_read}
use Rattle.zone.proofs.PagesMet.{page-found, page-missing}
use Rattle.zone.proofs.PageBytes.{map_same}

-- ---- a block that stays

gap-place : (t : Item → Bool) (at n : ℕ) (cs : List Cell) (r : List Block) → place_of t at (flat_bay (gap n cs) r) ≡ place_of t (at + n) (flat_bay cs r)
unfolding place_of
gap-place t at zero cs r = rw add-zero
gap-place t at (suc n) [] r = refl
gap-place t at (suc n) (free k ∷ cs) r = ap (λ (j : ℕ). place_of t j (flat_bay cs r)) (omega arith)
gap-place t at (suc n) (held e ∷ cs) r = refl

module _ (t ok : Item → Bool) (f : (e : Item) → t e ≡ true → ok e ≡ false) where
  bay-place : (cs : List Cell) (r r' : List Block) → ((at : ℕ) → place_of t at r' ≡ place_of t at r) → (at : ℕ) → place_of t at (flat_bay (release ok cs) r') ≡ place_of t at (flat_bay cs r)
  unfolding place_of
  bay-place [] r r' q at = q at
  bay-place (free n ∷ cs) r r' q at = gap-place t at n (release ok cs) r' ∙ bay-place cs r r' q (at + n)
  bay-place (held e ∷ cs) r r' q at = go (ok e) refl (t e) refl (bay-place cs r r' q (at + item_size e))
    where
      go : (g : Bool) → ok e ≡ g → (k : Bool) → t e ≡ k → place_of t (at + item_size e) (flat_bay (release ok cs) r') ≡ place_of t (at + item_size e) (flat_bay cs r)
          → place_of t at (flat_bay (cond g (gap (item_size e) (release ok cs)) (held e ∷ release ok cs)) r') ≡ cond k (at + header_of e) (place_of t (at + item_size e) (flat_bay cs r))
      go true a true b i = absurd (true≢false (sym a ∙ f e b))
      go true a false b i = gap-place t at (item_size e) (release ok cs) r' ∙ i
      go false a k b i = rw b (ap (cond k (at + header_of e)) i)

  released-place : (s : Bays (List Cell) Fixed) (at : ℕ) → place_of t at (flatten (map_s (release ok) s)) ≡ place_of t at (flatten s)
  unfolding place_of
  released-place (last b) at = bay-place b [] [] (λ k. refl) at
  released-place (more b x s) at = bay-place b (fixed x.bytes ∷ flatten s) (fixed x.bytes ∷ flatten (map_s (release ok) s)) (λ k. released-place s (k + (fixed_header + length x.bytes))) at

-- another name
other_name : (k n : ℕ) → (k ≡ n → ⊥) → (e : Item) → has_name k e ≡ true → has_name n e ≡ false
other_name k n d e q = go e.key q
  where
    go : (i : Key) → key_named k i ≡ true → key_named n i ≡ false
    go (of_handle h) q = refl
    go (of_name i s) q = ne_eqb n i (λ p. d (eqb-true k i q ∙ sym p))

-- ---- the masters of a buffer

masters-stand : (bs : List ℕ) (z : Zone) → Whole z → Stored bs z → slice bs zone_header (master_size * count (in_line z)) ≡ words (value (in_line z)) (offsets zone_header (count (in_line z)))
masters-stand bs z w s =
    let ws : List ℕ = words (value (in_line z)) (offsets zone_header (count (in_line z))) in
    let r : List ℕ = join (map encode_block (flatten z.bays)) in
    ap (λ (y : List ℕ). take (master_size * count (in_line z)) (drop zone_header y)) s.split
    ∙ ap (take (master_size * count (in_line z))) ((heads (in_line z) (valid-line z w) (drop z.len bs)).rest ∙ append_assoc ws r (drop z.len bs))
    ∙ take_at ws (r ++ drop z.len bs) (master_size * count (in_line z)) (length-words (value (in_line z)) (offsets zone_header (count (in_line z))) ∙ ap (master_size *◌) (length-offsets zone_header (count (in_line z))))

module _ (bs after : List ℕ) (z : Zone) (w : Whole z) (s : Stored bs z) (n : ℕ) (w' : Whole (clear_out (has_name n) z)) (s' : Stored after (clear_out (has_name n) z)) (m : master_count items (clear_out (has_name n) z) ≡ master_count items z) where
  abbrev left : Zone
  left = clear_out (has_name n) z

  counts : count (in_line left) ≡ count (in_line z)
  counts = count-line left w' ∙ sym (masters-are left w') ∙ m ∙ masters-are z w ∙ sym (count-line z w)

  values_same : (h : ℕ) → value (in_line left) h ≡ value (in_line z) h
  values_same h = ap (◌+ next_of h z.chain) (ap (λ (k : ℕ). place_of (is h) (first_block k) (flatten left.bays)) counts ∙ released-place (is h) (has_name n) (λ e q. is-no-page h n e q) z.bays (start (in_line z)))

  pub unmoved : Unmoved bs after
  unmoved = record {
    masters =
        let e : first_field bs - zone_header ≡ master_size * count (in_line z) = omega (arith, first_read bs z w s, masters-are z w, count-line z w) in
        rw e
        (ap (λ (k : ℕ). slice after zone_header (master_size * k)) (sym counts) ∙ masters-stand after left w' s'
        ∙ words-values (value (in_line left)) (offsets zone_header (count (in_line left)))
        ∙ ap words_l (map_same _ _ values_same (offsets zone_header (count (in_line left))) ∙ ap (λ (k : ℕ). map (value (in_line z)) (offsets zone_header k)) counts)
        ∙ sym (masters-stand bs z w s ∙ words-values (value (in_line z)) (offsets zone_header (count (in_line z)))));
    pages = λ k v q. go k v q (many (has_name k) left.bays) refl;
  }
    where
      stays : (k v : ℕ) → page_at k after ≡ some v → 1 ≤ many (has_name k) left.bays → (t : Bool) → eqb k n ≡ t → page_at k bs ≡ some v
      stays k v q l true e = absurd (omega (arith, l, ap (λ (j : ℕ). many (has_name j) left.bays) (eqb-true k n e), release-gone (has_name n) z.bays))
      stays k v q l false e =
          page-found bs z w s k (omega (arith, l, release-le (has_name k) (has_name n) z.bays))
          ∙ ap some (sym (ap (λ (j : ℕ). place_of (has_name k) (first_block j) (flatten left.bays)) m ∙ released-place (has_name k) (has_name n) (other_name k n (eqb-false k n e)) z.bays (first_block (master_count items z))))
          ∙ sym (page-found after left w' s' k l) ∙ q

      go : (k v : ℕ) → page_at k after ≡ some v → (j : ℕ) → many (has_name k) left.bays ≡ j → page_at k bs ≡ some v
      go k v q zero e = let x : none ≡ some v = sym (page-missing after left w' s' k e) ∙ q in let y : ◌≡◌ {A = ℕ} 0 1 = cc in absurd (omega arith)
      go k v q (suc j) e = stays k v q (omega arith) (eqb k n) refl
