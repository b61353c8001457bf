-- An allocation, with more masters or without: every block that was there holds what it held, and no fixed block moves.
use mathlib.Core.Path.{◌≡◌, refl, ap, sym, ◌∙◌, subst}
use mathlib.Core.Bool.{Bool, true, false, cond, true≢false}
use mathlib.Core.Option.{Option, none, some}
use mathlib.Core.List.{List, [], ◌∷◌}
use Prim.Native.Nat.{ℕ, ◌≤◌}
use native.Mathlib.Omega.{arith}
use lib.ListN.{length, length-replicate}
use lib.Dec.{eqb, leb}
use borrow.Author.Tests.{leb-true, ne_eqb}
use Rattle.block_type.specs.Limits.{up4, reloc_need, added_bytes}
use Rattle.calls.specs.Calls.{Target, by_handle, by_pointer, allocate_relocatable}
use Rattle.calls.specs.Bays.{Bays, last, more, over, or_else, on_lowest, on_first, find_f, max_s}
use Rattle.kinds.specs.Kinds.{Item, item_size, is}
use Rattle.calls.specs.State.{get, new_item, top, Fixed, fsize, pointer, content}
use Rattle.calls.specs.Table.{below, is_none, is_empty, refusal_of}
use Rattle.calls.proofs.First.{or_left}
use Rattle.ledger.specs.Space.{spot}
use Rattle.bay.specs.Bay.{Cell, bay_sum, items, packed_less, put}
use Rattle.bay.specs.Counted.{count, live}
use Rattle.bay.proofs.Each.{Each, nothing, just, each-some, each-cond, each_over, cond-one}
use Rattle.bay.proofs.Laws.{less-items}
use Rattle.bay.proofs.Holes.{put_keeps}
use Rattle.bay.proofs.Perm.{perm-count, perm-get}
use Rattle.zone.specs.Work as Work
use Rattle.zone.specs.Work.{Zone, facts, with_master, work}
use Rattle.zone.specs.Search.{place_low}
use Rattle.kinds.specs.Kinds.{has_name}
use Rattle.calls.specs.Calls.{by_name}
use Rattle.zone.proofs.HowMany.{many}
use Rattle.zone.proofs.Once.{block_by, block_of}
use Rattle.zone.proofs.Found.{low-found}
use Rattle.zone.proofs.Passed.{passed}
use Rattle.zone.proofs.WithMaster.{with-chain, with-room}
use Rattle.zone.proofs.Walk.{each-got}
use Rattle.zone.proofs.Handles.{chained, Found, found}
use Rattle.zone.proofs.Keep.{Whole}
use Rattle.zone.proofs.MoreMasters.{with-whole}
use Rattle.zone.proofs.Grouped.{single-live}
use Rattle.zone.proofs.MetBlocks.{spots_s}

-- ---- what looks at the fixed blocks alone

module _ {X : Type 0} (φ : Bays (List Cell) Fixed → X) (end : (b d : List Cell) → φ (last b) ≡ φ (last d))
    (next : (b d : List Cell) (x : Fixed) (s u : Bays (List Cell) Fixed) → φ s ≡ φ u → φ (more b x s) ≡ φ (more d x u)) where
  pub lowest-blind : (t : List Cell → Bool) (f : List Cell → List Cell) (s : Bays (List Cell) Fixed) → φ (on_lowest t f s) ≡ φ s
  lowest-blind t f (last b) = end (f b) b
  lowest-blind t f (more b x s) = cond-one φ (t b) (next (f b) b x s s refl) (next b b x (on_lowest t f s) s (lowest-blind t f s))

  first-blind : (f : List Cell → List Cell) (s : Bays (List Cell) Fixed) → φ (on_first f s) ≡ φ s
  first-blind f (last b) = end (f b) b
  first-blind f (more b x s) = next (f b) b x s s refl

  alloc-blind : (c : ℕ) (z : Zone) → φ (work (allocate_relocatable c) z).next.bays ≡ φ z.bays
  alloc-blind c z = lowest-blind _ _ (with_master z).bays ∙ cond-one (λ (v : Zone). φ v.bays) (is_empty z.chain) (first-blind (packed_less added_bytes) z.bays) refl

pub spots-kept : (c : ℕ) (z : Zone) → spots_s (work (allocate_relocatable c) z).next.bays ≡ spots_s z.bays
spots-kept c z = alloc-blind spots_s (λ b d. refl) (λ b d x s u q. ap (spot x.place (fsize x) ∷◌) q) c z

fixed_kept : (p c : ℕ) (z : Zone) → find_f (λ (x : Fixed). eqb p (pointer x)) (work (allocate_relocatable c) z).next.bays ≡ find_f (λ (x : Fixed). eqb p (pointer x)) z.bays
fixed_kept p c z = alloc-blind (find_f (λ (x : Fixed). eqb p (pointer x))) (λ b d. refl) (λ b d x s u q. ap (cond (eqb p (pointer x)) (some x)) q) c z

-- ---- the block of another handle

first-find : (ok : Item → Bool) (n : ℕ) (s : Bays (List Cell) Fixed) → block_by ok (on_first (packed_less n) s) ≡ block_by ok s
first-find ok n (last b) = ap (get ok) (less-items n b)
first-find ok n (more b x s) = ap (λ (es : List Item). or_else (get ok es) (block_by ok s)) (less-items n b)

with-find : (ok : Item → Bool) (z : Zone) → block_by ok (with_master z).bays ≡ block_by ok z.bays
with-find ok z = cond-one (λ (v : Zone). block_by ok v.bays) (is_empty z.chain) (first-find ok added_bytes z.bays) refl

module _ (ok : Item → Bool) (e : Item) (other : ok e ≡ false) where
  put-find : (b : List Cell) → item_size e ≤ bay_sum b → count ok (items b) ≤ 1 → get ok (items (put e b)) ≡ get ok (items b)
  put-find b l n =
      let p = (put_keeps e b l).perm in
      let q : count ok (e ∷ items b) ≡ count ok (items b) = rw other in
      perm-get ok p (omega (arith, perm-count ok p, q)) ∙ (rw other)

  pub place-find : (s : Bays (List Cell) Fixed) → many ok s ≤ 1 → Each (λ (u : Bays (List Cell) Fixed). block_by ok u ≡ block_by ok s) (place_low e s)
  place-find (last b) n = each-cond (leb (item_size e) (bay_sum b)) (λ t. just (put-find b (leb-true (item_size e) (bay_sum b) t) n)) nothing
  place-find (more b x s) n =
      each-cond (leb (item_size e) (bay_sum b))
      (λ t. just (ap (λ (o : Option Item). or_else o (block_by ok s)) (put-find b (leb-true (item_size e) (bay_sum b) t) (omega arith))))
      (each_over (more b x) (λ u q. ap (or_else (get ok (items b))) q) (place-find s (omega arith)))

-- ---- every block

module _ (c : ℕ) (z : Zone) (w : Whole z) (e : refusal_of (allocate_relocatable c) (facts true z) ≡ 0) where
  abbrev v : Zone
  v = with_master z

  full : Whole v
  full = with-whole z w c e

  -- a block that the new one is not
  block-kept : (ok : Item → Bool) → many ok v.bays ≤ 1 → ((h : ℕ) (hs : List ℕ) → v.chain ≡ h ∷ hs → ok (new_item h c) ≡ false) → block_by ok (work (allocate_relocatable c) z).next.bays ≡ block_by ok z.bays
  block-kept ok once other = go v.chain refl (with-chain z) ∙ with-find ok z
    where
      go : (hs : List ℕ) → v.chain ≡ hs → is_empty hs ≡ false → block_by ok (Work.place_low (new_item (top hs) c) v.bays) ≡ block_by ok v.bays
      go [] q n = absurd (true≢false n)
      go (h ∷ hs) q n =
          let new : Item = new_item h c in
          let size : item_size new ≡ reloc_need c = omega (arith, length-replicate {A = ℕ} (up4 c) 0) in
          let need : below (max_s bay_sum v.bays) (item_size new) ≡ false = rw (size, with-room z true) (or_left _ _ (passed (allocate_relocatable c) z e 5 refl)) in
          each-got {Q = λ (u : Bays (List Cell) Fixed). block_by ok u ≡ block_by ok v.bays} (low-found bay_sum (item_size new) (put new) v.bays) need (place-find ok new (other h hs q) v.bays once)

  handle-kept : (k : ℕ) (i : Item) → block_of k z.bays ≡ some i → block_of k (work (allocate_relocatable c) z).next.bays ≡ some i
  handle-kept k i q =
      block-kept (is k) (single-live v full k) (λ h hs r. ne_eqb k h (λ x. omega (arith, alive, (chained full.m v full.owned h hs r).0, ap (λ (j : ℕ). live j v.bays) x))) ∙ q
    where
      alive : 1 ≤ live k v.bays
      alive = (each-some (subst (Each (Found full.m k v)) (with-find (is k) z ∙ q) (found full.m k v))).once-live

  pub content-kept : (t : Target) → is_none (over length (content items t z.bays)) ≡ false → content items t (work (allocate_relocatable c) z).next.bays ≡ content items t z.bays
  content-kept (by_handle k) n = go (block_of k z.bays) refl n
    where
      go : (o : Option Item) → block_of k z.bays ≡ o → is_none (over length (over (λ (i : Item). i.bytes) o)) ≡ false
          → over (λ (i : Item). i.bytes) (block_of k (work (allocate_relocatable c) z).next.bays) ≡ over (λ (i : Item). i.bytes) (block_of k z.bays)
      go none q n = absurd (true≢false n)
      go (some i) q n = ap (over (λ (i : Item). i.bytes)) (handle-kept k i q ∙ sym q)
  content-kept (by_pointer p) n = ap (over (λ (x : Fixed). x.bytes)) (fixed_kept p c z)
  content-kept (by_name k) n = ap (over (λ (i : Item). i.bytes)) (block-kept (has_name k) (full.apart.apart k) (λ h hs q. refl))
