-- A create and a relocatable allocation of as many bytes, from one buffer with a free master: the page lies where the block would lie.
use mathlib.Core.Path.{◌≡◌, refl, ap, sym, ◌∙◌, subst}
use mathlib.Core.Bool.{true, false}
use mathlib.Core.List.{List, [], ◌∷◌}
use Prim.Native.Nat.{ℕ, ◌+◌, ◌≤◌}
use native.Mathlib.Omega.{arith}
use lib.ListN.{length-replicate}
use borrow.Author.Tests.{le-leb}
use Rattle.block_type.specs.Limits.{reloc_header, page_limit, up4, reloc_need, page_need, first_block}
use Rattle.format.specs.WellFormed.{chain_field, master_at}
use Rattle.structure.specs.Structure.{head_of, sizes, place_of}
use Rattle.kinds.specs.Kinds.{Item, is, item_size}
use Rattle.kinds.proofs.KindLaws.{is-self}
use Rattle.calls.specs.Calls.{allocate_relocatable, Answer}
use Rattle.calls.specs.Bays.{Bays, max_s}
use Rattle.calls.specs.State.{Fixed, new_item, master_count}
use Rattle.calls.specs.Table.{below, refusal_of}
use Rattle.calls.proofs.Order.{free-number}
use Rattle.bay.specs.Bay.{Cell, bay_sum, items, put}
use Rattle.bay.proofs.Each.{each_weaken}
use Rattle.zone.specs.Group.{flatten}
use Rattle.zone.specs.Work.{Zone, facts, work, place_low}
use Rattle.zone.specs.Call.{Result}
use Rattle.zone.specs.Promise.{Promise}
use Rattle.zone.proofs.HowMany.{many, low-many}
use Rattle.zone.proofs.Handles.{chained}
use Rattle.zone.proofs.Found.{low-found}
use Rattle.zone.proofs.Walk.{each-got}
use Rattle.zone.proofs.Keep.{Whole}
use Rattle.zone.proofs.Grouped.{work-whole, work-masters, work-buffer}
use Rattle.zone.proofs.Run.{Stored, stored-after, call-worked}
use Rattle.zone.proofs.Fields.{chain-read}
use Rattle.zone.proofs.InBuffer.{place_read}
use Rattle.zone.proofs.PagePlaced.{Slot, placed_at}

module _ (c : ℕ) (mid other : List ℕ) (b : Answer) (u : Zone) (w : Whole u) (s : Stored mid u) (small : c ≤ page_limit) (room : page_need c ≤ max_s bay_sum u.bays) (k : Slot (page_need c) u.bays)
    (p : Promise (allocate_relocatable (c + reloc_header)) mid b other) where
  module _ (h : ℕ) (hs : List ℕ) (q : u.chain ≡ h ∷ hs) where
    abbrev new : Item
    new = new_item h (c + reloc_header)

    e : refusal_of (allocate_relocatable (c + reloc_header)) (facts true u) ≡ 0
    e = free-number (c + reloc_header) h hs (facts true u) refl q (omega arith) ∙ (rw (le-leb (reloc_need (c + reloc_header)) (max_s bay_sum u.bays) (omega arith)))

    size : item_size new ≡ page_need c
    size = omega (arith, length-replicate {A = ℕ} (up4 (c + reloc_header)) 0)

    abbrev v : Zone
    v = (work (allocate_relocatable (c + reloc_header)) u).next

    bays : v.bays ≡ place_low new u.bays
    bays = rw q

    v-whole : Whole v
    v-whole = work-whole (allocate_relocatable (c + reloc_header)) u tt w e

    v-stored : Stored other v
    v-stored = subst (λ (l : List ℕ). Stored l v) (sym (ap (λ (r : Result). r.bytes) (p ∙ call-worked mid u w s (allocate_relocatable (c + reloc_header)) e))) (stored-after mid u v w v-whole (work-buffer (allocate_relocatable (c + reloc_header)) u tt w e) s)

    handle : b.value ≡ h
    handle = ap (λ (r : Result). r.answer.value) (p ∙ call-worked mid u w s (allocate_relocatable (c + reloc_header)) e) ∙ (rw q)

    masters : master_count items v ≡ master_count items u
    masters = work-masters (allocate_relocatable (c + reloc_header)) u tt w e ∙ (rw q)

    one : many (is h) (place_low new u.bays) ≡ 1
    one =
        let r : below (max_s bay_sum u.bays) (item_size new) ≡ false = rw (size, le-leb (page_need c) (max_s bay_sum u.bays) room) in
        let y : is h new ≡ true = is-self h new.bytes in
        each-got {Q = λ (t : Bays (List Cell) Fixed). many (is h) t ≡ 1} (low-found bay_sum (item_size new) (put new) u.bays) r
        (each_weaken (λ t i. omega (arith, (rw y at i), (chained w.m u w.owned h hs q).0)) (low-many (is h) new u.bays))

    lies : master_at other b.value ≡ first_block (master_count items u) + sizes k.pre + reloc_header
    lies =
        ap (master_at other) handle
        ∙ place_read other v v-whole v-stored h (omega (arith, ap (many (is h)) bays, one))
        ∙ ap (λ (t : Bays (List Cell) Fixed). place_of (is h) (first_block (master_count items v)) (flatten t)) bays
        ∙ placed_at (page_need c) u.bays k (is h) new size (is-self h new.bytes) (omega (arith, one)) (first_block (master_count items v))
        ∙ omega (arith, masters)

    number : b.number ≡ 0
    number = ap (λ (r : Result). r.answer.number) (p ∙ call-worked mid u w s (allocate_relocatable (c + reloc_header)) e)

  pub beside : (chain_field mid ≡ 0 → ⊥) → (b.number ≡ 0) × (master_at other b.value ≡ first_block (master_count items u) + sizes k.pre + reloc_header)
  beside f = go u.chain refl
    where
      go : (hs : List ℕ) → u.chain ≡ hs → (b.number ≡ 0) × (master_at other b.value ≡ first_block (master_count items u) + sizes k.pre + reloc_header)
      go [] q = absurd (f (chain-read mid u w s ∙ ap head_of q))
      go (h ∷ hs) q = (number h hs q, lies h hs q)
