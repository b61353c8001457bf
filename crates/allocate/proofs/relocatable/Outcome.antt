-- After an accepted allocation the handle that it answers has a block of up4 c zero bytes.
use mathlib.Core.Path.{◌≡◌, refl, ap, ◌∙◌}
use mathlib.Core.Bool.{true, false, true≢false}
use mathlib.Core.Option.{some}
use mathlib.Core.List.{List, [], ◌∷◌}
use Prim.Native.Nat.{ℕ}
use native.Mathlib.Omega.{arith}
use borrow.Author.Tests.{eq-eqb}
use lib.ListN.{length, replicate, length-replicate}
use Rattle.bigendian.specs.BigEndian.{Bytes}
use Rattle.block_type.specs.Limits.{up4}
use Rattle.calls.specs.Calls.{by_handle, Answer, told, shows, Call, allocate_relocatable, size, view}
use Rattle.calls.specs.Bays.{Bays, over, find_s, max_s}
use Rattle.kinds.specs.Kinds.{Item, item_size, is}
use Rattle.calls.specs.State.{get, new_item, top, Fixed, content}
use Rattle.calls.specs.Table.{below, is_empty}
use Rattle.calls.proofs.First.{or_left}
use Rattle.bay.specs.Bay.{Cell, items, bay_sum, put}
use Rattle.bay.specs.Counted.{live}
use Rattle.zone.specs.Work.{Zone, with_master, work}
use Rattle.zone.specs.Call.{zone_in, call}
use Rattle.zone.proofs.Found.{low-found as total-low}
use Rattle.zone.proofs.Walk.{each-got}
use Rattle.zone.proofs.Handles.{chained}
use Rattle.zone.proofs.WithMaster.{with-chain, with-room}
use Rattle.zone.proofs.MoreMasters.{with-whole}
use Rattle.zone.proofs.Run.{well-whole}
use Rattle.call_laws.proofs.Outcome.{step}
use Rattle.call_laws.proofs.Accepted.{Accepted, accepted, cleared, answered, after}
use Rattle.call_laws.proofs.Named.{size-there, view-there}
use Rattle.call_laws.proofs.Placed.{low-found}
use Rattle.allocate.proofs.relocatable.Call.{need_is}

-- what is asked of the buffer that an allocation leaves
abbrev asked : ℕ → List ℕ → (ℕ → Call) → Answer
asked c s b = (call (b (call (allocate_relocatable c) s).answer.value) (call (allocate_relocatable c) s).bytes).answer

pub record Made (c : ℕ) (s : List ℕ) : Type 0 where
  pub sized : asked c s (λ h. size (by_handle h)) ≡ told 0 (up4 c)
  pub zeros : asked c s (λ h. view (by_handle h) 0 (up4 c)) ≡ shows 0 (replicate (up4 c) 0)

module _ (s : List ℕ) (c : ℕ) (y : Bytes s) (e : (call (allocate_relocatable c) s).answer.number ≡ 0) where
  a : Accepted (allocate_relocatable c) s
  a = accepted (allocate_relocatable c) s (λ n v. refl) refl e

  abbrev z : Zone
  z = zone_in s

  -- the zone with a free master, the chain's head, and its new block
  abbrev v : Zone
  v = with_master z

  abbrev h : ℕ
  h = top v.chain

  abbrev i : Item
  i = new_item h c

  fresh : live h v.bays ≡ 0
  fresh = go v.chain refl (with-chain z)
    where
      go : (hs : List ℕ) → v.chain ≡ hs → is_empty hs ≡ false → live (top hs) v.bays ≡ 0
      go [] q n = absurd (true≢false n)
      go (k ∷ ks) q n = let w = with-whole z (well-whole s y a.well) c a.passed in (chained w.m v w.owned k ks q).0

  abbrev next : Zone
  next = (work (allocate_relocatable c) z).next

  found : content items (by_handle h) next.bays ≡ some i.bytes
  found =
      let need : below (max_s bay_sum v.bays) (item_size i) ≡ false = rw (need_is h c, with-room z true) (or_left _ _ (cleared a 5 refl)) in
      ap (over (λ (i : Item). i.bytes)) (each-got {Q = λ (u : Bays (List Cell) Fixed). find_s (λ (b : List Cell). get (is h) (items b)) u ≡ some i} (total-low bay_sum (item_size i) (put i) v.bays) need (low-found (is h) i (eq-eqb h h refl) v.bays fresh))

  tell : (b : ℕ → Call) → asked c s b ≡ (step (b h) next).answer
  tell b = ap (λ (g : Answer). (call (b g.value) (call (allocate_relocatable c) s).bytes).answer) (answered a y) ∙ after a y tt (b h)

  long : length i.bytes ≡ up4 c
  long = length-replicate (up4 c) 0

  pub alloc-made : Made c s
  alloc-made = record {
    sized = tell (λ g. size (by_handle g)) ∙ size-there next (by_handle h) found ∙ ap (told 0) long;
    zeros = tell (λ g. view (by_handle g) 0 (up4 c)) ∙ view-there next (by_handle h) i.bytes (up4 c) (omega (arith, long)) found;
  }
