-- More masters, where an allocation finds none: the zone is whole again.
use mathlib.Core.Path.{◌≡◌, refl, ap}
use mathlib.Core.Bool.{true, cond}
use mathlib.Core.List.{List, [], ◌∷◌}
use Prim.Native.Nat.{ℕ, ◌+◌}
use native.Mathlib.Omega.{arith}
use lib.ListN.{length}
use Rattle.block_type.specs.Limits.{zone_header, first_block, added_masters, added_bytes}
use Rattle.format.specs.Occurs.{occurs}
use Rattle.format.proofs.Count.{occurs-append}
use Rattle.calls.specs.Calls.{Call, allocate_relocatable}
use Rattle.calls.specs.Bays.{Bays, last, more, on_first, first_s}
use Rattle.kinds.specs.Kinds.{Item, is, has_name}
use Rattle.calls.specs.State.{listed, handles_from, master_count}
use Rattle.calls.specs.Table.{is_empty, refusal_of}
use Rattle.bay.specs.Bay.{Cell, items, packed_less}
use Rattle.bay.specs.Counted.{count, live}
use Rattle.bay.proofs.Laws.{less-items, packed-less}
use Rattle.bay.proofs.Sound.{less-sound}
use Rattle.zone.specs.PickBays.{AllS}
use Rattle.zone.specs.Work.{Zone, facts, more_masters, with_master}
use Rattle.zone.proofs.Passed.{Grows, grows}
use Rattle.zone.proofs.Entered.{Starts, with-handle, as_it_is, starts, from, entered}
use Rattle.zone.proofs.Sums.{on_first-sum}
use Rattle.zone.proofs.Handles as Handles
use Rattle.zone.proofs.Handles.{length-handles, handles-append}
use Rattle.zone.proofs.Places.{first-tiled}
use Rattle.zone.proofs.Clean.{every_first}
use Rattle.zone.proofs.Keep.{Whole, occurs-same, masters-are}

all_first : {B F : Type 0} {P : B → Type 0} (f : B → B) → ((b : B) → P b → P (f b)) → (s : Bays B F) → AllS P s → AllS P (on_first f s)
all_first f h (last b) p = h b p
all_first f h (more b x s) p = (h b p.0, p.1)

-- their number
pub more-masters : (z : Zone) → z.chain ≡ [] → master_count items (more_masters z) ≡ master_count items z + added_masters
more-masters z none =
    omega (
      arith,
      on_first-sum (λ (b : List Cell). length (listed (items b))) (packed_less added_bytes) z.bays (ap (λ (es : List Item). length (listed es)) (less-items added_bytes (first_s z.bays))),
      length-handles (first_block (master_count items z)) added_masters,
      ap length none,
    )

module _ (z : Zone) (w : Whole z) (none : z.chain ≡ []) (g : Grows z) where
  owned : (h : ℕ) → live h (more_masters z).bays + Handles.occurs h (more_masters z).chain ≡ Handles.masters (w.m + added_masters) h
  owned h =
      let new : List ℕ = handles_from (first_block w.m) added_masters in
      let a : live h (more_masters z).bays ≡ live h z.bays = on_first-sum (λ (b : List Cell). count (is h) (items b)) (packed_less added_bytes) z.bays (ap (count (is h)) (less-items added_bytes (first_s z.bays))) in
      let b : Handles.occurs h (more_masters z).chain ≡ Handles.occurs h new = ap (λ (m : ℕ). Handles.occurs h (handles_from (first_block m) added_masters)) (masters-are z w) in
      let c : Handles.occurs h z.chain ≡ 0 = ap (Handles.occurs h) none in
      omega (
        arith,
        a,
        b,
        c,
        w.owned.owns h,
        occurs-same h (handles_from zone_header (w.m + added_masters)),
        ap (occurs h) (handles-append zone_header w.m added_masters),
        occurs-append h (handles_from zone_header w.m) new,
        occurs-same h (handles_from zone_header w.m),
        occurs-same h new,
      )

  pub more-whole : Whole (more_masters z)
  more-whole = record {
    m = w.m + added_masters;
    few = omega (arith, g.few, masters-are z w);
    owned = record { owns = owned };
    placed = record { tiled = first-tiled (packed_less added_bytes) (first_block (w.m + added_masters)) (omega (arith, (packed-less added_bytes (first_s z.bays) g.room).size)) w.placed.tiled };
    bounded = record { within = w.bounded.within; limit = w.bounded.limit };
    sound = all_first (packed_less added_bytes) (λ b s. less-sound added_bytes refl s) z.bays w.sound;
    clean = record { clean = every_first (packed_less added_bytes) (λ p. rw (less-items added_bytes (first_s z.bays)) p) w.clean.clean };
    apart = record { apart = λ n. omega (arith, on_first-sum (λ (b : List Cell). count (has_name n) (items b)) (packed_less added_bytes) z.bays (ap (count (has_name n)) (less-items added_bytes (first_s z.bays))), w.apart.apart n) };
    ticks = record { byte = w.ticks.byte };
  }

module _ (z : Zone) (w : Whole z) where
  -- where nothing refuses an allocation
  pub with-whole : (c : ℕ) → refusal_of (allocate_relocatable c) (facts true z) ≡ 0 → Whole (with_master z)
  with-whole c e = go z.chain refl
    where
      go : (hs : List ℕ) → z.chain ≡ hs → Whole (cond (is_empty hs) (more_masters z) z)
      go [] q = more-whole z w q (grows c z e q)
      go (h ∷ hs) q = w

  pub entered-whole : (c : Call) → refusal_of c (facts true z) ≡ 0 → Whole (entered c z)
  entered-whole c e = go (starts c z) e
    where
      go : {u : Zone} {c : Call} (s : Starts z u c) → refusal_of c (facts true z) ≡ 0 → Whole (from s)
      go (with-handle c l) e = with-whole c e
      go (as_it_is l) e = w
