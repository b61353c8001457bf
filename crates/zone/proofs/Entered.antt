-- The zone that a call's work starts from, and the free handles that it leaves: an allocation starts with a free handle and takes it; every other
-- call starts from the zone as it is and takes none.
use mathlib.Core.Path.{◌≡◌, refl, ap}
use mathlib.Core.Bool.{cond}
use mathlib.Core.List.{List, [], ◌∷◌}
use Prim.Native.Nat.{ℕ, ◌+◌, ◌*◌, ◌/◌, ◌≤◌, min}
use native.Mathlib.Omega.{arith}
use lib.ListN.{length, length-drop}
use lib.Dec.{eqb}
use Rattle.calls.specs.Calls.{Call, allocate_relocatable, allocate_fixed, free_handle, free_pointer, resize, size, read, write, view, compact, sums, check, length_of, enlarge, shrink, roster, on_page, PageCall, create_page, use_page, mark_page, drop_page}
use Rattle.calls.specs.Bays.{last_s}
use Rattle.calls.specs.State.{Out}
use Rattle.calls.specs.Table.{is_empty}
use Rattle.bay.specs.Bay.{Cell, bay_sum}
use Rattle.bay.proofs.Each.{cond-one}
use Rattle.zone.specs.Work.{Zone, more_masters, with_master, work, strip, page_work}
use Rattle.zone.proofs.WithMaster.{with-long}

-- u is the zone after the call: an allocation has taken one free handle at most, and no other call any
pub data Starts (z u : Zone) : Call → Type 0 where
  with-handle : (c : ℕ) → length z.chain ≤ length u.chain + 1 → Starts z u (allocate_relocatable c)
  as_it_is : {c : Call} → length z.chain ≤ length u.chain → Starts z u c

pub strip-chain : (n : ℕ) (z : Zone) → (strip n z).next.chain ≡ z.chain
strip-chain n z = cond-one (λ (o : Out (List Cell)). o.next.chain) (eqb n 0) refl refl

pub page-chain : (n : ℕ) (p : PageCall) (z : Zone) → (page_work n p z).next.chain ≡ z.chain
page-chain n (create_page c) z = refl
page-chain n use_page z = refl
page-chain n (mark_page m) z = refl
page-chain n drop_page z = refl

abbrev pub starts : (c : Call) (z : Zone) → Starts z (work c z).next c
starts (allocate_relocatable c) z = with-handle c (omega (arith, with-long z, length-drop 1 (with_master z).chain))
starts (allocate_fixed c) z = as_it_is (omega arith)
starts (free_handle h) z = as_it_is (omega arith)
starts (free_pointer p) z = as_it_is (omega arith)
starts (resize h c) z = as_it_is (omega arith)
starts (size t) z = as_it_is (omega arith)
starts (read t i n second) z = as_it_is (omega arith)
starts (write t i n second) z = as_it_is (omega arith)
starts (view t i n) z = as_it_is (omega arith)
starts compact z = as_it_is (omega arith)
starts sums z = as_it_is (omega arith)
starts check z = as_it_is (omega arith)
starts length_of z = as_it_is (omega arith)
starts (enlarge k) z = as_it_is (omega arith)
starts (shrink k) z = as_it_is (omega (arith, ap length (strip-chain (min (k / 4 * 4) (bay_sum (last_s z.bays))) z)))
starts (roster second) z = as_it_is (omega arith)
starts (on_page n p) z = as_it_is (omega (arith, ap length (page-chain n p z)))

-- what the work starts from
abbrev pub from : {z u : Zone} {c : Call} → Starts z u c → Zone
from {z} (with-handle c l) = with_master z
from {z} (as_it_is l) = z

abbrev pub entered : Call → Zone → Zone
entered c z = from (starts c z)

pub from-buffer : {z u : Zone} {c : Call} (s : Starts z u c) → (from s).buf ≡ z.buf
from-buffer {z} (with-handle c l) = cond-one (λ (v : Zone). v.buf) (is_empty z.chain) refl refl
from-buffer (as_it_is l) = refl

-- where the call is no allocation, or a handle is free
pub from-as-it-is : {z u : Zone} {c : Call} (s : Starts z u c) → ((k : ℕ) → c ≡ allocate_relocatable k → z.chain ≡ [] → ⊥) → from s ≡ z
from-as-it-is {z} (with-handle c l) f = go z.chain refl
  where
    go : (hs : List ℕ) → z.chain ≡ hs → cond (is_empty hs) (more_masters z) z ≡ z
    go [] q = absurd (f c refl q)
    go (h ∷ hs) q = refl
from-as-it-is (as_it_is l) f = refl

pub leaves : {z u : Zone} {c : Call} → Starts z u c → length z.chain ≤ length u.chain + 1
leaves (with-handle c l) = l
leaves (as_it_is l) = omega arith

pub leaves_all : {z u : Zone} {c : Call} → Starts z u c → ((k : ℕ) → c ≡ allocate_relocatable k → ⊥) → length z.chain ≤ length u.chain
leaves_all (with-handle c l) f = absurd (f c refl)
leaves_all (as_it_is l) f = l
