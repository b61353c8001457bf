-- What the search answers, in the words of the table.
use Rattle.std.proofs.Common.{◌≡◌, ℕ, ◌%◌, ◌<◌, ◌≤◌, Bool, true, false, cond, not, ltb, leb, List, sym, refl, ap, ◌∙◌, ap₂, arith, le-ltb, lt-ltb, le-leb}
use mathlib.Core.Option.{Option, none, some, get_or}
use borrow.Author.Tests.{lt-leb}
use Rattle.block_type.specs.Limits.{argument_range}
use Rattle.format.specs.WellFormed.{first_field, clock_field}
use Rattle.kinds.specs.Kinds.{Item, has_name}
use Rattle.calls.specs.Bays.{Bays, concat_s, max_s}
use Rattle.calls.specs.State.{Fixed}
use Rattle.calls.specs.Pages.{unlocked, first_dirty, sum_without, dropping}
use Rattle.calls.proofs.Pages.{Of, of-here, of-there}
use Rattle.bay.specs.Bay.{Cell, items, bay_sum}
use Rattle.structure.specs.Structure.{len, decode_zone}
use Rattle.structure.specs.IsZone.{IsZone}
use Rattle.structure.proofs.IsZone.{whole_of}
use Rattle.structure.proofs.Sound.{valid-zone}
use Rattle.zone.proofs.Grouped.{whole-bays}
use Rattle.zone.proofs.Clean.{Every, e-last, e-more, Items, i-cons, items-append, ItemOk, FixedOk, BayOk}
use Rattle.zone.specs.Work.{facts}
use Rattle.zone.proofs.Dropping.{many-flat}
use Rattle.zone.proofs.PageRelease.{sum-none}
use Rattle.bays.specs.Places.{bays_of, bays_at}
use Rattle.bays.proofs.Zone.{zone-bays}
use Rattle.turn.specs.Rank.{rank_range, goes, least_dirty}
use Rattle.turn.specs.Limit.{sum_below, Weighed, Least, Between}
use Rattle.turn.specs.Turn.{number_by, turn_number, bayed, InTurn}
use Rattle.turn.proofs.search.Halves.{halve-start}
use Rattle.turn.proofs.Ranks.{Named}
use Rattle.turn.proofs.Law.{none-goes, without_more, without_all, dropping-released, dropping-dirty}

-- ---- the pages of a zone

every_items : {s : Bays (List Cell) Fixed} → Every BayOk FixedOk s → Items ItemOk (concat_s items s)
every_items (e-last i) = i
every_items (e-more i q r) = items-append i (every_items r)

items_of : {P : Item → Type 0} {es : List Item} {e : Item} → Items P es → Of e es → P e
items_of (i-cons p i) of-here = p
items_of (i-cons p i) (of-there o) = items_of i o
items_of {P = P} {e = e} Rattle.zone.proofs.Clean.i-nil x3 = elim x3 [ ]

zone-named : (z : List ℕ) → IsZone z → Named (concat_s items (bays_of (decode_zone z)))
zone-named z i =
    let s = decode_zone z in
    let w = whole-bays (len s) s (valid-zone z (whole_of z i)) (omega arith) in
    record { fits = λ e o. (items_of (every_items w.clean.clean) o).written.1; once = λ n. omega (arith, w.apart.apart n, many-flat (has_name n) items (bays_of s)) }

-- ---- a walk over a zone's blocks is one over its bays

pub weighed-all : (z : List ℕ) (i : IsZone z) (ck t sum under over : ℕ) → Weighed ck t (bays_at z (first_field z)) sum under over → Weighed ck t (bays_of (decode_zone z)) sum under over
weighed-all z i ck t sum under over w = rw (← (zone-bays z i (first_field z) refl).bays) w

pub dirty-all : (z : List ℕ) (i : IsZone z) (ck r : ℕ) → r ≡ least_dirty ck (concat_s items (bays_at z (first_field z))) → r ≡ least_dirty ck (concat_s items (bays_of (decode_zone z)))
dirty-all z i ck r e = rw (← (zone-bays z i (first_field z) refl).bays) e

-- ---- the search

module _ (z : List ℕ) (need ck : ℕ) (i : IsZone z) (ec : ck ≡ clock_field z) where
  abbrev bays : Bays (List Cell) Fixed
  bays = bays_of (decode_zone z)

  abbrev clock : ℕ
  clock = (decode_zone z).clock

  clock-is : ck ≡ clock
  unfolding decode_zone
  clock-is = ec

  sum_is : (t : ℕ) → sum_below ck t bays ≡ sum_below clock t bays
  sum_is t = ap (λ (c : ℕ). sum_below c t bays) clock-is

  -- with the limit 0 no page goes
  none-gone : sum_below ck 0 bays ≡ max_s bay_sum bays
  none-gone = sum_is 0 ∙ sum-none (goes clock 0) (none-goes clock) bays

  emptied : sum_below clock rank_range bays ≡ sum_without items bay_sum unlocked bays
  emptied = without_all items bay_sum clock bays (zone-named z i)

  pub turn-starts : (r under over : ℕ) → max_s bay_sum (bays_of (decode_zone z)) < need → Weighed ck rank_range (bays_of (decode_zone z)) r under over → need ≤ r → Between ck need 1 under (bays_of (decode_zone z))
  turn-starts r under over l w m = halve-start ck need bays r under over (omega (arith, none-gone)) w m

  pub turn-five : (r under over : ℕ) → Weighed ck rank_range (bays_of (decode_zone z)) r under over → r < need → InTurn z need 5 0 0
  turn-five r under over w l = record {
    number_is = sym (ap (λ (b : Bool). number_by (not b) (first_dirty (dropping items bay_sum need (bayed z))))
        (lt-leb need (sum_without items bay_sum unlocked bays) (omega (arith, w.sum_is, sum_is rank_range, emptied))));
    name_is = refl;
    least = λ q. absurd (omega arith);
    gone = λ q. absurd (omega arith);
  }

  module _ (t d : ℕ) (l : Least ck need t (bays_of (decode_zone z))) (ed : d ≡ least_dirty ck (concat_s items (bays_of (decode_zone z)))) where
    least : Least clock need t bays
    least = record { enough = omega (arith, l.enough, sum_is t); less = λ u v. omega (arith, l.less u v, sum_is u); top = l.top }

    does : leb need (sum_without items bay_sum unlocked bays) ≡ true
    does = le-leb need (sum_without items bay_sum unlocked bays) (omega (arith, least.enough, without_more items bay_sum clock t rank_range l.top bays, emptied))

    dirty-is : d ≡ least_dirty clock (concat_s items bays)
    dirty-is = ed ∙ ap (λ (c : ℕ). least_dirty c (concat_s items bays)) clock-is

    stop_is : first_dirty (dropping items bay_sum need (bayed z)) ≡ cond (ltb d t) (some (d % argument_range)) none
    stop_is = rw dirty-is (dropping-dirty need t (bayed z) (zone-named z i) least)

    number_of : (o : Option ℕ) → first_dirty (dropping items bay_sum need (bayed z)) ≡ o → turn_number need (facts true (bayed z)) ≡ number_by false o
    number_of o e = ap₂ (λ (b : Bool) (x : Option ℕ). number_by (not b) x) does e

    pub turn-twelve : (v : ℕ) → d < t → v ≡ d % argument_range → InTurn z need 12 v 0
    turn-twelve v m ev =
        let e : first_dirty (dropping items bay_sum need (bayed z)) ≡ some (d % argument_range) = stop_is ∙ ap (λ (b : Bool). cond b (some (d % argument_range)) none) (lt-ltb d t m) in
        record { number_is = sym (number_of (some (d % argument_range)) e); name_is = ev ∙ sym (ap (λ (o : Option ℕ). get_or o 0) e); least = λ q. absurd (omega arith); gone = λ q. absurd (omega arith) }

    pub turn-found : t ≤ d → InTurn z need 0 0 t
    turn-found m =
        let e : first_dirty (dropping items bay_sum need (bayed z)) ≡ none = stop_is ∙ ap (λ (b : Bool). cond b (some (d % argument_range)) none) (le-ltb d t m) in
        record { number_is = sym (number_of none e); name_is = refl; least = λ q. least; gone = λ q. dropping-released need t (bayed z) (zone-named z i) least }

-- ---- no page has to go

pub turn-free : (z : List ℕ) (need : ℕ) → IsZone z → need ≤ max_s bay_sum (bays_of (decode_zone z)) → InTurn z need 0 0 0
turn-free z need i l =
    let ck = clock_field z in
    turn-found z need ck i refl 0 (least_dirty ck (concat_s items (bays_of (decode_zone z))))
    (record { enough = omega (arith, none-gone z need ck i refl); less = λ u v. absurd (omega arith); top = omega arith }) refl (omega arith)
