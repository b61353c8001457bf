-- What the call answers.
use mathlib.Core.Path.{◌≡◌, ap, ap₂, sym, ◌∙◌}
use mathlib.Core.List.{List, ◌++◌}
use Prim.Native.Nat.{ℕ, ◌*◌, ◌/◌, ◌≤◌, ◌<◌}
use native.Mathlib.Omega.{arith}
use native.Mathlib.Nat.{zero-add}
use borrow.Author.Tests.{le-leb, lt-leb}
use lib.ListN.{length, get_or, take, drop}
use mir.Val.{Fits}
use mir.Syntax.{w8, w32}
use Rattle.std.specs.Prelude.{true}
use Rattle.block_type.specs.Limits.{record_size}
use Rattle.bigendian.specs.BigEndian.{overwrite, Bytes}
use Rattle.format.specs.WellFormed.{well_formed, count_of}
use Rattle.calls.specs.Calls.{roster, told_with}
use Rattle.calls.specs.Roster.{Card, card_bytes, rostered}
use Rattle.zone_check.specs.Checked.{IsChecked}
use Rattle.zone_check.specs.declared.Checked.{Checked}
use Rattle.zone.specs.Call.{call, zone_in}
use Rattle.zone.specs.Work.{cards}
use Rattle.tell.proofs.CheckLaws.{count-live, count-few}
use Rattle.tell.specs.roster.Listed.{all_cards}
use Rattle.tell.proofs.roster.Order.{zone-is, all-cards, how-many}
use Rattle.calls.proofs.Roster.{length-bytes}
use Rattle.structure.specs.IsZone.{IsZone}

module _ (s : List ℕ) (y : Bytes s) (h : well_formed s ≡ true) where
  -- the answer where the second buffer is long enough, and where it is not
  pub accepted : (entry : List ℕ) → record_size * count_of s ≤ length entry → (call (roster entry) s).answer ≡ rostered (cards (zone_in s)) entry
  accepted entry l = rw (h, ← count-live s y h, le-leb (record_size * count_of s) (length entry) l)

  pub refused_too_short : (entry : List ℕ) → length entry < record_size * count_of s → (call (roster entry) s).answer ≡ told_with 10 0 entry
  refused_too_short entry l = rw (h, ← count-live s y h, lt-leb (record_size * count_of s) (length entry) l)

from_start : (s b : List ℕ) → overwrite s 0 b ≡ b ++ drop (length b) s
from_start s b = rw zero-add

pub roster-zone : (s : List ℕ) (k : Checked) → IsChecked 0 s k → ((j : ℕ) → Fits w8 (get_or s j 0)) → IsZone (take k.len s)
roster-zone s k i y = rw i.is_len (zone-is s (λ j. (y j).fits) i.well)

module _ (s entry : List ℕ) where
  module _ (k : Checked) (i : IsChecked 0 s k) (y : (j : ℕ) → Fits w8 (get_or s j 0)) where
    pub count_word : Fits w32 k.count
    count_word = record { fits = omega (arith, count-few s (λ j. (y j).fits) i.well, i.is_count) }

    pub roster-short : length entry / record_size < k.count → told_with 10 0 entry ≡ (call (roster entry) s).answer
    roster-short l = sym (refused_too_short s (λ j. (y j).fits) i.well entry (omega (arith, i.is_count)))

    module _ (l : k.count ≤ length entry / record_size) where
      pub roster-room : record_size * length (all_cards (take k.len s)) ≤ length entry
      roster-room = rw i.is_len (omega (arith, ap length (all-cards s (λ j. (y j).fits) i.well), how-many s (λ j. (y j).fits) i.well, i.is_count))

      pub roster-done : (out : List ℕ) → out ≡ overwrite entry 0 (card_bytes (all_cards (take k.len s))) → told_with 0 k.count out ≡ (call (roster entry) s).answer
      roster-done out e =
          let b : Bytes s = λ j. (y j).fits in
          let cs : List Card = cards (zone_in s) in
          let there : out ≡ overwrite entry 0 (card_bytes cs) = (rw i.is_len at e) ∙ ap (λ (c : List Card). overwrite entry 0 (card_bytes c)) (all-cards s b i.well) in
          ap₂ (told_with 0) (i.is_count ∙ sym (how-many s b i.well)) (there ∙ from_start entry (card_bytes cs) ∙ ap (λ (j : ℕ). card_bytes cs ++ drop j entry) (length-bytes cs))
          ∙ sym (accepted s b i.well entry (omega (arith, i.is_count)))
