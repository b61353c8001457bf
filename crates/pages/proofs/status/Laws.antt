-- The laws that the proofs of the functions cite.
use Rattle.std.proofs.Common.{◌≡◌, ℕ, ◌-◌, ◌<◌, ◌≤◌, List, length, set, sym, refl, ap, ◌∙◌, subst, ap₂, arith, w32, Fits}
use Rattle.block_type.specs.Limits.{clock_at, stamp_range}
use Rattle.bigendian.specs.BigEndian.{from_be, to_be, slice, overwrite}
use Rattle.bigendian.proofs.Laws.{length-to_be}
use Rattle.bigendian.proofs.Overwrite.{len-write}
use Rattle.format.specs.WellFormed.{zone_of, clock_field}
use Rattle.kinds.specs.Kinds.{Status}
use Rattle.structure.specs.Structure.{decode}
use Rattle.calls.specs.Calls.{Mark, use_page, mark_page, by_name, told, on_page}
use Rattle.calls.specs.Pages.{tick, stamped, marked}
use Rattle.zone.specs.Call.{result_of, call}
use Rattle.std.specs.Prelude.{Result, []}
use Rattle.std.specs.Result.{IsErrAnd}
use Rattle.calls.specs.Refusals.{beside_of, answer_by, done_of}
use Rattle.calls.specs.declared.Refusal.{Refusal}
use Rattle.access.specs.locate.Locate.{target_place}
use Rattle.access.specs.locate.Found.{IsFound, IsLost}
use Rattle.access.specs.declared.locate.Span.{Span}
use Rattle.access.proofs.Checked as Checked
use Rattle.access.proofs.locate.Data.{found-small}
use Rattle.pages.specs.status.Status.{status_length, word_before, Reworded}
use Rattle.pages.proofs.status.Words.{mark-stamp}
use Rattle.pages.proofs.status.Refused.{plain-use, plain-mark, refuses}
use Rattle.pages.proofs.status.There.{low, fits, passes, marks, uses, clock-is, value_is}

module _ (s : List ℕ) (n : ℕ) where
  pub use-no : {T : Type 0} (f : T → ℕ) (r : Result T Refusal) (d : Refusal) → IsErrAnd r (λ y. y ≡ d) → IsLost s (by_name n) d → result_of (answer_by f beside_of [] r) s ≡ call (on_page n use_page) s
  use-no f r d k x = refuses s n use_page (plain-use n) f beside_of refl refl r d k x

  pub mark-no : (m : Mark) {T : Type 0} (r : Result T Refusal) (d : Refusal) → IsErrAnd r (λ y. y ≡ d) → IsLost s (by_name n) d → result_of (done_of r) s ≡ call (on_page n (mark_page m)) s
  mark-no m r d k x = refuses s n (mark_page m) (plain-mark n m) (λ _. 0) (λ _. 0) refl refl r d k x

  module _ (page : Span) (f : IsFound s (by_name n) page) where
    live : target_place (by_name n) (zone_of s) ≡ 0 → ⊥
    live q = f.some (f.at_is ∙ q)

    pub at_low : status_length ≤ page.at
    at_low = omega (arith, low s n f.bytes f.well live, f.at_is)

    pub page_in : page.at ≤ length s
    page_in = omega (arith, at_low, fits s n f.bytes f.well live, f.at_is)

    module _ (r : ℕ) where
      -- the word, with its place said otherwise
      read-it : word_before s page.at ≡ from_be (slice s (target_place (by_name n) (zone_of s) - status_length) 2)
      read-it = ap (λ (k : ℕ). from_be (slice s (k - status_length) 2)) f.at_is

      pub mark-done : (m : Mark) → Reworded (marked m) (word_before s page.at) r → (x : List ℕ) → x ≡ overwrite s (page.at - status_length) (to_be 2 r) → result_of (told 0 0) x ≡ call (on_page n (mark_page m)) s
      mark-done m q x e =
          ap (result_of (told 0 0))
          (e ∙ ap (λ (k : ℕ). overwrite s (k - status_length) (to_be 2 r)) f.at_is
          ∙ sym (marks s n f.bytes f.well live (marked m) (mark-stamp m) (word_before s page.at) r read-it q))
          ∙ sym (passes s n f.bytes f.well live (mark_page m) (plain-mark n m))

      pub use-done : (ck : ℕ) → ck ≡ tick (clock_field s) → Reworded (stamped ck) (word_before s page.at) r → (x : List ℕ) → x ≡ overwrite s (page.at - status_length) (to_be 2 r)
          → result_of (told 0 page.at) (set x clock_at ck) ≡ call (on_page n use_page) s
      use-done ck ec q x e =
          let tk : ℕ = tick (decode s).clock in
          let k : ck ≡ tk = ec ∙ ap tick (sym (clock-is s n f.bytes f.well live)) in
          let keep : (st : Status) → st.stamp < stamp_range → (stamped tk st).stamp < stamp_range = λ st l. omega arith in
          ap₂ (λ (a : ℕ) (b : List ℕ). result_of (told 0 a) b)
          (f.at_is ∙ sym (value_is s n f.bytes f.well live (stamped tk) keep))
          (ap₂ (λ (u : List ℕ) (c : ℕ). set u clock_at c) (e ∙ ap (λ (k : ℕ). overwrite s (k - status_length) (to_be 2 r)) f.at_is) k
          ∙ sym (uses s n f.bytes f.well live (stamped tk) keep (word_before s page.at) r read-it (subst (λ (c : ℕ). Reworded (stamped c) (word_before s page.at) r) k q) tk))
          ∙ sym (passes s n f.bytes f.well live use_page (plain-use n))

    -- the clock's byte is there, before the status is written and after
    pub clock-in : clock_at < length s
    clock-in = omega (arith, (Checked.fields-of s f.well).long)

    pub clock-left : (r : ℕ) (x : List ℕ) → x ≡ overwrite s (page.at - status_length) (to_be 2 r) → clock_at < length x
    clock-left r x e = omega (arith, clock-in, len-write s (to_be 2 r) x (page.at - status_length) e (omega (arith, at_low, page_in, length-to_be 2 r)))

    pub at-word : Fits w32 page.at
    at-word = record { fits = omega (arith, (found-small s (by_name n) page f).0) }
