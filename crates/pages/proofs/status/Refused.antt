-- The calls on a page whose only cause of refusal, in a well-formed zone, is that no page has the name.
use Rattle.std.proofs.Common.{◌≡◌, ℕ, Bool, true, false, List, [], ◌∷◌, sym, refl, ap, ◌∙◌, ne_eqb}
use Rattle.format.specs.WellFormed.{well_formed, zone_of}
use Rattle.structure.specs.Structure.{decode}
use Rattle.calls.specs.Calls.{Mark, PageCall, use_page, mark_page, by_name, told, on_page}
use Rattle.calls.specs.Table.{Facts, page_causes, page_value, no_block, not_well_formed, first, order}
use Rattle.zone.specs.Work.{facts}
use Rattle.zone.specs.Call.{zone_in, number_of, result_of, call_with, call}
use Rattle.std.proofs.Common.{arith}
use Rattle.std.specs.Prelude.{Result, Ok, Err}
use Rattle.std.specs.Result.{IsErrAnd}
use Rattle.calls.specs.Refusals.{code_of, answer_by}
use Rattle.calls.specs.declared.Refusal.{Refusal}
use Rattle.calls.specs.declared.Refusal.TheVariants.{NotWellFormed, NameAbsent}
use Rattle.access.specs.locate.Found.{IsLost, ill_formed, absent}
use Rattle.pages.proofs.Page.{number-gone}

-- a call whose only cause is that there is no such page
pub record Plain (n : ℕ) (c : PageCall) : Type 0 where
  pub causes : (f : Facts) → page_causes n c f ≡ no_block (by_name n) f ∷ []
  pub value : (k : ℕ) (f : Facts) → page_value k c f ≡ 0

pub plain-use : (n : ℕ) → Plain n use_page
plain-use n = record { causes = λ f. refl; value = λ k f. refl }

pub plain-mark : (n : ℕ) (m : Mark) → Plain n (mark_page m)
plain-mark n m = record { causes = λ f. refl; value = λ k f. refl }

module _ (s : List ℕ) (n : ℕ) (c : PageCall) (p : Plain n c) where
  abbrev pub number : Bool → ℕ
  number t = first order (not_well_formed (facts t (zone_in s)) ∷ no_block (by_name n) (facts t (zone_in s)) ∷ [])

  pub number_is : (t : Bool) → well_formed s ≡ t → number_of (on_page n c) s ≡ number t
  number_is t e =
      ap (λ (u : Bool). first order (not_well_formed (facts u (zone_in s)) ∷ page_causes n c (facts u (zone_in s)))) e
      ∙ ap (λ cs. first order (not_well_formed (facts t (zone_in s)) ∷ cs)) (p.causes (facts t (zone_in s)))

  refused-with : (e : Refusal) → (code_of e ≡ 0 → ⊥) → number_of (on_page n c) s ≡ code_of e → result_of (told (code_of e) 0) s ≡ call (on_page n c) s
  refused-with d ne e =
      ap (λ (v : ℕ). result_of (told (code_of d) v) s) (sym (p.value (code_of d) (facts (well_formed s) (zone_in s))))
      ∙ sym (ap (λ (j : ℕ). call_with j (on_page n c) s) e ∙ rw (ne_eqb (code_of d) 0 ne))

  -- whether a value stands beside other refusals (g) or not
  pub refuses : {T : Type 0} (f : T → ℕ) (g : Refusal → ℕ) → g NotWellFormed ≡ 0 → g NameAbsent ≡ 0 → (r : Result T Refusal) (d : Refusal) → IsErrAnd r (λ y. y ≡ d) → IsLost s (by_name n) d
      → result_of (answer_by f g [] r) s ≡ call (on_page n c) s
  unfolding decode
  refuses f g a b (Ok v) d k x = absurd k
  refuses f g a b (Err e) d k (ill_formed y i) = let q : e ≡ d = k in rw (q, i.refusal_is, a) (refused-with NotWellFormed (λ z. omega arith) (number_is false i.ill))
  refuses f g a b (Err e) d k (absent y wf t i) = let q : e ≡ d = k in rw (q, i, b) (refused-with NameAbsent (λ z. omega arith) (number_is true wf ∙ number-gone (zone_of s) n t))
