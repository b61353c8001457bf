-- From what a call's plan answers to the call's own answer, once for all calls.
use mathlib.Core.Path.{◌≡◌, refl, sym, ap, ◌∙◌}
use mathlib.Core.Bool.{true, false}
use mathlib.Core.List.{List, [], ◌++◌}
use Prim.Native.Nat.{ℕ, ◌+◌}
use native.Mathlib.Omega.{arith}
use mir.Val.{Fits}
use mir.Syntax.{w8}
use borrow.Author.Tests.{ne_eqb}
use lib.ListN.{length, get_or, take, drop, replicate}
use Rattle.std.specs.Prelude.{Result, Ok, Err}
use Rattle.std.specs.Result.{IsErrAnd}
use Rattle.format.specs.WellFormed.{well_formed}
use Rattle.structure.specs.Structure.{Structure, len, encode, decode, decode_zone}
use Rattle.calls.specs.Calls.{Call, Answer, told, refused, beside, Given}
use Rattle.calls.specs.Table.{Facts, refusal_of, refusal_value}
use Rattle.calls.specs.Refusals.{code_of, beside_of, answer_by}
use Rattle.calls.specs.declared.Refusal.{Refusal}
use Rattle.calls.specs.declared.Refusal.TheVariants.{NotWellFormed, BadInitialize, TooLarge, NoFreeHandle, NoSpace, HandleNotLive, PointerNotFixed, PastBlockEnd, BadEnlarge, ShortBuffer, NamePresent, DirtyPage, NameAbsent, BadLimits}
use Rattle.zone.specs.Work.{facts, work}
use Rattle.zone.specs.Call.{zone_in, result_of, number_of, call_with, call}
use Rattle.access.specs.Checked.{HasZone, IsIll, Opened}
use Rattle.access.specs.declared.opened.Zone.{Zone}
use Rattle.call_laws.specs.Frame.{zone_at, Does}
use Rattle.call_laws.specs.Refused.{Refuses}
pub use Rattle.call_laws.proofs.Frame.{zone-done, zone-grown, zone-cut, zone-same}

code-some : (e : Refusal) → code_of e ≡ 0 → ⊥
code-some NotWellFormed q = omega arith
code-some BadInitialize q = omega arith
code-some TooLarge q = omega arith
code-some NoFreeHandle q = omega arith
code-some NoSpace q = omega arith
code-some HandleNotLive q = omega arith
code-some PointerNotFixed q = omega arith
code-some PastBlockEnd q = omega arith
code-some BadEnlarge q = omega arith
code-some ShortBuffer q = omega arith
code-some NamePresent q = omega arith
code-some (DirtyPage n) q = omega arith
code-some NameAbsent q = omega arith
code-some BadLimits q = omega arith

zone-is : (s : List ℕ) (l : ℕ) → HasZone s l → zone_in s ≡ zone_at (length s) (take l s)
unfolding decode
zone-is s l h = ap (λ (k : ℕ). zone_at (length s) (take k s)) (sym h.is_len)

-- ---- the call is refused: r is its result, and d what its plan, or the check, refused it with

module _ (c : Call) (s : List ℕ) (plain : (n v : ℕ) → refused c n v ≡ told n v) where
  left : (e : Refusal) (v : ℕ) → number_of c s ≡ code_of e → refusal_value (code_of e) c (facts (well_formed s) (zone_in s)) ≡ v → result_of (told (code_of e) v) s ≡ call c s
  left e v n q =
      ap (λ (a : Answer). result_of a s) (ap (told (code_of e)) (sym q) ∙ sym (plain (code_of e) _))
      ∙ sym (ap (λ (k : ℕ). call_with k c s) n ∙ rw (ne_eqb (code_of e) 0 (code-some e)))

  module _ {T : Type 0} (f : T → ℕ) (g : Refusal → ℕ) (d : Refusal) where
    answered : result_of (told (code_of d) (g d)) s ≡ call c s → (r : Result T Refusal) → IsErrAnd r (λ y. y ≡ d) → result_of (answer_by f g [] r) s ≡ call c s
    answered q (Ok v) k = absurd k
    answered q (Err e) k = let o : e ≡ d = k in rw o q

    ill : refusal_of c (facts false (zone_in s)) ≡ 1 → refusal_value 1 c (facts false (zone_in s)) ≡ 0 → g NotWellFormed ≡ 0 → (r : Result T Refusal) → IsErrAnd r (λ y. y ≡ d) → IsIll s d → result_of (answer_by f g [] r) s ≡ call c s
    ill n v z r k i =
        answered (rw i.refusal_is (rw z (left NotWellFormed 0 (rw i.ill n) (rw i.ill v)))) r k

    inside : (l : ℕ) → HasZone s l → (r : Result T Refusal) → IsErrAnd r (λ y. y ≡ d) → refusal_of c (facts true (zone_at (length s) (take l s))) ≡ code_of d → refusal_value (code_of d) c (facts true (zone_at (length s) (take l s))) ≡ g d
        → result_of (answer_by f g [] r) s ≡ call c s
    inside l h r k n v =
        let z = zone-is s l h in
        answered (left d (g d) ((λ j. refusal_of c (facts (h.well j) (z j))) ∙ n) ((λ j. refusal_value (code_of d) c (facts (h.well j) (z j))) ∙ v)) r k

  -- a call with a value
  module _ {T : Type 0} (f : T → ℕ) (d : Refusal) where
    -- the buffer holds no zone
    pub refused-ill : refusal_of c (facts false (zone_in s)) ≡ 1 → refusal_value 1 c (facts false (zone_in s)) ≡ 0 → (r : Result T Refusal) → IsErrAnd r (λ y. y ≡ d) → IsIll s d → result_of (answer_by f beside_of [] r) s ≡ call c s
    refused-ill n v r k i = ill f beside_of d n v refl r k i

    -- its zone refuses the call
    pub refused-in : (l : ℕ) → HasZone s l → (r : Result T Refusal) → IsErrAnd r (λ y. y ≡ d) → Refuses c (take l s) d → result_of (answer_by f beside_of [] r) s ≡ call c s
    refused-in l h r k i = inside f beside_of d l h r k (i.number_is (length s)) (i.beside_is (length s))

    -- the same of a zone that has been opened
    pub refused-opened : (z : Zone) → Opened s z → (r : Result T Refusal) → IsErrAnd r (λ y. y ≡ d) → Refuses c z.bytes.now d → result_of (answer_by f beside_of [] r) s ≡ call c s
    refused-opened z o r k i = refused-in (length z.bytes.now) o.has_zone r k (rw o.there i)

  -- one with none
  module _ {T : Type 0} (d : Refusal) (alone : (k : ℕ) (x : Facts) → refusal_value k c x ≡ 0) where
    pub done-ill : refusal_of c (facts false (zone_in s)) ≡ 1 → (r : Result T Refusal) → IsErrAnd r (λ y. y ≡ d) → IsIll s d → result_of (answer_by (λ _. 0) (λ _. 0) [] r) s ≡ call c s
    done-ill n r k i = ill (λ _. 0) (λ _. 0) d n (alone 1 _) refl r k i

    pub done-in : (l : ℕ) → HasZone s l → (r : Result T Refusal) → IsErrAnd r (λ y. y ≡ d) → Refuses c (take l s) d → result_of (answer_by (λ _. 0) (λ _. 0) [] r) s ≡ call c s
    done-in l h r k i = inside (λ _. 0) (λ _. 0) d l h r k (i.number_is (length s)) (alone (code_of d) _)

    pub done-opened : (z : Zone) → Opened s z → (r : Result T Refusal) → IsErrAnd r (λ y. y ≡ d) → Refuses c z.bytes.now d → result_of (answer_by (λ _. 0) (λ _. 0) [] r) s ≡ call c s
    done-opened z o r k i = done-in (length z.bytes.now) o.has_zone r k (rw o.there i)

  -- one with none, which its zone refuses in this buffer
  pub done-here : (d : Refusal) → ((k : ℕ) (x : Facts) → refusal_value k c x ≡ 0) → (l : ℕ) → HasZone s l → refusal_of c (facts true (zone_at (length s) (take l s))) ≡ code_of d → result_of (told (code_of d) 0) s ≡ call c s
  done-here d alone l h n = inside (λ (v : ℕ). 0) (λ _. 0) d l h (Err d) refl n (alone (code_of d) _)

-- ---- it is done

-- in a zone that has been opened
pub zone-opened : (c : Call) (s : List ℕ) (z : Zone) → Opened s z → ((i : ℕ) → Fits w8 (get_or s i 0)) → {a : Answer} {u : Structure} → Does c (length s) z.bytes.now a u → Given (beside c)
    → (work c (zone_at (length s) z.bytes.now)).next.len ≡ len (decode_zone z.bytes.now) → (y : List ℕ) → y ≡ encode u → result_of a (y ++ drop (length z.bytes.now) s) ≡ call c s
zone-opened c s z o g d b w y q = zone-done c s (length z.bytes.now) o.has_zone g (rw o.there d) b (rw o.there w) y q
