-- A call on a well-formed buffer: the equations that a call's proof ends with, and what stands in the buffer after it.
use mathlib.Core.Path.{◌≡◌, refl, sym, ap, ◌∙◌}
use mathlib.Core.Bool.{true, cond}
use mathlib.Core.List.{List, ◌++◌}
use Prim.Native.Nat.{ℕ, zero, suc, ◌-◌, max}
use native.Mathlib.Omega.{arith}
use lib.ListN.{drop, replicate}
use lib.Dec.{eqb, eqb-suc-zero}
use Rattle.bigendian.specs.BigEndian.{Bytes}
use Rattle.format.specs.WellFormed.{well_formed, length_field}
use Rattle.structure.specs.Structure.{Structure, start, len, encode, decode}
use Rattle.calls.specs.Calls.{Call, beside, Given, refused, told}
use Rattle.calls.specs.State.{Out, says}
use Rattle.calls.specs.Table.{refusal_of, refusal_value}
use Rattle.bay.specs.Bay.{Cell}
use Rattle.zone.specs.Work.{Zone, facts, work}
use Rattle.zone.specs.Group.{group}
use Rattle.zone.specs.Call.{in_line, zone_in, result_of, replacing, outcome, call}
use Rattle.zone.proofs.Keep.{Whole, len-line}
use Rattle.zone.proofs.Grouped.{work-whole, work-buffer}
use Rattle.zone.proofs.Run.{Stored, stored-well, stored-decode, stored-bays, stored-after, number_is, well-whole, well-stored, beyond}

-- ---- a call on a zone: refused by the table, or its work; n is the refusal number

abbrev pub step_as : ℕ → Call → Zone → Out (List Cell)
step_as n c z = cond (eqb n 0) (work c z) (says (refused c n (refusal_value n c (facts true z))) z)

abbrev pub step : Call → Zone → Out (List Cell)
step c z = step_as (refusal_of c (facts true z)) c z

-- nothing refuses it
pub step-work : (c : Call) (z : Zone) → refusal_of c (facts true z) ≡ 0 → step c z ≡ work c z
step-work c z e = ap (λ (n : ℕ). step_as n c z) e

-- what is known of a zone after a call, refused or not
module _ (c : Call) (f : Given (beside c)) (z : Zone) (w : Whole z) where
  step-whole : Whole (step c z).next
  step-whole = go (refusal_of c (facts true z)) refl
    where
      go : (n : ℕ) → refusal_of c (facts true z) ≡ n → Whole (step_as n c z).next
      go zero e = work-whole c z f w e
      go (suc n) e = rw (eqb-suc-zero n) w

  step-buffer : (step c z).next.buf ≡ z.buf
  step-buffer = go (refusal_of c (facts true z)) refl
    where
      go : (n : ℕ) → refusal_of c (facts true z) ≡ n → (step_as n c z).next.buf ≡ z.buf
      go zero e = work-buffer c z f w e
      go (suc n) e = rw (eqb-suc-zero n)

-- a call on the bytes of a zone
none_between : (s : List ℕ) (n k : ℕ) → k ≡ n → replicate (n - k) 0 ++ drop (max n k) s ≡ drop n s
none_between s n k e = let a : n - k ≡ 0 = omega arith in let b : max n k ≡ n = omega arith in rw (a, b)

module _ (s : List ℕ) (z : Zone) (w : Whole z) (t : Stored s z) where
  same-stored : replacing s (in_line z) (in_line z) ≡ s
  same-stored = ap (encode (in_line z) ++◌) (none_between s (len (in_line z)) (len (in_line z)) refl ∙ ap (λ (n : ℕ). drop n s) (len-line z w)) ∙ sym t.split

  call_step : (c : Call) → call c s ≡ outcome s (in_line z) (step c z)
  call_step c =
      (λ i. cond (eqb (number_is s z w t c i) 0) (cond (stored-well s z w t i) (outcome s (stored-decode s z w t i) (work c (stored-bays s z w t i))) (result_of (told 0 0) s)) (result_of (refused c (number_is s z w t c i) (refusal_value (number_is s z w t c i) c (facts (stored-well s z w t i) (stored-bays s z w t i)))) s))
      ∙ go (refusal_of c (facts true z))
    where
      go : (n : ℕ) → cond (eqb n 0) (outcome s (in_line z) (work c z)) (result_of (refused c n (refusal_value n c (facts true z))) s) ≡ outcome s (in_line z) (step_as n c z)
      go zero = refl
      go (suc n) = rw (eqb-suc-zero n) (ap (result_of (refused c (suc n) (refusal_value (suc n) c (facts true z)))) (sym same-stored))

-- ---- a well-formed buffer

module _ (s : List ℕ) (y : Bytes s) (wf : well_formed s ≡ true) where
  abbrev z : Zone
  z = zone_in s

  -- a change that keeps the length
  pub same_length : (u : Structure) → len u ≡ len (decode s) → replacing s (decode s) u ≡ encode u ++ drop (length_field s) s
  same_length u e = ap (encode u ++◌) (none_between s (len (decode s)) (len u) e ∙ beyond s y wf)

  module _ (c : Call) where
    pub call-of : (o : Out (List Cell)) → step c z ≡ o → call c s ≡ outcome s (decode s) o
    call-of o e =
        call_step s z (well-whole s y wf) (well-stored s y wf) c
        ∙ ap (λ (u : Structure). outcome s u (step c z)) (sym (stored-decode s z (well-whole s y wf) (well-stored s y wf)))
        ∙ ap (outcome s (decode s)) e

    module _ (f : Given (beside c)) where
      pub next-whole : Whole (step c z).next
      next-whole = step-whole c f z (well-whole s y wf)

      after : Stored (call c s).bytes (step c z).next
      after =
          rw (call_step s z (well-whole s y wf) (well-stored s y wf) c)
          (stored-after s z (step c z).next (well-whole s y wf) next-whole (step-buffer c f z (well-whole s y wf)) (well-stored s y wf))

      -- the zone in the bytes that the call leaves, its structure and its bays
      pub after-zone : zone_in (call c s).bytes ≡ (step c z).next
      after-zone = stored-bays (call c s).bytes (step c z).next next-whole after

      pub after_line : decode (call c s).bytes ≡ in_line (step c z).next
      after_line = stored-decode (call c s).bytes (step c z).next next-whole after

      pub after-bays : group (start (decode (call c s).bytes)) (decode (call c s).bytes).blocks ≡ (step c z).next.bays
      after-bays = ap (λ (u : Zone). u.bays) after-zone

      -- the next call
      pub after_call : (o : Out (List Cell)) → step c z ≡ o → (b : Call) → call b (call c s).bytes ≡ outcome (call c s).bytes (in_line o.next) (step b o.next)
      after_call o e b =
          call_step (call c s).bytes (step c z).next next-whole after b
          ∙ ap (λ (x : Out (List Cell)). outcome (call c s).bytes (in_line x.next) (step b x.next)) e
