-- An answer that is the definition's, of a call that leaves the zone, is a promise.
use mathlib.Core.Path.{◌≡◌, refl, ap, sym, ◌∙◌}
use mathlib.Core.List.{List}
use Prim.Native.Nat.{ℕ}
use Rattle.bigendian.specs.BigEndian.{Bytes}
use Rattle.calls.specs.Calls.{Target, Answer, size, read, view, sums, check, length_of, roster, shows}
use Rattle.zone.specs.Call.{call}
use Rattle.zone.specs.Promise.{Promise}
use Rattle.stretch.proofs.Answers.{view-is}
use Rattle.tell.proofs.Outcomes as Outcomes
use Rattle.tell.proofs.Outcomes.{unchanged}

pub sum-promised : (s : List ℕ) (a : Answer) → Bytes s → a ≡ (call sums s).answer → Promise sums s a s
sum-promised s a y q = Outcomes.promised sums s a q (unchanged sums s y refl)

pub check-promised : (s : List ℕ) (a : Answer) → Bytes s → a ≡ (call check s).answer → Promise check s a s
check-promised s a y q = Outcomes.promised check s a q (unchanged check s y refl)

pub length-promised : (s : List ℕ) (a : Answer) → Bytes s → a ≡ (call length_of s).answer → Promise length_of s a s
length-promised s a y q = Outcomes.promised length_of s a q (unchanged length_of s y refl)

pub roster-promised : (s out : List ℕ) (a : Answer) → Bytes s → a ≡ (call (roster out) s).answer → Promise (roster out) s a s
roster-promised s out a y q = Outcomes.promised (roster out) s a q (unchanged (roster out) s y refl)

module _ (t : Target) (s : List ℕ) where
  pub size-promised : (a : Answer) → Bytes s → a ≡ (call (size t) s).answer → Promise (size t) s a s
  size-promised a y q = Outcomes.promised (size t) s a q (unchanged (size t) s y refl)

  module _ (i n : ℕ) where
    pub read-promised : (out : List ℕ) (a : Answer) → Bytes s → a ≡ (call (read t i n out) s).answer → Promise (read t i n out) s a s
    read-promised out a y q = Outcomes.promised (read t i n out) s a q (unchanged (read t i n out) s y refl)

    pub view-promised : (bs : List ℕ) → Bytes s → bs ≡ (call (view t i n) s).answer.bytes → Promise (view t i n) s (shows 0 bs) s
    view-promised bs y q =
        let shown : shows 0 bs ≡ (call (view t i n) s).answer = ap (shows 0) (q ∙ ap (λ (a : Answer). a.bytes) (view-is t i n s)) ∙ sym (view-is t i n s) in
        Outcomes.promised (view t i n) s (shows 0 bs) shown (unchanged (view t i n) s y refl)
