-- The laws that the proofs of the functions cite.
use mathlib.Core.Path.{◌≡◌, refl, sym, ap, ◌∙◌}
use mathlib.Core.List.{List, [], ◌++◌}
use Prim.Native.Nat.{ℕ, ◌+◌, ◌-◌, ◌<◌, ◌≤◌}
use native.Mathlib.Omega.{arith}
use native.Mathlib.Nat.{zero-add}
use lib.ListN.{length, take, drop, length-take, length-drop}
use mir.Val.{Fits}
use mir.Syntax.{w32}
use borrow.Author.Tests.{ne_eqb, le-leb, lt-leb}
use Rattle.block_type.specs.Limits.{longest_zone}
use Rattle.bigendian.specs.BigEndian.{overwrite}
use Rattle.format.specs.WellFormed.{zone_of}
use Rattle.calls.specs.Calls as Calls
use Rattle.calls.specs.Calls.{Target, by_handle, by_pointer, by_name, Answer, read, view, told, shows}
use Rattle.calls.specs.Refusals.{code_of, beside_of, answer_by, shown_of}
use Rattle.calls.specs.declared.Refusal.{Refusal}
use Rattle.std.specs.Prelude.{Result, Ok, Err, IfOk, IfErr}
use Rattle.std.specs.Result.{IsErrAnd, result_unwrap_or}
use Rattle.zone.specs.Call.{call}
use Rattle.access.specs.locate.Locate.{target_place, target_data, absent_number}
use Rattle.access.specs.locate.Found.{absence, IsFound, IsLost, ill_formed, absent}
use Rattle.access.specs.declared.locate.Span.{Span}
use Rattle.access.proofs.locate.Data.{target_fits, target_room, target-part, found-small}
use Rattle.stretch.specs.Stretch.{part_number, stretch_number, view_start, view_length}
use Rattle.stretch.specs.Part.{Reaches, IsShort, past_end, short, IsGranted, IsRefused, Shows, part, none}
use Rattle.std.specs.declared.ops.Range.{Range}
use Rattle.stretch.proofs.Answers.{absent-some, block_1, block-absent, block_0, Accepted, accepted, size_is, read_is, view-is}

-- ---- a stretch in a buffer

pub block-small : (s : List ℕ) (t : Target) (k : Span) → IsFound s t k → k.at ≤ longest_zone
block-small s t k f = (found-small s t k f).0

absence-code : (t : Target) → code_of (absence t) ≡ absent_number t
absence-code (by_handle h) = refl
absence-code (by_pointer p) = refl
absence-code (by_name n) = refl

absence-beside : (t : Target) → beside_of (absence t) ≡ 0
absence-beside (by_handle h) = refl
absence-beside (by_pointer p) = refl
absence-beside (by_name n) = refl

module _ (s : List ℕ) (t : Target) where
  -- the refusal of a block is that of each stretch of it
  pub lost-refused : (i n have : ℕ) {T : Type 0} (r : Result T Refusal) (d : Refusal) → IsErrAnd r (λ e. e ≡ d) → IsLost s t d → IfErr r (IsRefused s t i n have)
  unfolding stretch_number part_number
  lost-refused i n have (Ok v) d k x = absurd k
  lost-refused i n have (Err e) d k (ill_formed y x) =
      let q : e ≡ d = k in
      rw (q, x.refusal_is) (record { bytes = y; number_is = rw (block_1 t s x.ill); some = λ z. omega arith })
  lost-refused i n have (Err e) d k (absent y w l x) =
      let q : e ≡ d = k in
      rw (q, x) (record {
        bytes = y;
        number_is = rw (block-absent t s w l, ne_eqb (absent_number t) 0 (absent-some t)) (sym (absence-code t));
        some = λ z. absent-some t (sym (absence-code t) ∙ z);
      })

  module _ (k : Span) (f : IsFound s t k) (i n have : ℕ) where
    live : target_place t (zone_of s) ≡ 0 → ⊥
    live x = f.some (f.at_is ∙ x)

    reach-granted : (p : Range ℕ) → Reaches k i n have p → IsGranted s t i n have p
    unfolding stretch_number part_number
    reach-granted p r =
        let a : i + n ≤ length (target_data t (zone_of s)) = omega (arith, r.size, f.size_is) in
        record {
          bytes = f.bytes;
          passed = rw (block_0 t s f.well live, le-leb (i + n) (length (target_data t (zone_of s))) a, le-leb n have r.long);
          start_is = r.start_is ∙ ap (◌+ i) f.at_is;
          end_is = omega (arith, r.start_is, r.end_is);
        }

    reach-refused : (e : Refusal) → IsShort k i n have e → IsRefused s t i n have e
    unfolding stretch_number part_number
    reach-refused e (past_end l q) =
        let a : length (target_data t (zone_of s)) < i + n = omega (arith, f.size_is) in
        rw q (record { bytes = f.bytes; number_is = rw (block_0 t s f.well live, lt-leb (i + n) (length (target_data t (zone_of s))) a); some = λ z. omega arith })
    reach-refused e (short l m q) =
        let a : i + n ≤ length (target_data t (zone_of s)) = omega (arith, f.size_is) in
        rw q (record { bytes = f.bytes; number_is = rw (block_0 t s f.well live, le-leb (i + n) (length (target_data t (zone_of s))) a, lt-leb n have m); some = λ z. omega arith })

    pub reach-ok : (r : Result (Range ℕ) Refusal) → IfOk r (Reaches k i n have) → IfOk r (IsGranted s t i n have)
    reach-ok (Ok p) x = reach-granted p x
    reach-ok (Err e) x = x

    pub reach-err : (r : Result (Range ℕ) Refusal) → IfErr r (IsShort k i n have) → IfErr r (IsRefused s t i n have)
    reach-err (Ok p) x = x
    reach-err (Err e) x = reach-refused e x

-- ---- a part

module _ (s : List ℕ) (t : Target) (i n have : ℕ) (p : Range ℕ) (g : IsGranted s t i n have p) where
  abbrev pub fit : Accepted s t i n have
  fit = accepted s t i n have g.passed

  pub part-order : p.start ≤ p.end
  part-order = omega (arith, g.end_is)

  pub part-fits : p.end ≤ length s
  part-fits = omega (arith, g.start_is, g.end_is, fit.room, target_fits s g.bytes fit.well t fit.live, target_room s g.bytes fit.well t fit.live)

  -- the bytes of the stretch
  part-is : take (p.end - p.start) (drop p.start s) ≡ take n (drop i (target_data t (zone_of s)))
  part-is =
      let e : p.end - p.start ≡ n = omega (arith, g.end_is) in
      rw (e, g.start_is) (target-part s g.bytes fit.well t fit.live i n fit.room)

-- ---- size

module _ (s : List ℕ) (t : Target) where
  pub size_word : (k : Span) → IsFound s t k → Fits w32 k.size
  size_word k f = record { fits = omega (arith, (found-small s t k f).1) }

  pub size-found : (k : Span) → IsFound s t k → told 0 k.size ≡ (call (Calls.size t) s).answer
  size-found k f = rw f.size_is (sym (size_is t s ∙ (rw (block_0 t s f.well (λ x. f.some (f.at_is ∙ x))))))

  pub size-lost : {T : Type 0} (g : T → ℕ) (r : Result T Refusal) (d : Refusal) → IsErrAnd r (λ e. e ≡ d) → IsLost s t d → answer_by g beside_of [] r ≡ (call (Calls.size t) s).answer
  size-lost g (Ok v) d k x = absurd k
  size-lost g (Err e) d k (ill_formed y x) = let q : e ≡ d = k in rw (q, x.refusal_is) (sym (size_is t s ∙ (rw (block_1 t s x.ill))))
  size-lost g (Err e) d k (absent y w l x) =
      let q : e ≡ d = k in
      rw (q, x, absence-code t, absence-beside t) (sym (size_is t s ∙ (rw (block-absent t s w l, ne_eqb (absent_number t) 0 (absent-some t)))))

-- ---- read

module _ (s : List ℕ) (t : Target) (i n : ℕ) (out : List ℕ) where
  module _ (p : Range ℕ) (g : IsGranted s t i n (length out) p) where
    pub read-room : 0 + length (take (p.end - p.start) (drop p.start s)) ≤ length out
    read-room = omega (arith, g.end_is, (fit s t i n (length out) p g).long, length-take (p.end - p.start) (drop p.start s))

    pub read_done : (x : List ℕ) → x ≡ overwrite out 0 (take (p.end - p.start) (drop p.start s)) → shows 0 x ≡ (call (read t i n out) s).answer
    read_done x e =
        let d = target_data t (zone_of s) in
        let f : length (take n (drop i d)) ≡ n = omega (arith, length-take n (drop i d), length-drop i d, (fit s t i n (length out) p g).room) in
        let q : x ≡ take n (drop i d) ++ drop n out = e ∙ (rw (part-is s t i n (length out) p g, f, zero-add n)) in
        rw q (sym (read_is t i n s out ∙ (rw g.passed)))

  pub read_no : {T : Type 0} (r : Result T Refusal) (d : Refusal) → IsErrAnd r (λ e. e ≡ d) → IsRefused s t i n (length out) d → shown_of r out ≡ (call (read t i n out) s).answer
  read_no (Ok v) d k x = absurd k
  read_no (Err e) d k x = let q : e ≡ d = k in rw q (sym (read_is t i n s out ∙ (rw (x.number_is, ne_eqb (code_of d) 0 x.some))))

-- ---- view

module _ (s : List ℕ) (t : Target) (i n : ℕ) where
  pub shown-or : (r : Result (Range ℕ) Refusal) → IfOk r (IsGranted s t i n n) → IfErr r (IsRefused s t i n n) → (p : Range ℕ)
      → p ≡ result_unwrap_or r (record { start = 0; end = 0 }) → Shows s t i n p
  shown-or (Ok p) g x q e = rw e (part g)
  shown-or (Err d) g x q e = rw e (none (λ z. x.some (sym x.number_is ∙ z)) refl refl)

  module _ (p : Range ℕ) where
    pub shown-order : Shows s t i n p → p.start ≤ p.end
    shown-order (part g) = part-order s t i n n p g
    shown-order (none l a b) = omega arith

    pub shown-fits : Shows s t i n p → p.end ≤ length s
    shown-fits (part g) = part-fits s t i n n p g
    shown-fits (none l a b) = omega arith

    pub view-bytes : Shows s t i n p → take (p.end - p.start) (drop p.start s) ≡ (call (view t i n) s).answer.bytes
    view-bytes (part g) = part-is s t i n n p g ∙ sym (ap (λ (r : Answer). r.bytes) (view-is t i n s) ∙ (rw g.passed))
    view-bytes (none l a b) =
        let e : p.end - p.start ≡ 0 = omega arith in
        rw e (sym (ap (λ (r : Answer). r.bytes) (view-is t i n s) ∙ (rw (ne_eqb (stretch_number t i n n s) 0 l))))

    start_is : Shows s t i n p → view_start t i n s ≡ p.start
    unfolding view_start
    start_is (part g) = rw (g.passed, g.start_is)
    start_is (none l a b) = rw (ne_eqb (stretch_number t i n n s) 0 l, a)

    pub view-start : (b o : ℕ) → Shows s t i n p → ◌≡◌ {A = ℕ × ℕ} (b, p.start + o) (b, o + view_start t i n s)
    view-start b o x = let e : p.start + o ≡ o + view_start t i n s = omega (arith, start_is x) in λ j. (b, e j)

    pub view-length : Shows s t i n p → length (take (p.end - p.start) (drop p.start s)) ≡ view_length t i n s
    unfolding view_length
    view-length (none l a b) =
        let e : p.end - p.start ≡ 0 = omega arith in
        rw (e, ne_eqb (stretch_number t i n n s) 0 l)
    view-length (part g) =
        rw g.passed (omega (arith, g.end_is, length-take (p.end - p.start) (drop p.start s), length-drop p.start s, part-fits s t i n n p g))
