-- From what a call does in a zone to its answer and its bytes in the buffer, once for all calls.
use mathlib.Core.Path.{◌≡◌, sym, ap, ◌∙◌, subst}
use mathlib.Core.Bool.{true}
use mathlib.Core.List.{List, ◌++◌, append_assoc}
use Prim.Native.Nat.{ℕ, ◌+◌, ◌-◌, max}
use native.Mathlib.Nat.{add-zero}
use native.Mathlib.Omega.{arith}
use mir.Val.{Fits}
use mir.Syntax.{w8}
use lib.ListN.{length, get_or, take, drop, replicate, length-take, take-append-drop}
use Rattle.format.specs.WellFormed.{well_formed, zone_of, length_field}
use Rattle.structure.specs.Structure.{Structure, len, encode, decode, decode_zone}
use Rattle.structure.proofs.Table.{whole, len_is}
use Rattle.calls.specs.Calls.{Call, Answer, beside, Given}
use Rattle.calls.specs.State.{Out}
use Rattle.bay.specs.Bay.{Cell}
use Rattle.zone.specs.Work.{work}
use Rattle.zone.specs.Call.{zone_in, result_of, replacing, call}
use Rattle.zone.proofs.Keep.{Whole, len-line}
use Rattle.access.specs.Checked.{HasZone}
use Rattle.access.proofs.Checked.{bytes_of}
use Rattle.call_laws.specs.Frame.{zone_at, Does}
use Rattle.call_laws.proofs.Outcome.{step, call-of, next-whole, step-work}

-- the bytes behind the zone, where it grows by k bytes
behind : (s : List ℕ) (l d u k : ℕ) → d ≡ l → u ≡ d + k → replicate (d - u) 0 ++ drop (max d u) s ≡ drop (l + k) s
behind s l d u k e q = let a : d - u ≡ 0 = omega arith in let b : max d u ≡ l + k = omega arith in rw (a, b)

-- where it is cut by k bytes
between : (s : List ℕ) (l d u k : ℕ) → d ≡ l → u + k ≡ d → replicate (d - u) 0 ++ drop (max d u) s ≡ replicate k 0 ++ drop l s
between s l d u k e q = let a : d - u ≡ k = omega arith in let b : max d u ≡ l = omega arith in rw (a, b)

module _ (c : Call) (s : List ℕ) (l : ℕ) (h : HasZone s l) (g : (i : ℕ) → Fits w8 (get_or s i 0)) {a : Answer} {u : Structure} (d : Does c (length s) (take l s) a u) where
  -- the same, said of the buffer
  m : Does c (length s) (take (length_field s) s) a u
  m = subst (λ (k : ℕ). Does c (length s) (take k s) a u) h.is_len d

  worked : step c (zone_in s) ≡ work c (zone_in s)
  unfolding decode
  worked = step-work c (zone_in s) m.passed

  written : call c s ≡ result_of a (replacing s (decode s) u)
  unfolding decode
  written = call-of s (bytes_of s g) h.well c (work c (zone_in s)) worked ∙ (λ j. result_of (m.answer j) (replacing s (decode s) (m.line j)))

  len-zone : len (decode s) ≡ l
  unfolding decode
  len-zone =
      let v = whole s (bytes_of s g) h.well in
      omega (arith, len_is (zone_of s) v, v.all, length-take (length_field s) s, h.is_len, h.within)

  module _ (b : Given (beside c)) where
    len-left : len u ≡ (work c (zone_in s)).next.len
    unfolding decode
    len-left = ap len (sym m.line) ∙ len-line (work c (zone_in s)).next (subst (λ (o : Out (List Cell)). Whole o.next) worked (next-whole s (bytes_of s g) h.well c b))

    -- the zone is k bytes longer after the call; y are its bytes then
    pub zone-grown : (k : ℕ) → (work c (zone_at (length s) (take l s))).next.len ≡ len (decode_zone (take l s)) + k → (y : List ℕ) → y ≡ encode u → result_of a (y ++ drop (l + k) s) ≡ call c s
    unfolding decode
    zone-grown k n y e =
        let i = subst (λ (j : ℕ). (work c (zone_at (length s) (take j s))).next.len ≡ len (decode_zone (take j s)) + k) h.is_len n in
        ap (result_of a) (ap (◌++ drop (l + k) s) e ∙ ap (encode u ++◌) (sym (behind s l (len (decode s)) (len u) k len-zone (len-left ∙ i)))) ∙ sym written

    -- it is k bytes shorter, and those are zero
    pub zone-cut : (k : ℕ) → (work c (zone_at (length s) (take l s))).next.len + k ≡ len (decode_zone (take l s)) → (y : List ℕ) → y ≡ encode u ++ replicate k 0
        → result_of a (y ++ drop l s) ≡ call c s
    unfolding decode
    zone-cut k n y e =
        let i = subst (λ (j : ℕ). (work c (zone_at (length s) (take j s))).next.len + k ≡ len (decode_zone (take j s))) h.is_len n in
        ap (result_of a)
        (ap (◌++ drop l s) e ∙ append_assoc (encode u) (replicate k 0) (drop l s)
        ∙ ap (encode u ++◌) (sym (between s l (len (decode s)) (len u) k len-zone (ap (◌+ k) len-left ∙ i))))
        ∙ sym written

    -- it is as long as before
    pub zone-done : (work c (zone_at (length s) (take l s))).next.len ≡ len (decode_zone (take l s)) → (y : List ℕ) → y ≡ encode u → result_of a (y ++ drop l s) ≡ call c s
    zone-done n y e = ap (λ (k : ℕ). result_of a (y ++ drop k s)) (sym (add-zero l)) ∙ zone-grown 0 (n ∙ sym (add-zero (len (decode_zone (take l s))))) y e

    -- no byte changes
    pub zone-same : (work c (zone_at (length s) (take l s))).next.len ≡ len (decode_zone (take l s)) → take l s ≡ encode u → result_of a s ≡ call c s
    zone-same n e = ap (result_of a) (sym (take-append-drop l s)) ∙ zone-done n (take l s) e
