-- A call on the bytes of a buffer is the call on the bays that they hold.
use mathlib.Core.Path.{◌≡◌, refl, ap, ap₂, sym, ◌∙◌, subst}
use mathlib.Core.Bool.{true, cond}
use mathlib.Core.List.{List, ◌++◌}
use Prim.Native.Nat.{ℕ, zero, suc, ◌+◌, ◌-◌, max}
use native.Mathlib.Omega.{arith}
use lib.ListN.{length, drop, replicate, length-append, length-replicate, length-drop}
use lib.Dec.{eqb-suc-zero}
use lib.Seq.{drop_at}
use Rattle.bigendian.specs.BigEndian.{Bytes}
use Rattle.format.specs.WellFormed.{well_formed, length_field}
use Rattle.structure.specs.Structure.{Structure, len, encode, decode}
use Rattle.structure.proofs.Round.{well-formed, decode-encode, length-is}
use Rattle.structure.proofs.Sound.{valid}
use Rattle.structure.proofs.Table.{encode-decode}
use Rattle.calls.specs.Calls.{Call, beside, Given, told, refused}
use Rattle.calls.specs.Table.{refusal_of, refusal_value}
use Rattle.zone.specs.Work.{Zone, facts, work}
use Rattle.zone.specs.Call.{in_bays, in_line, result_of, replacing, outcome, number_of, call_with, call}
use Rattle.zone.proofs.Keep.{Whole, valid-line, len-line, bays-line}
use Rattle.zone.proofs.Grouped.{line-bays, whole-bays, work-whole, work-buffer}

-- the buffer holds the zone
pub record Stored (bs : List ℕ) (z : Zone) : Type 0 where
  pub split : bs ≡ encode (in_line z) ++ drop z.len bs
  pub buffer : length bs ≡ z.buf

module _ (bs : List ℕ) (z : Zone) (w : Whole z) (s : Stored bs z) where
  pub stored-well : well_formed bs ≡ true
  stored-well = subst (λ (l : List ℕ). well_formed l ≡ true) (sym s.split) (well-formed (in_line z) (valid-line z w) (drop z.len bs))

  pub stored-decode : decode bs ≡ in_line z
  stored-decode = ap decode s.split ∙ decode-encode (in_line z) (valid-line z w) (drop z.len bs)

  pub stored-bays : in_bays (length bs) (decode bs) ≡ z
  stored-bays = ap₂ in_bays s.buffer stored-decode ∙ bays-line z w

  -- the refusal number of a call, and what it does
  pub number_is : (c : Call) → number_of c bs ≡ refusal_of c (facts true z)
  number_is c = λ i. refusal_of c (facts (stored-well i) (stored-bays i))

  pub call-worked : (c : Call) → refusal_of c (facts true z) ≡ 0 → call c bs ≡ outcome bs (in_line z) (work c z)
  call-worked c e =
      ap (λ (n : ℕ). call_with n c bs) (number_is c ∙ e)
      ∙ (λ i. cond (stored-well i) (outcome bs (stored-decode i) (work c (stored-bays i))) (result_of (told 0 0) bs))

  pub call-refused : (c : Call) (n : ℕ) → refusal_of c (facts true z) ≡ suc n → call c bs ≡ result_of (refused c (suc n) (refusal_value (suc n) c (facts true z))) bs
  call-refused c n e = ap (λ (k : ℕ). call_with k c bs) (number_is c ∙ e) ∙ (rw (eqb-suc-zero n) (λ i. result_of (refused c (suc n) (refusal_value (suc n) c (facts (stored-well i) (stored-bays i)))) bs))

pub length-line : (z : Zone) → Whole z → length (encode (in_line z)) ≡ z.len
length-line z w = length-is (in_line z) (valid-line z w) ∙ len-line z w

pub stored-after : (bs : List ℕ) (z u : Zone) → Whole z → Whole u → u.buf ≡ z.buf → Stored bs z → Stored (replacing bs (in_line z) (in_line u)) u
stored-after bs z u w v e s =
    let rest : List ℕ = replicate (len (in_line z) - len (in_line u)) 0 ++ drop (max (len (in_line z)) (len (in_line u))) bs in
    record {
      split = ap (encode (in_line u) ++◌) (sym (drop_at (encode (in_line u)) rest u.len (length-line u v)));
      buffer =
          length-append (encode (in_line u)) rest
          ∙ ap₂ ◌+◌ (length-line u v) (length-append (replicate (len (in_line z) - len (in_line u)) 0) (drop (max (len (in_line z)) (len (in_line u))) bs))
          ∙ omega (arith, length-replicate {A = ℕ} (len (in_line z) - len (in_line u)) 0, length-drop (max (len (in_line z)) (len (in_line u))) bs, len-line z w, len-line u v, s.buffer, w.bounded, v.bounded);
    }

-- ---- any well-formed buffer, whatever call made it

module _ (bs : List ℕ) (y : Bytes bs) (h : well_formed bs ≡ true) where
  abbrev zone_in : Zone
  zone_in = in_bays (length bs) (decode bs)

  pub beyond : drop (len (decode bs)) bs ≡ drop (length_field bs) bs
  beyond =
      ap (drop (len (decode bs))) (sym (encode-decode bs y h))
      ∙ drop_at (encode (decode bs)) (drop (length_field bs) bs) (len (decode bs)) (length-is (decode bs) (valid bs y h))

  pub well-whole : Whole zone_in
  well-whole =
      whole-bays (length bs) (decode bs) (valid bs y h)
      (omega (arith, ap length (encode-decode bs y h), length-append (encode (decode bs)) (drop (length_field bs) bs), length-is (decode bs) (valid bs y h)))

  pub well-stored : Stored bs zone_in
  well-stored = record {
    split = sym (encode-decode bs y h) ∙ ap₂ (λ (s : Structure) (t : List ℕ). encode s ++ t) (sym (line-bays (length bs) (decode bs))) (sym beyond);
    buffer = refl;
  }

  -- a call that leaves the structure leaves every byte
  pub same_bytes : replacing bs (decode bs) (in_line zone_in) ≡ bs
  same_bytes = ap (replacing bs (decode bs)) (line-bays (length bs) (decode bs)) ∙ ap (encode (decode bs) ++◌) (none (len (decode bs)) ∙ beyond) ∙ encode-decode bs y h
    where
      none : (n : ℕ) → replicate (n - n) 0 ++ drop (max n n) bs ≡ drop n bs
      none n = let a : n - n ≡ 0 = omega arith in let b : max n n ≡ n = omega arith in rw (a, b)

  module _ (c : Call) (u : Given (beside c)) where
    -- the zone after a call that nothing refuses stands in the bytes that it leaves
    pub work-stored : refusal_of c (facts true zone_in) ≡ 0 → Stored (call c bs).bytes (work c zone_in).next
    work-stored e =
        rw (call-worked bs zone_in well-whole well-stored c e)
        (stored-after bs zone_in (work c zone_in).next well-whole (work-whole c zone_in u well-whole e) (work-buffer c zone_in u well-whole e) well-stored)

    -- the bytes that a call leaves are well-formed
    pub call-well : well_formed (call c bs).bytes ≡ true
    call-well = go (refusal_of c (facts true zone_in)) refl
      where
        go : (n : ℕ) → refusal_of c (facts true zone_in) ≡ n → well_formed (call c bs).bytes ≡ true
        go zero e = stored-well (call c bs).bytes (work c zone_in).next (work-whole c zone_in u well-whole e) (work-stored e)
        go (suc n) e = rw (call-refused bs zone_in well-whole well-stored c n e) h
