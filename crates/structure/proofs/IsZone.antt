-- The bytes of a zone and of a valid structure: the one is the other.
use mathlib.Core.Path.{◌≡◌, sym, ap, ◌∙◌, subst}
use mathlib.Core.Bool.{true}
use mathlib.Core.List.{List, [], append-nil}
use Prim.Native.Nat.{ℕ}
use native.Mathlib.Omega.{arith}
use lib.Seq.{take_all}
use Rattle.bigendian.specs.BigEndian.{Bytes}
use Rattle.format.specs.WellFormed.{well_formed, zone_of, length_field}
use Rattle.structure.specs.Structure.{Structure, encode, decode, decode_zone}
use Rattle.structure.specs.Valid.{Valid}
use Rattle.structure.specs.IsZone.{IsZone, is_zone}
use Rattle.structure.proofs.Round.{length-is, heads-self, well-formed, decode-encode}
use Rattle.structure.proofs.Table.{Whole, whole, encode-zone}
use Rattle.structure.proofs.Sound.{valid-zone}

pub whole_of : (z : List ℕ) → IsZone z → Whole z
whole_of z (is_zone s y w e) = subst Whole e (whole s y w)

zone-self : (s : Structure) → Valid s → zone_of (encode s) ≡ encode s
zone-self s v = take_all (length_field (encode s)) (encode s) (omega (arith, (heads-self s v).is_len, length-is s v))

pub zone-of : (s : Structure) → Valid s → Bytes (encode s) → IsZone (encode s)
zone-of s v y = is_zone (encode s) y (subst (λ (z : List ℕ). well_formed z ≡ true) (append-nil (encode s)) (well-formed s v [])) (zone-self s v)

pub back-of : (s : Structure) → Valid s → decode_zone (encode s) ≡ s
unfolding decode
back-of s v = ap decode_zone (sym (zone-self s v)) ∙ ap decode (sym (append-nil (encode s))) ∙ decode-encode s v []

-- the facts that make it
module _ (z : List ℕ) (i : IsZone z) where
  w : Whole z
  w = whole_of z i

  pub is_well : well_formed z ≡ true
  is_well = subst (λ (t : List ℕ). well_formed t ≡ true) (append-nil (encode (decode_zone z)) ∙ encode-zone z w) (well-formed (decode_zone z) (valid-zone z w) [])

  pub bytes-zone : Bytes z
  bytes-zone = w.bytes

  pub is_whole : zone_of z ≡ z
  is_whole = take_all (length_field z) z (omega (arith, w.all))
