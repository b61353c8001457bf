-- The plan and the call.
use mathlib.Core.Path.{◌≡◌, refl, sym, ap, ◌∙◌, subst}
use mathlib.Core.Bool.{Bool, true, false, cond}
use mathlib.Core.List.{List, [], ◌∷◌, ◌++◌}
use Prim.Native.Nat.{ℕ, ◌+◌, ◌*◌, ◌-◌, ◌/◌, ◌%◌, ◌≤◌, min}
use native.Mathlib.Omega.{arith}
use borrow.Author.Tests.{eq-eqb, ne_eqb}
use lib.ListN.{length, get_or, take, drop, replicate}
use mir.Val.{Fits}
use mir.Syntax.{w8}
use Rattle.format.specs.WellFormed.{first_field}
use Rattle.structure.specs.Structure.{Structure, fixed, sizes, start, len, decode_zone, encode}
use Rattle.structure.proofs.Table.{encode-zone}
use Rattle.structure.proofs.Sound.{valid-zone}
use Rattle.calls.specs.Calls.{told, shrink}
use Rattle.calls.specs.Bays.{Bays, last, more, on_last, last_s}
use Rattle.calls.specs.State.{Fixed, Out, done}
use Rattle.bay.specs.Bay.{Cell, bay_sum, take_high}
use Rattle.bay.proofs.Laws.{bsize-split}
use Rattle.bay.proofs.SoundLaws.{sum-four}
use Rattle.zone.specs.Group.{flatten}
use Rattle.zone.specs.Work.{Zone, work}
use Rattle.zone.specs.Call.{in_line, result_of, call}
use Rattle.zone.proofs.GroupLaws.{flatten-group}
use Rattle.bays.specs.Places.{bays_of, bay_of, bays_at, high_bay}
use Rattle.bays.specs.Found.{FoundLast}
use Rattle.bays.proofs.At.{bay-sizes, at_old}
use Rattle.bays.proofs.High.{last_found}
use Rattle.settle.proofs.Bay.{cells-sound}
use Rattle.room.proofs.bay_end.Found.{zone-tiled, zone-high}
use Rattle.access.specs.Checked.{Opened}
use Rattle.access.specs.declared.opened.Zone as Access
use Rattle.call_laws.specs.Frame.{zone_at, Does}
use Rattle.call_laws.proofs.Refused.{zone-cut, zone-same}
use Rattle.zone_end.specs.shrink.Stripped.{strips, stripped}
use Rattle.zone_end.specs.shrink.Ready.{SiteOf, Ready}
use Rattle.zone_end.specs.declared.shrink.Plan.{Plan}
use Rattle.bays.specs.declared.Bay.{Bay}
use Rattle.structure.specs.IsZone.{IsZone}
use Rattle.structure.proofs.IsZone.{whole_of}

-- ---- how much is stripped

last-le : (s : Bays (List Cell) Fixed) → bay_sum (last_s s) ≤ sizes (flatten s)
unfolding sizes
last-le (last b) = omega (arith, bay-sizes b [], bsize-split b)
last-le (more b x s) = omega (arith, bay-sizes b (fixed x.bytes ∷ flatten s), last-le s)

pub small : (d : Structure) (k : ℕ) → strips d k ≤ len d
small d k = omega (arith, last-le (bays_of d), ap sizes (flatten-group (start d) d.blocks))

lesser-four : (k t : ℕ) → t % 4 ≡ 0 → min (k / 4 * 4) t % 4 ≡ 0
lesser-four k t e = omega arith

-- ---- the plan

module _ (z : List ℕ) (i : IsZone z) (first : ℕ) (ef : first ≡ first_field z) (k n : ℕ) (b : Bay) (en : n ≡ min (k / 4 * 4) b.sum)
    (q : bay_of b ≡ high_bay 0 first (bays_at z first)) where
  abbrev d : Structure
  d = decode_zone z

  found : FoundLast (start d) (len d) (take_high n) (bays_of d) b.start b.end b.sum b.tail
  found = last_found (len d) (take_high n) true b.start b.end b.sum b.tail (bays_of d) (start d) (zone-tiled z i first ef) (zone-high z i first ef 0 _ q)

  pub plan-done : Ready z k (record { strip = n; bay = b })
  plan-done =
      let es : b.sum ≡ bay_sum (last_s (bays_of d)) = found.numbers.sum_is in
      let t : b.sum % 4 ≡ 0 =
      ap (λ (m : ℕ). m % 4) es
      ∙ sum-four (last_s (bays_of d)) (cells-sound d (valid-zone z (whole_of z i)) found.before [] (last_s (bays_of d)) (sym (flatten-group (start d) d.blocks) ∙ at_old found.at)) in
      let n4 : n % 4 ≡ 0 = ap (λ (m : ℕ). m % 4) en ∙ lesser-four k b.sum t in
      record { zone = i; is_strip = en ∙ ap (min (k / 4 * 4)) es; site = λ l. record { zone = i; found = found; low = omega (arith, n4); fits = omega (arith, en, es); four = n4 } }

-- ---- the work, in a zone's bytes z of which m are stripped

module _ (buf : ℕ) (z : List ℕ) (k m : ℕ) (is_m : m ≡ strips (decode_zone z) k) where
  abbrev c : Structure
  c = decode_zone z

  abbrev u : Zone
  u = zone_at buf z

  -- by whether nothing is stripped
  abbrev out : Bool → Out (List Cell)
  out t = cond t (done 0 u) (done (strips c k) (record { buf = buf; len = u.len - strips c k; clock = u.clock; chain = u.chain; bays = on_last (take_high (strips c k)) u.bays }))

  module _ (q : m ≡ 0) where
    none : work (shrink k) u ≡ done 0 u
    none = ap out (eq-eqb (strips c k) 0 (sym is_m ∙ q))

    stays : Does (shrink k) buf z (told 0 0) c
    stays = record {
      passed = refl;
      answer = ap (λ (o : Out (List Cell)). o.answer) none;
      line = ap (λ (o : Out (List Cell)). in_line o.next) none ∙ (λ j. record { clock = c.clock; chain = c.chain; blocks = flatten-group (start c) c.blocks j });
    }

    stays-long : (work (shrink k) (zone_at buf z)).next.len ≡ len (decode_zone z)
    stays-long = ap (λ (o : Out (List Cell)). o.next.len) none

  module _ (q : m ≡ 0 → ⊥) where
    some : work (shrink k) u ≡ out false
    some = ap out (ne_eqb (strips c k) 0 (λ x. q (is_m ∙ x)))

    cuts : Does (shrink k) buf z (told 0 m) (stripped m c)
    cuts = subst (λ (j : ℕ). Does (shrink k) buf z (told 0 j) (stripped j c)) (sym is_m)
        (record { passed = refl; answer = ap (λ (o : Out (List Cell)). o.answer) some; line = ap (λ (o : Out (List Cell)). in_line o.next) some })

    cuts-long : (work (shrink k) (zone_at buf z)).next.len + m ≡ len (decode_zone z)
    cuts-long = ap (λ (o : Out (List Cell)). o.next.len + m) some ∙ omega (arith, is_m, small c k)

-- ---- the call

module _ (s : List ℕ) (k : ℕ) (z : Access.Zone) (o : Opened s z) (p : Plan) (r : Ready z.bytes.now k p) where
  abbrev l : ℕ
  l = length z.bytes.now

  there : Ready (take l s) k p
  there = rw o.there r

  pub call-site : (p.strip ≡ 0 → ⊥) → SiteOf (take (length z.bytes.now) s) p
  call-site ne = there.site (omega (arith, ne))

  module _ (g : (i : ℕ) → Fits w8 (get_or s i 0)) where
    pub call-cut : (p.strip ≡ 0 → ⊥) → (y : List ℕ) → y ≡ encode (stripped p.strip (decode_zone (take (length z.bytes.now) s))) ++ replicate p.strip 0 → result_of (told 0 p.strip) (y ++ drop (length z.bytes.now) s) ≡ call (shrink k) s
    call-cut ne y q =
        zone-cut (shrink k) s l o.has_zone g (cuts (length s) (take l s) k p.strip there.is_strip ne) tt p.strip (cuts-long (length s) (take l s) k p.strip there.is_strip ne) y q

    pub call-none : p.strip ≡ 0 → result_of (told 0 p.strip) s ≡ call (shrink k) s
    call-none q =
        ap (λ (n : ℕ). result_of (told 0 n) s) q
        ∙ zone-same (shrink k) s l o.has_zone g (stays (length s) (take l s) k p.strip there.is_strip q) tt (stays-long (length s) (take l s) k p.strip there.is_strip q)
        (sym (encode-zone (take l s) (whole_of (take l s) there.zone)))
