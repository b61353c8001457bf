-- The plan and the call.
use mathlib.Core.Path.{◌≡◌, refl, sym, ap, ◌∙◌, subst}
use mathlib.Core.Bool.{Bool, true, false, not}
use mathlib.Core.List.{List, ◌++◌}
use Prim.Native.Nat.{ℕ, ◌+◌, ◌-◌, ◌≤◌}
use native.Mathlib.Omega.{arith}
use lib.ListN.{length, get_or, take, drop, length-take, length-drop}
use lib.Seq.{take-add}
use mir.Val.{Fits}
use mir.Syntax.{w8}
use borrow.Author.Tests.{not-true, not-false}
use Rattle.bigendian.specs.BigEndian.{to_be, overwrite}
use Rattle.block_type.specs.Limits.{length_at}
use Rattle.structure.specs.Structure.{encode_block, decode_zone, cell}
use Rattle.slide.specs.blank.Between.{Between}
use Rattle.calls.specs.Calls.{told, enlarge}
use Rattle.bay.specs.Bay.{free}
use Rattle.zone.specs.Call.{result_of, call}
use Rattle.calls.specs.declared.Refusal.TheVariants.{BadEnlarge}
use Rattle.access.specs.Checked.{HasZone, Opened}
use Rattle.access.specs.declared.opened.Zone.{Zone}
use Rattle.access.proofs.Checked.{take_len}
use Rattle.call_laws.proofs.Refused.{done-here, zone-grown, zone-same}
use Rattle.zone_end.specs.enlarge.Enlarge.{accepts, last_free}
use Rattle.zone_end.proofs.enlarge.Zone.{within, number_is, grows, idle, between, written}

-- ---- the call

module _ (s : List ℕ) (k l : ℕ) (h : HasZone s l) (t : Bool) (et : t ≡ accepts (length s) (l + k) k) where
  long : length (take l s) ≡ l
  long = sym (take_len l s h.within)

  there : accepts (length s) (length (take l s) + k) k ≡ t
  there = ap (λ (j : ℕ). accepts (length s) (j + k) k) long ∙ sym et

  pub call-no : not t ≡ true → result_of (told 9 0) s ≡ call (enlarge k) s
  call-no q = done-here (enlarge k) s (λ n v. refl) BadEnlarge (λ n f. refl) l h (number_is (take l s) h.zone (length s) k false (there ∙ not-true t q))

  module _ (q : not t ≡ false) where
    yes : accepts (length s) (length (take l s) + k) k ≡ true
    yes = there ∙ not-false t q

    pub call-fits : l + k ≤ length s
    call-fits = within (length s) (l + k) k (sym et ∙ not-false t q)

    module _ (g : (i : ℕ) → Fits w8 (get_or s i 0)) where
      pub call-idle : k ≡ 0 → result_of (told 0 0) s ≡ call (enlarge k) s
      call-idle e = zone-same (enlarge k) s l h g (grows (take l s) h.zone k (length s) yes) tt (omega arith) (idle (take l s) h.zone k e)

    module _ (ne : k ≡ 0 → ⊥) (from : ℕ) (ef : from ≡ last_free (decode_zone (take l s))) where
      -- the new bytes
      abbrev new : List ℕ
      new = take k (drop l s)

      new-long : length new ≡ k
      new-long = omega (arith, length-take k (drop l s), length-drop l s, call-fits)

      both : take l s ++ new ≡ take (l + k) s
      both = sym (take-add l k s)

      pub call-between : Between (take (l + k) s) from l (length (take (l + k) s)) (length (take (l + k) s))
      call-between = subst (λ (x : List ℕ). Between x from l (length x) (length x)) both
          (subst (λ (j : ℕ). Between (take l s ++ new) from j (length (take l s ++ new)) (length (take l s ++ new))) long
          (rw ef (between (take l s) h.zone k (length s) yes (omega (arith, ne)) new new-long)))

      pub call-end : (x : List ℕ) → ((i : ℕ) → Fits w8 (get_or s i 0)) → x ≡ overwrite (overwrite (take (l + k) s) from (encode_block (cell (free (length (take (l + k) s) - from))))) length_at (to_be 4 (length (take (l + k) s)))
          → result_of (told 0 0) (x ++ drop (l + k) s) ≡ call (enlarge k) s
      call-end x g e =
          zone-grown (enlarge k) s l h g (grows (take l s) h.zone k (length s) yes) tt k refl x
          (e ∙ ap (λ (b : List ℕ). overwrite (overwrite b from (encode_block (cell (free (length b - from))))) length_at (to_be 4 (length b))) (sym both)
          ∙ ap (λ (o : ℕ). overwrite (overwrite (take l s ++ new) o (encode_block (cell (free (length (take l s ++ new) - o))))) length_at (to_be 4 (length (take l s ++ new)))) ef
          ∙ written (take l s) h.zone k (length s) yes (omega (arith, ne)) new new-long)

-- ---- of a zone that has been opened

module _ (s : List ℕ) (k : ℕ) (z : Zone) (o : Opened s z) (t : Bool) (et : t ≡ accepts (length s) (length z.bytes.now + k) k) where
  pub opened-no : not t ≡ true → result_of (told 9 0) s ≡ call (enlarge k) s
  opened-no q = call-no s k (length z.bytes.now) o.has_zone t et q

  module _ (q : not t ≡ false) where
    pub opened-idle : ((i : ℕ) → Fits w8 (get_or s i 0)) → k ≡ 0 → result_of (told 0 0) s ≡ call (enlarge k) s
    opened-idle g e = call-idle s k (length z.bytes.now) o.has_zone t et q g e

    module _ (ne : k ≡ 0 → ⊥) (from : ℕ) (ef : from ≡ last_free (decode_zone z.bytes.now)) where
      pub opened-between : Between (take (length z.bytes.now + k) s) from (length z.bytes.now) (length (take (length z.bytes.now + k) s)) (length (take (length z.bytes.now + k) s))
      opened-between = call-between s k (length z.bytes.now) o.has_zone t et q ne from (rw o.there ef)

      pub opened-end : (x : List ℕ) → ((i : ℕ) → Fits w8 (get_or s i 0))
          → x ≡ overwrite (overwrite (take (length z.bytes.now + k) s) from (encode_block (cell (free (length (take (length z.bytes.now + k) s) - from))))) length_at (to_be 4 (length (take (length z.bytes.now + k) s)))
          → result_of (told 0 0) (x ++ drop (length z.bytes.now + k) s) ≡ call (enlarge k) s
      opened-end = call-end s k (length z.bytes.now) o.has_zone t et q ne from (rw o.there ef)
