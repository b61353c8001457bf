-- The laws that the call's proofs cite.
use mathlib.Core.Path.{◌≡◌, refl, sym, ◌∙◌, subst}
use mathlib.Core.Bool.{Bool, true, false, ◌&&◌}
use mathlib.Core.List.{List, [], ◌∷◌, ◌++◌}
use Prim.Native.Nat.{ℕ, ◌+◌, ◌-◌, ◌<◌, ◌≤◌}
use native.Mathlib.Omega.{arith}
use mir.Val.{Fits}
use mir.Syntax.{w8}
use lib.Dec.{eqb}
use borrow.Author.Tests.{eqb-true}
use lib.ListN.{length, get_or, take, drop}
use Rattle.bigendian.specs.BigEndian.{overwrite}
use Rattle.block_type.specs.Limits.{fixed_code, fixed_header, free_header}
use Rattle.format.specs.WellFormed.{type_of, first_field}
use Rattle.format.proofs.Bool.{and_right}
use Rattle.bay.specs.Bay.{Cell, free, bay_size}
use Rattle.structure.specs.Structure.{Structure, fixed, cell, sizes, start, encode_block, decode_zone, handles_of}
use Rattle.structure.proofs.Table.{start_is}
use Rattle.access.specs.row.Row.{Stepped}
use Rattle.access.proofs.row.Laws.{row_fits}
use Rattle.slide.specs.blank.Between.{Between}
use Rattle.calls.specs.Calls.{told, by_pointer, free_pointer}
use Rattle.calls.specs.Bays.{Bays}
use Rattle.calls.specs.State.{Fixed, fsize}
use Rattle.zone.specs.Group.{group}
use Rattle.zone.specs.Call.{result_of, call}
use Rattle.zone.proofs.GroupLaws.{flatten-group}
use Rattle.zone.proofs.Places.{Tiled}
use Rattle.bays.proofs.Zone.{zone-bays}
use Rattle.access.specs.locate.Locate.{target_place}
use Rattle.free_block.specs.Around.{Around}
use Rattle.free_block.specs.Walk.{Stopped, Extended}
use Rattle.free_block.proofs.Around.{around-same}
use Rattle.free_block.proofs.Found.{around-size, freeing}
use Rattle.free_block.proofs.Between.{freeing-between, freeing-plain}
use Rattle.calls.specs.declared.Refusal.TheVariants.{PointerNotFixed}
use Rattle.access.specs.Checked.{Opened}
use Rattle.access.specs.declared.opened.Zone.{Zone}
use Rattle.call_laws.specs.Refused.{Refuses}
use Rattle.call_laws.proofs.Refused.{zone-opened}
use Rattle.free.specs.pointer.Ready.{freed, ReadyIn, Ready}
use Rattle.slide.specs.declared.blank.Extent.{Extent}
use Rattle.free.proofs.pointer.Bays.{Named, named, no_block, found, frees}
use Rattle.free.proofs.pointer.Walk.{absent-low, absent-high, absent-end, absent-other, present}
use Rattle.structure.specs.IsZone.{IsZone}
use Rattle.structure.proofs.IsZone.{whole_of}

-- ---- the plan refuses

module _ (z : List ℕ) (i : IsZone z) (p : ℕ) where
  refused : target_place (by_pointer p) z ≡ 0 → Refuses (free_pointer p) z PointerNotFixed
  refused e = no_block z p e

  pub in-low : p < fixed_header → Refuses (free_pointer p) z PointerNotFixed
  in-low l = refused (absent-low z i p l)

  pub in-high : length z < p → Refuses (free_pointer p) z PointerNotFixed
  in-high l = refused (absent-high z i p l)

  module _ (first : ℕ) (ef : first ≡ first_field z) (h : fixed_header ≤ p) (prev at : ℕ) (s : Stopped z first (p - fixed_header) prev at) where
    pub in_end : length z ≤ at → Refuses (free_pointer p) z PointerNotFixed
    in_end l = refused (absent-end z i p first ef h prev at s l)

    pub in-other : (f : Bool) → f ≡ (eqb (type_of (drop at z)) fixed_code && eqb p (at + fixed_header)) → at < length z → f ≡ false → Refuses (free_pointer p) z PointerNotFixed
    in-other f e l q = refused (absent-other z i p first ef h prev at s f e l q)

-- the block at which the walk stops fits
pub stop-fits : (z : List ℕ) (first t prev at : ℕ) → Stopped z first t prev at → at < length z → at + free_header ≤ length z
stop-fits z first t prev at s l = row_fits z at s.passed.row l

-- ---- the plan goes

module _ (z : List ℕ) (i : IsZone z) (p first : ℕ) (ef : first ≡ first_field z) (h : fixed_header ≤ p) (prev at : ℕ) (s : Stopped z first (p - fixed_header) prev at)
    (f : Bool) (e : f ≡ (eqb (type_of (drop at z)) fixed_code && eqb p (at + fixed_header))) (l : at < length z) (q : f ≡ true) (n : ℕ) (st : Stepped z at n) where
  abbrev d : Structure
  d = decode_zone z

  live : target_place (by_pointer p) z ≡ 0 → ⊥
  live = present z i p first ef h prev at s f e l q

  x : Fixed
  x = (found z p live).0

  block : Named p first (group (start d) d.blocks) x
  unfolding x
  block =
      let b = zone-bays z i first ef in
      named p (found z p live).0 (subst (λ (t : Bays (List Cell) Fixed). Tiled first t (length z)) b.bays b.tiled) (found z p live).1

  abbrev a : Around d.blocks (freed p d).blocks (fixed x.bytes)
  a = around-same (sym (flatten-group (start d) d.blocks)) refl block.around

  is-p : p ≡ at + fixed_header
  is-p = eqb-true p (at + fixed_header) (and_right (eqb (type_of (drop at z)) fixed_code) _ (sym e ∙ q))

  at_is : at ≡ start d + (sizes a.pre + bay_size a.low)
  at_is = omega (arith, is-p, block.place, start_is z (whole_of z i))

  there : Stopped z first at prev at
  there = let k : p - fixed_header ≡ at = omega (arith, is-p) in subst (λ (t : ℕ). Stopped z first t prev at) k s

  end_is : at + n ≡ at + fsize x
  end_is = omega (arith, st.size_is, around-size z i (freed p d).blocks (fixed x.bytes) a at at_is first ef prev at there)

  pub in-0 : (e : Extent) → Extended z prev at (at + n) e.from e.to → e.at ≡ at → e.end ≡ at + n → ReadyIn z p e.from e.at e.end e.to
  in-0 e g ea ee = rw (ea, ee) (record { live = live; bytes = x.bytes; freeing = freeing z i (freed p d).blocks (fixed x.bytes) a at at_is first ef prev at there (at + n) end_is e.from e.to g })

-- ---- the call

module _ (s : List ℕ) (z : Zone) (o : Opened s z) (p : ℕ) (f : Extent) (r : Ready z.bytes.now p f) where
  pub call-between : Between (take (length z.bytes.now) s) f.from f.at f.end f.to
  call-between = rw o.there (freeing-between z.bytes.now _ _ f.from f.at f.end f.to r.freeing)

  none : handles_of (fixed r.bytes ∷ []) ≡ []
  unfolding handles_of
  none = refl

  pub call-out : (y : List ℕ) → ((i : ℕ) → Fits w8 (get_or s i 0)) → y ≡ overwrite (take (length z.bytes.now) s) f.from (encode_block (cell (free (f.to - f.from))))
      → result_of (told 0 0) (y ++ drop (length z.bytes.now) s) ≡ call (free_pointer p) s
  call-out y g e =
      zone-opened (free_pointer p) s z o g (frees z.bytes.now p r.live (length s)) tt refl y
      (freeing-plain z.bytes.now _ _ f.from f.at f.end f.to r.freeing none y (rw o.there at e))
