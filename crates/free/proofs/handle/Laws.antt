-- The laws that the call's proofs cite.
use mathlib.Core.Path.{◌≡◌, refl, ap, ◌∙◌}
use mathlib.Core.List.{List, [], ◌∷◌, ◌++◌, append-nil}
use Prim.Native.Nat.{ℕ, ◌+◌, ◌-◌, ◌<◌, ◌≤◌}
use native.Mathlib.Omega.{arith}
use mir.Val.{Fits}
use mir.Syntax.{w8}
use lib.ListN.{length, get_or, take, drop}
use Rattle.access.proofs.Checked.{zone-14}
use Rattle.bigendian.specs.BigEndian.{to_be, overwrite}
use Rattle.block_type.specs.Limits.{master_size, reloc_header, argument_range, chain_at}
use Rattle.format.specs.WellFormed.{chain_field}
use Rattle.bay.specs.Bay.{free, held}
use Rattle.structure.specs.Structure.{decode_zone, encode, encode_block, cell, handles_of}
use Rattle.access.specs.Edit.{place_in, data_in}
use Rattle.slide.specs.blank.Between.{Between}
use Rattle.free_block.specs.Freed.{freed}
use Rattle.free_block.specs.Extends.{Extends}
use Rattle.free_block.proofs.Live.{block, its, live-is, freeing-in}
use Rattle.free_block.proofs.Between.{freeing-between, freeing-master, freeing-owned}
use Rattle.calls.specs.Calls.{told, free_handle}
use Rattle.zone.specs.Call.{result_of, call}
use Rattle.calls.specs.declared.Refusal.TheVariants.{HandleNotLive}
use Rattle.access.specs.locate.Found.{NoData}
use Rattle.access.specs.Checked.{Opened}
use Rattle.access.specs.declared.opened.Zone.{Zone}
use Rattle.call_laws.specs.Refused.{Refuses}
use Rattle.call_laws.proofs.Refused.{zone-opened}
use Rattle.free.specs.handle.Ready.{ReadyIn, Ready}
use Rattle.free.specs.declared.handle.Plan.{Plan}
use Rattle.slide.specs.declared.blank.Extent.{Extent}
use Rattle.free.proofs.handle.Bays.{no_block, frees}
use Rattle.structure.specs.IsZone.{IsZone}
use Rattle.kinds.specs.Kinds.{masters_of}
use Rattle.kinds.proofs.KindLaws.{is_masters}

-- ---- the plan

pub in-6 : (z : List ℕ) (h : ℕ) → NoData z h → Refuses (free_handle h) z HandleNotLive
in-6 z h x = no_block z h x.place_is

pub in-0 : (z : List ℕ) (i : IsZone z) (h place : ℕ) → place ≡ place_in z h → (place ≡ 0 → ⊥) → (n : ℕ) → n ≡ length (data_in z h)
    → (x : Extent) → Extends z (place - reloc_header) (place + n) x → (head : ℕ) → head ≡ chain_field z → ReadyIn z h head x.from x.at x.end x.to
in-0 z i h place e ne n en x q head k =
    let l = live-is z i h place e ne in
    record { live = l; block = block z i h l; its = its z i h l; freeing = freeing-in z i h place e ne n en x q; is_head = k }

-- ---- the writes

module _ (z : List ℕ) (h head from at end to : ℕ) (r : ReadyIn z h head from at end to) where
  pub write-between : Between z from at end to
  write-between = freeing-between z _ _ from at end to r.freeing

  handles : handles_of (cell (held r.block) ∷ []) ≡ h ∷ []
  unfolding handles_of
  handles = append-nil (masters_of r.block) ∙ is_masters h r.block r.its

  pub write_word : h < argument_range
  write_word = omega (arith, freeing-master z _ _ from at end to r.freeing h handles, write-between.short)

  pub write-head : (y : List ℕ) → length y ≡ length z → chain_at + 2 ≤ length y
  write-head y e = omega (arith, zone-14 z r.freeing.zone)

  pub write-master : (x y : List ℕ) → length x ≡ length z → length y ≡ length x → h + master_size ≤ length y
  write-master x y e q = omega (arith, freeing-master z _ _ from at end to r.freeing h handles)

  pub written : (y₁ y₂ y₃ : List ℕ) → y₁ ≡ overwrite z from (encode_block (cell (free (to - from)))) → y₂ ≡ overwrite y₁ chain_at (to_be 2 h) → y₃ ≡ overwrite y₂ h (to_be 4 head) → y₃ ≡ encode (freed h (decode_zone z))
  written y₁ y₂ y₃ e₁ e₂ e₃ =
      freeing-owned z _ _ from at end to r.freeing h handles head y₃ r.is_head
      (e₃ ∙ ap (λ (y : List ℕ). overwrite y h (to_be 4 head)) (e₂ ∙ ap (λ (y : List ℕ). overwrite y chain_at (to_be 2 h)) e₁))

-- ---- the call

module _ (s : List ℕ) (z : Zone) (o : Opened s z) (h : ℕ) (p : Plan) (r : Ready z.bytes.now h p) where
  pub call-ready : Ready (take (length z.bytes.now) s) h p
  call-ready = rw o.there r

  pub call-out : (y : List ℕ) → ((i : ℕ) → Fits w8 (get_or s i 0)) → y ≡ encode (freed h (decode_zone (take (length z.bytes.now) s))) → result_of (told 0 0) (y ++ drop (length z.bytes.now) s) ≡ call (free_handle h) s
  call-out y g q = zone-opened (free_handle h) s z o g (frees z.bytes.now h r.freeing.zone r.live (length s)) tt refl y (rw o.there at q)
