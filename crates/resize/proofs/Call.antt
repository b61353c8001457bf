-- The call.
use mathlib.Core.Path.{◌≡◌, refl, sym, ap, ap₂, ◌∙◌}
use mathlib.Core.Option
use mathlib.Core.Option.{Option}
use mathlib.Core.List.{List, [], ◌++◌}
use Prim.Native.Nat.{ℕ}
use mir.Val.{Fits}
use mir.Syntax.{w8}
use lib.ListN.{length, get_or, take, drop}
use Rattle.structure.specs.Structure.{decode_zone, encode}
use Rattle.calls.specs.Calls.{told, resize}
use Rattle.zone.specs.Group.{flatten}
use Rattle.zone.specs.Work.{resize_in}
use Rattle.zone.specs.Call.{result_of, call}
use Rattle.bays.specs.Places.{bays_of}
use Rattle.access.specs.Checked.{Opened}
use Rattle.access.specs.declared.opened.Zone.{Zone}
use Rattle.call_laws.specs.Frame.{Does}
use Rattle.call_laws.proofs.Refused.{zone-opened}
use Rattle.resize.specs.Ready.{resized_to, Ready}
use Rattle.resize.specs.declared.Plan.{Plan}
use Rattle.resize.proofs.Zone.{content-live, passed-live}

module _ (z : List ℕ) (buf h c : ℕ) (p : Plan) (r : Ready z h c p) where
  does : Does (resize h c) buf z (told 0 0) (resized_to p.block.handle p.block.new_len (decode_zone z))
  does =
      let d = decode_zone z in
      let k = r.passed buf in
      record {
        passed = k;
        answer = refl;
        line =
            ap₂ (λ (i : ℕ) (o : Option (List ℕ)). record { clock = d.clock; chain = d.chain; blocks = flatten (resize_in h i (Option.get_or o []) (bays_of d)) }) (sym r.is_len) (content-live z h c (passed-live z h c buf k))
            ∙ ap (λ (i : ℕ). resized_to i p.block.new_len d) (sym r.is_handle);
      }

module _ (s : List ℕ) (h c : ℕ) (z : Zone) (o : Opened s z) (p : Plan) (r : Ready z.bytes.now h c p) where
  pub call-end : (y : List ℕ) → ((i : ℕ) → Fits w8 (get_or s i 0)) → y ≡ encode (resized_to p.block.handle p.block.new_len (decode_zone (take (length z.bytes.now) s)))
      → result_of (told 0 0) (y ++ drop (length z.bytes.now) s) ≡ call (resize h c) s
  call-end y g q = zone-opened (resize h c) s z o g (does z.bytes.now (length s) h c p r) tt refl y (rw o.there at q)
