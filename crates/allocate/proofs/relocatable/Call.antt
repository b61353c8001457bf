-- The call.
use mathlib.Core.Path.{◌≡◌, refl, sym, ap, ◌∙◌}
use mathlib.Core.Bool.{cond}
use mathlib.Core.List.{List, ◌++◌}
use Prim.Native.Nat.{ℕ, ◌-◌}
use native.Mathlib.Omega.{arith}
use mir.Val.{Fits}
use mir.Syntax.{w8, w32}
use lib.ListN.{length, get_or, take, drop, replicate, length-replicate}
use Rattle.block_type.specs.Limits.{reloc_header, reloc_need, up4, first_block}
use Rattle.structure.specs.Structure.{Structure, len, decode_zone, encode}
use Rattle.kinds.specs.Kinds.{item, item_size}
use Rattle.calls.specs.Calls.{told, allocate_relocatable}
use Rattle.calls.specs.Bays.{Bays}
use Rattle.calls.specs.State.{new_item, Fixed, top, rest}
use Rattle.calls.specs.Table.{is_empty}
use Rattle.bay.specs.Bay.{Cell}
use Rattle.bay.proofs.Each.{cond-one}
use Rattle.zone.specs.Group.{flatten}
use Rattle.zone.specs.Work.{Zone, place_low, allocate, more_masters, with_master, work}
use Rattle.zone.specs.Call.{in_line, result_of, call}
use Rattle.bays.specs.Places.{bays_of}
use Rattle.room.specs.place.Fit.{blank}
use Rattle.access.specs.Checked.{Opened}
use Rattle.access.specs.declared.opened.Zone.{Zone as ZoneType}
use Rattle.call_laws.specs.Frame.{zone_at, Does}
use Rattle.call_laws.proofs.Refused.{zone-opened}
use Rattle.allocate.specs.relocatable.Ready.{allocated, with_master_in, Way, need_in, handle_in, Ready}
use Rattle.allocate.specs.declared.relocatable.Plan.{Plan}
use Rattle.allocate.specs.declared.relocatable.Plan.TheVariants.{InBay, AfterGrowth}
use Rattle.masters.specs.Grown.{grown_in}
use Rattle.masters.proofs.Grown.{count-bays, ask-first}
use Rattle.allocate.proofs.relocatable.Placed.{below_end}
use Rattle.allocate.proofs.relocatable.Added.{bays₁}
use Rattle.allocate.proofs.relocatable.Ways.{with-same, with-more}

-- the size of the new block
pub need_is : (h c : ℕ) → item_size (new_item h c) ≡ reloc_need c
need_is h c = omega (arith, length-replicate {A = ℕ} (up4 c) 0)

new_is : (h c need : ℕ) → need ≡ reloc_need c → new_item h c ≡ blank need h
new_is h c need e = let q : up4 c ≡ need - reloc_header = omega arith in ap (λ (n : ℕ). item h (replicate n 0)) q

module _ (z : List ℕ) (c : ℕ) where
  abbrev d : Structure
  d = decode_zone z

  pub call-word : (p : Plan) → Ready z c p → Fits w32 (handle_in p)
  call-word (InBay x) r = record { fits = omega (arith, below_end z x.need x.handle x.next x.site.start x.site.end x.site.hole.at x.site.hole.size x.site.tidy r.goes) }
  call-word (AfterGrowth g) r = record { fits = omega (arith, ask-first z g.first g.end r.goes.growing) }

  -- the work, on the zone w with a free master
  line_of : (need : ℕ) → need ≡ reloc_need c → (w : Zone) (g : ℕ) (b : Bays (List Cell) Fixed) → top w.chain ≡ g → w.bays ≡ b
      → in_line (allocate c w).next ≡ record { clock = w.clock; chain = rest w.chain; blocks = flatten (place_low (blank need g) b) }
  line_of need en w g b eg eb = λ i. record { clock = w.clock; chain = rest w.chain; blocks = flatten (place_low ((new_is (top w.chain) c need en ∙ ap (blank need) eg) i) (eb i)) }

  -- u is the zone before the call
  module _ (buf : ℕ) where
    abbrev u : Zone
    u = zone_at buf z

    does : (p : Plan) → Ready z c p → Does (allocate_relocatable c) buf z (told 0 (handle_in p)) (allocated (need_in p) (with_master_in d))
    does (InBay x) r =
        let k = r.goes.room_in.is_chain in
        let same : with_master u ≡ u = ap (λ (ls : List ℕ). cond (is_empty ls) (more_masters u) u) k in
        record {
          passed = r.passed buf;
          answer = ap (λ (w : Zone). told 0 (top w.chain)) same ∙ ap (λ (ls : List ℕ). told 0 (top ls)) k;
          line =
              ap (λ (w : Zone). in_line (allocate c w).next) same
              ∙ line_of x.need r.is_need u (top d.chain) (bays_of d) refl refl
              ∙ ap (allocated x.need) (sym (with-same d x.handle r.goes.room_in.ks k));
        }
    does (AfterGrowth g) r =
        let k = r.goes.growing.none in
        let more : with_master u ≡ more_masters u = ap (λ (ls : List ℕ). cond (is_empty ls) (more_masters u) u) k in
        record {
          passed = r.passed buf;
          answer = ap (λ (w : Zone). told 0 (top w.chain)) more ∙ ap (told 0) (ap first_block (count-bays d) ∙ sym r.goes.growing.first_is);
          line =
              ap (λ (w : Zone). in_line (allocate c w).next) more
              ∙ line_of g.need r.is_need (more_masters u) (top (grown_in d).chain) (bays_of (grown_in d)) refl (sym (bays₁ z g.need g.first g.end r.goes))
              ∙ ap (allocated g.need) (sym (with-more d k));
        }

    same_length : (work (allocate_relocatable c) u).next.len ≡ len d
    same_length = cond-one (λ (w : Zone). w.len) (is_empty d.chain) refl refl

module _ (s : List ℕ) (z : ZoneType) (o : Opened s z) (c : ℕ) (p : Plan) (r : Ready z.bytes.now c p) where
  -- the plan may be carried out in the buffer's bytes
  pub call-way : Way (take (length z.bytes.now) s) p
  call-way = rw o.there r.goes

  pub call-end : (y : List ℕ) → ((i : ℕ) → Fits w8 (get_or s i 0)) → y ≡ encode (allocated (need_in p) (with_master_in (decode_zone (take (length z.bytes.now) s))))
      → (h : ℕ) → h ≡ handle_in p → result_of (told 0 h) (y ++ drop (length z.bytes.now) s) ≡ call (allocate_relocatable c) s
  call-end y g q h eh =
      ap (λ (k : ℕ). result_of (told 0 k) (y ++ drop (length z.bytes.now) s)) eh
      ∙ zone-opened (allocate_relocatable c) s z o g (does z.bytes.now c (length s) p r) tt (same_length z.bytes.now c (length s)) y (rw o.there at q)
