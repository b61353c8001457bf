-- What stands in a buffer that holds a zone, read as plain bytes: live masters, the bytes of every block.
use mathlib.Core.Path.{◌≡◌, ap, sym, ◌∙◌, subst}
use mathlib.Core.Bool.{Bool, true}
use mathlib.Core.List.{List, ◌++◌}
use Prim.Native.Nat.{ℕ, ◌+◌, ◌-◌, ◌*◌, ◌/◌, ◌≤◌}
use native.Mathlib.Omega.{arith}
use lib.ListN.{length, drop}
use lib.Dec.{eqb}
use borrow.Author.Tests.{eqb-true}
use Rattle.block_type.specs.Limits.{master_size, zone_header, first_block}
use Rattle.bigendian.specs.BigEndian.{from_be, slice}
use Rattle.format.specs.WellFormed.{master_at}
use Rattle.structure.specs.Structure.{encode, place_of}
use Rattle.structure.proofs.Round as Round
use Rattle.structure.proofs.Round.{offset-is}
use Rattle.calls.specs.Bays.{Bays, last, more, find_f}
use Rattle.kinds.specs.Kinds.{Item, is}
use Rattle.calls.specs.State.{Fixed, pointer, master_count}
use Rattle.zone.specs.Search.{lookup}
use Rattle.zone.specs.Group.{flatten}
use Rattle.zone.specs.Work.{Zone}
use Rattle.zone.specs.Call.{in_line}
use Rattle.bay.proofs.Each.{Each, nothing, just, each-cond, each_weaken, each_and}
use Rattle.zone.proofs.Handles.{found}
use Rattle.bay.specs.Bay.{Cell, items}
use Rattle.bay.specs.Counted.{live}
use Rattle.zone.proofs.Stands as Old
use Rattle.zone.proofs.Stands.{AllF}
use Rattle.zone.proofs.Bytes.{zone_bytes, master_of, big}
use Rattle.zone.proofs.Keep.{Whole, valid-line, count-line, masters-same, masters-are}
use Rattle.zone.proofs.Run.{Stored}
use Rattle.zone.proofs.Encoders.{encoders, master-is, value-live}

find-all : (D : Fixed → Type 0) (p : Fixed → Bool) (s : Bays (List Cell) Fixed) → AllF D s → Each (λ (x : Fixed). D x × (p x ≡ true)) (find_f p s)
find-all D p (last b) d = nothing
find-all D p (more b x s) d = each-cond (p x) (λ e. just (d.0, e)) (find-all D p s d.1)

module _ (bs : List ℕ) (z : Zone) (w : Whole z) (s : Stored bs z) where
  in_buffer : {v : List ℕ} {at : ℕ} → Old.Stands (zone_bytes w.m z) at v → Old.Stands bs at v
  in_buffer {v} {at} k =
      let e : zone_bytes w.m z ++ drop z.len bs ≡ bs = ap (◌++ drop z.len bs) (encoders z w) ∙ sym s.split in
      subst (λ (l : List ℕ). Old.Stands l at v) e (Old.stands-before (drop z.len bs) k)

  in-line : {v : List ℕ} {at : ℕ} → Old.Stands (zone_bytes w.m z) at v → Old.Stands (encode (in_line z)) at v
  in-line {v} {at} k = subst (λ (l : List ℕ). Old.Stands l at v) (encoders z w) k

  -- a live handle's master, read from the buffer
  master-read : (h : ℕ) → 1 ≤ live h z.bays → master_at bs h ≡ master_of w.m z h
  master-read h l =
      let o = offset-is h zone_header w.m (omega (arith, masters-same w.m h, w.owned.owns h)) in
      let i : ℕ = (h - zone_header) / master_size in
      let e : zone_header + master_size * i ≡ h = omega (arith, o.0, o.2) in
      let k : Old.Stands (zone_bytes w.m z) h (big 4 (master_of w.m z h)) = subst (λ (q : ℕ). Old.Stands (zone_bytes w.m z) q (big 4 (master_of w.m z q))) e (Old.master-stands w.m z i (omega (arith, o.1))) in
      ap from_be (Old.stands_read (in_buffer k) ∙ sym (Old.stands_read (in-line k)))
      ∙ Round.master-is (in_line z) (valid-line z w) h (record { low = o.0; fits = omega (arith, count-line z w, o.1); four = o.2 })
      ∙ sym (master-is z w h)

  pub place_read : (h : ℕ) → 1 ≤ live h z.bays → master_at bs h ≡ place_of (is h) (first_block (master_count items z)) (flatten z.bays)
  place_read h l = master-read h l ∙ master-is z w h ∙ value-live z w h l ∙ ap (λ (m : ℕ). place_of (is h) (first_block m) (flatten z.bays)) (count-line z w ∙ sym (masters-are z w))

  -- a live handle's bytes stand from the offset in its master
  pub live-read : (h : ℕ) → Each (λ (e : Item). slice bs (master_at bs h) (length e.bytes) ≡ e.bytes) (lookup h z)
  live-read h =
      each_weaken (λ e q. ap (λ (p : ℕ). slice bs p (length e.bytes)) (master-read h q.1.once-live) ∙ Old.stands_read (in_buffer q.0))
      (each_and (Old.handle-stands w.m h z w.sound) (found w.m h z))

  -- a fixed block's bytes stand from its pointer
  pub fixed-read : (p : ℕ) → Each (λ (x : Fixed). slice bs p (length x.bytes) ≡ x.bytes) (find_f (λ (x : Fixed). eqb p (pointer x)) z.bays)
  fixed-read p =
      each_weaken (λ x q. Old.stands_read {at = p} (in_buffer (rw (eqb-true p (pointer x) q.1) q.0)))
      (find-all (λ (x : Fixed). Old.Stands (zone_bytes w.m z) (pointer x) x.bytes) (λ (x : Fixed). eqb p (pointer x)) z.bays (Old.pointers-stand w.m z w.sound w.placed))
