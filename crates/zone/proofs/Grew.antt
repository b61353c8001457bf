-- What an accepted allocation leaves that found no free handle.
use mathlib.Core.Path.{◌≡◌, refl, ap, sym, ◌∙◌, subst}
use mathlib.Core.Bool.{true, false, cond}
use mathlib.Core.List.{List, []}
use Prim.Native.Nat.{ℕ, ◌+◌, ◌-◌}
use native.Mathlib.Omega.{arith}
use lib.ListN.{length}
use Rattle.bigendian.specs.BigEndian.{Bytes}
use Rattle.block_type.specs.Limits.{first_block, master_size, added_masters}
use Rattle.format.specs.WellFormed.{masters_field, chain_field, chain, offsets, zone_of}
use Rattle.format.proofs.Count.{length-offsets}
use Rattle.calls.specs.Calls.{Target, by_handle, by_pointer, by_name, allocate_relocatable, size, Answer}
use Rattle.calls.specs.Bays.{over}
use Rattle.calls.specs.State.{master_count, content, top, rest}
use Rattle.calls.specs.Table.{is_none, is_empty, refusal_of}
use Rattle.calls.proofs.First.{or_left}
use Rattle.bay.specs.Bay.{items}
use Rattle.bay.proofs.Each.{cond-one}
use Rattle.zone.specs.Work.{Zone, facts, more_masters, with_master, work}
use Rattle.zone.specs.Call.{Result, zone_in}
use Rattle.zone.specs.Promise.{Promise}
use Rattle.zone.specs.Growth.{Grew}
use Rattle.zone.proofs.Passed.{passed}
use Rattle.zone.proofs.Keep.{Whole, offsets-same}
use Rattle.zone.proofs.WithMaster.{more-head}
use Rattle.zone.proofs.MoreMasters.{more-masters}
use Rattle.zone.proofs.Grouped.{work-whole, work-masters}
use Rattle.zone.proofs.Run.{Stored, number_is, call-worked, well-whole, well-stored, work-stored}
use Rattle.zone.proofs.Fields.{length-read, masters-read, first_read, chain-walk, none_free}
use Rattle.zone.proofs.MetBlocks.{fixed-walk}
use Rattle.zone.proofs.Accepted.{Accepted, accepted}
use Rattle.zone.proofs.Bystanders.{spots-kept, content-kept}
use Rattle.zone.proofs.ReadSame.{read_same}
use Rattle.zone.proofs.Chain.{no-growth}

-- a block is there
named : (t : Target) (z : Zone) → refusal_of (size t) (facts true z) ≡ 0 → is_none (over length (content items t z.bays)) ≡ false
named (by_handle h) z e = or_left _ _ (passed (size (by_handle h)) z e 6 refl)
named (by_pointer p) z e = or_left _ _ (passed (size (by_pointer p)) z e 7 refl)
named (by_name n) z e = or_left _ _ (passed (size (by_name n)) z e 13 refl)

module _ (c : ℕ) (bs after : List ℕ) (a : Answer) (y : Bytes bs) (p : Promise (allocate_relocatable c) bs a after) (d : a.number ≡ 0) (f : chain_field bs ≡ 0) where
  k : Accepted (allocate_relocatable c) bs
  k = accepted (allocate_relocatable c) bs (λ n v. refl) refl (sym (ap (λ (r : Result). r.answer.number) p) ∙ d)

  abbrev z : Zone
  z = zone_in bs

  w : Whole z
  w = well-whole bs y k.well

  s : Stored bs z
  s = well-stored bs y k.well

  abbrev u : Zone
  u = (work (allocate_relocatable c) z).next

  w' : Whole u
  w' = work-whole (allocate_relocatable c) z tt w k.passed

  s' : Stored after u
  s' = subst (λ (b : List ℕ). Stored b u) (sym (ap (λ (r : Result). r.bytes) p)) (work-stored bs y k.well (allocate_relocatable c) tt k.passed)

  none : z.chain ≡ []
  none = none_free bs z w s f

  grows : with_master z ≡ more_masters z
  grows = ap (λ (hs : List ℕ). cond (is_empty hs) (more_masters z) z) none

  more : masters_field after ≡ masters_field bs + added_masters
  more =
      masters-read after u w' s'
      ∙ work-masters (allocate_relocatable c) z tt w k.passed
      ∙ ap (master_count items) grows
      ∙ more-masters z none
      ∙ ap (◌+ added_masters) (sym (masters-read bs z w s))

  handle : a.value ≡ first_block (masters_field bs)
  handle =
      ap (λ (r : Result). r.answer.value) (p ∙ call-worked bs z w s (allocate_relocatable c) k.passed)
      ∙ ap (λ (v : Zone). top v.chain) grows
      ∙ more-head z
      ∙ ap first_block (sym (masters-read bs z w s))

  -- the new masters behind its own
  behind : u.chain ≡ offsets (a.value + master_size) (added_masters - 1)
  behind =
      ap (λ (v : Zone). rest v.chain) grows
      ∙ offsets-same (first_block (master_count items z) + master_size) (added_masters - 1)
      ∙ ap (λ (h : ℕ). offsets (h + master_size) (added_masters - 1)) (ap first_block (sym (masters-read bs z w s)) ∙ sym handle)

  many : length u.chain ≡ added_masters - 1
  many = ap length behind ∙ length-offsets (a.value + master_size) (added_masters - 1)

  pub grew : Grew bs after a.value
  grew = record {
    handle = handle;
    masters = more;
    first = omega (arith, first_read after u w' s', masters-read after u w' s', more, first_read bs z w s, masters-read bs z w s);
    long = length-read after u w' s' ∙ cond-one (λ (v : Zone). v.len) (is_empty z.chain) refl refl ∙ sym (length-read bs z w s);
    chained = ap (λ (n : ℕ). chain (zone_of after) n (chain_field after)) (sym many) ∙ chain-walk after u w' s' ∙ behind;
    kept = λ t i n second q. read_same w' s' w s t i n second (content-kept c z w k.passed t (named t z (sym (number_is bs z w s (size t)) ∙ q)));
    still = fixed-walk after u w' s' ∙ spots-kept c z ∙ sym (fixed-walk bs z w s);
    seven = λ cs v end h l. no-growth u w' s' h l (omega (arith, many));
  }
