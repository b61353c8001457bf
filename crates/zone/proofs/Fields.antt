-- The header of a buffer that holds a zone: the length, the number of masters, the first block's offset, and the chain's head, which is 0 exactly where
-- no handle is free; and the chain from there.
use mathlib.Core.Path.{◌≡◌, refl, ap, ap₂, sym, ◌∙◌}
use mathlib.Core.List.{List, [], ◌∷◌}
use Prim.Native.Nat.{ℕ, ◌+◌, ◌-◌, ◌≤◌}
use native.Mathlib.Omega.{arith}
use lib.ListN.{length, drop}
use Rattle.bigendian.specs.BigEndian.{from_be}
use Rattle.bigendian.proofs.Parts.{slice-take}
use Rattle.block_type.specs.Limits.{zone_header, first_block, chain_at}
use Rattle.format.specs.WellFormed.{length_field, first_field, masters_field, chain_field, split_blocks, relocs, chain, zone_of, clock_field}
use Rattle.format.proofs.Chain.{length-chain}
use Rattle.structure.specs.Structure.{Structure, count, head_of, decode_zone, decode}
use Rattle.structure.proofs.Round.{heads, offset-is}
use Rattle.calls.specs.State.{master_count}
use Rattle.bay.specs.Bay.{items}
use Rattle.zone.specs.Work.{Zone}
use Rattle.zone.specs.Call.{in_line}
use Rattle.zone.proofs.Handles.{chained}
use Rattle.zone.proofs.Keep.{Whole, many-strip, masters-same, valid-line, len-line}
use Rattle.zone.proofs.Run.{Stored, stored-decode}

module _ (bs : List ℕ) (z : Zone) (w : Whole z) (s : Stored bs z) where
  many : count (in_line z) ≡ master_count items z
  many = ap (◌+ length z.chain) (many-strip z.bays)

  pub length-read : length_field bs ≡ z.len
  length-read = ap length_field s.split ∙ (heads (in_line z) (valid-line z w) (drop z.len bs)).is_len ∙ len-line z w

  pub header-fits : zone_header ≤ length_field bs
  header-fits = omega (arith, length-read, len-line z w)

  pub masters-read : masters_field bs ≡ master_count items z
  masters-read = ap masters_field s.split ∙ (heads (in_line z) (valid-line z w) (drop z.len bs)).is_masters ∙ many

  pub first_read : first_field bs ≡ first_block (master_count items z)
  first_read = ap first_field s.split ∙ (heads (in_line z) (valid-line z w) (drop z.len bs)).is_first ∙ ap first_block many

  pub clock-read : clock_field bs ≡ z.clock
  clock-read = ap clock_field s.split ∙ (heads (in_line z) (valid-line z w) (drop z.len bs)).is-clock

  pub chain-read : chain_field bs ≡ head_of z.chain
  chain-read = ap chain_field s.split ∙ (heads (in_line z) (valid-line z w) (drop z.len bs)).is_chain

  -- the chain, as the bytes of the zone have it
  pub chain-walk : chain (zone_of bs) (length z.chain) (chain_field bs) ≡ z.chain
  unfolding decode decode_zone
  chain-walk =
      let n : ℕ = masters_field (zone_of bs) - relocs (split_blocks (drop (first_field (zone_of bs)) (zone_of bs))) in
      let head : chain_field (zone_of bs) ≡ chain_field bs = ap from_be (slice-take bs (length_field bs) chain_at 2 (omega (arith, header-fits))) in
      let all : chain (zone_of bs) n (chain_field (zone_of bs)) ≡ z.chain = ap (λ (u : Structure). u.chain) (stored-decode bs z w s) in
      ap₂ (chain (zone_of bs)) (ap length (sym all) ∙ length-chain (zone_of bs) n (chain_field (zone_of bs))) (sym head) ∙ all

  -- 0 is no master's offset
  pub none_free : chain_field bs ≡ 0 → z.chain ≡ []
  none_free e = go z.chain refl
    where
      go : (hs : List ℕ) → z.chain ≡ hs → hs ≡ []
      go [] q = refl
      go (h ∷ hs) q =
          let k = offset-is h zone_header w.m (omega (arith, masters-same w.m h, (chained w.m z w.owned h hs q).1)) in
          absurd (omega (arith, e, chain-read, ap head_of q, k.0))
