-- What lies in the place of a block with its free neighbours is free but for that block, and one free block written there frees it.
use mathlib.Core.Path.{◌≡◌, sym, ap, ap₂, ◌∙◌, subst}
use mathlib.Core.List.{List, [], ◌∷◌, ◌++◌, map, append_assoc}
use Prim.Native.Nat.{ℕ, ◌+◌, ◌-◌, ◌≤◌}
use native.Mathlib.Omega.{arith}
use lib.ListN.{length}
use Rattle.bigendian.specs.BigEndian.{to_be, overwrite}
use Rattle.block_type.specs.Limits.{master_size, zone_header, chain_at}
use Rattle.format.specs.WellFormed.{chain_field}
use Rattle.bay.specs.Bay.{free, gap}
use Rattle.bay.specs.Ends.{end_free, start_free}
use Rattle.structure.specs.Structure.{Block, cell, Structure, sizes, start, count, head_of, encode_block, encode, decode_zone, handles_of}
use Rattle.structure.specs.Valid.{Valid}
use Rattle.structure.proofs.Append.{sizes-append}
use Rattle.structure.proofs.Round.{offset-is}
use Rattle.structure.proofs.Table.{Whole, encode-zone, len_is, head-is}
use Rattle.structure.proofs.Sound.{valid-zone}
use Rattle.slide.specs.blank.Between.{Hole, Between}
use Rattle.free_block.specs.Around.{Around, Freeing}
use Rattle.free_block.proofs.Hole.{gap-hole}
use Rattle.free_block.proofs.Parts.{amount, before, after, old-parts, before-sizes, all-sizes-are, block-low}
use Rattle.free_block.proofs.Bytes.{freed-plain, master-in, freed-owned}
use Rattle.structure.proofs.IsZone.{whole_of}
use Rattle.structure.proofs.Cells.{gap-sizes}

module _ (z : List ℕ) (bs' : List Block) (b : Block) (from at end to : ℕ) (f : Freeing z bs' b from at end to) where
  w : Whole z
  w = whole_of z f.zone

  abbrev s : Structure
  s = decode_zone z

  v : Valid s
  v = valid-zone z w

  abbrev a : Around s.blocks bs' b
  a = f.around

  abbrev k : ℕ
  k = end_free a.low

  abbrev j : ℕ
  j = start_free a.high

  from_place : from ≡ start s + sizes (before s v a)
  from_place = omega (arith, f.from_is, f.at_is, before-sizes s v a)

  to-place : to ≡ from + amount s v a
  to-place = omega (arith, f.from_is, f.to_is, f.end_is)

  ahead : Hole z from at
  ahead =
      let e : s.blocks ≡ before s v a ++ (map cell (gap k []) ++ ((b ∷ map cell (gap j [])) ++ after s v a)) = old-parts s v a ∙ ap (before s v a ++◌) (append_assoc (map cell (gap k [])) (b ∷ map cell (gap j [])) (after s v a)) in
      let q : start s + sizes (before s v a) + k ≡ at = omega (arith, from_place, f.from_is) in
      subst (Hole z from) q (subst (λ (o : ℕ). Hole z o (start s + sizes (before s v a) + k)) (sym from_place) (gap-hole z f.zone k (before s v a) ((b ∷ map cell (gap j [])) ++ after s v a) e))

  behind : Hole z end to
  unfolding sizes
  behind =
      let l : List Block = before s v a ++ (map cell (gap k []) ++ b ∷ []) in
      let e : s.blocks ≡ l ++ (map cell (gap j []) ++ after s v a) = old-parts s v a ∙ (simp append_assoc) in
      let m : start s + sizes l ≡ end = omega (arith, sizes-append (before s v a) (map cell (gap k []) ++ b ∷ []), sizes-append (map cell (gap k [])) (b ∷ []), gap-sizes k, from_place, f.from_is, f.end_is) in
      subst (Hole z end) (sym f.to_is) (subst (λ (o : ℕ). Hole z o (o + j)) m (gap-hole z f.zone j l (after s v a) e))

  freeing-fits : to ≤ length z
  freeing-fits = omega (arith, from_place, to-place, all-sizes-are s v a, len_is z w, w.all)

  pub freeing-between : Between z from at end to
  freeing-between = record {
    low = omega (arith, f.from_is);
    order = omega (arith, f.end_is);
    some = omega (arith, f.from_is, f.to_is, f.end_is, block-low s v a);
    high = omega (arith, f.to_is);
    fits = freeing-fits;
    short = omega (arith, w.limit, w.all);
    ahead = ahead;
    behind = behind;
  }

  -- the bytes that are written
  abbrev x : List ℕ
  x = encode_block (cell (free (to - from)))

  x-is : x ≡ encode_block (cell (free (amount s v a)))
  x-is = let q : to - from ≡ amount s v a = omega (arith, to-place) in ap (λ (n : ℕ). encode_block (cell (free n))) q

  written : overwrite z from x ≡ overwrite (encode s) (start s + sizes (before s v a)) (encode_block (cell (free (amount s v a))))
  written =
      ap₂ (λ (y u : List ℕ). overwrite y from u) (sym (encode-zone z w)) x-is
      ∙ ap (λ (o : ℕ). overwrite (encode s) o (encode_block (cell (free (amount s v a))))) from_place

  pub freeing-plain : handles_of (b ∷ []) ≡ [] → (y : List ℕ) → y ≡ overwrite z from x → y ≡ encode (record { clock = s.clock; chain = s.chain; blocks = bs' })
  freeing-plain n y e = e ∙ written ∙ freed-plain s v a n

  module _ (h : ℕ) (n : handles_of (b ∷ []) ≡ h ∷ []) where
    -- the master lies in the zone
    pub freeing-master : h + master_size ≤ length z
    freeing-master = omega (arith, (offset-is h zone_header (count s) (master-in s v a h n)).1, len_is z w, w.all)

    pub freeing-owned : (head : ℕ) (y : List ℕ) → head ≡ chain_field z → y ≡ overwrite (overwrite (overwrite z from x) chain_at (to_be 2 h)) h (to_be 4 head) → y ≡ encode (record { clock = s.clock; chain = h ∷ s.chain; blocks = bs' })
    freeing-owned head y eh e =
        let q : head ≡ head_of s.chain = eh ∙ sym (head-is z w) in
        e ∙ ap₂ (λ (y : List ℕ) (k : ℕ). overwrite (overwrite y chain_at (to_be 2 h)) h (to_be 4 k)) written q ∙ freed-owned s v a h n
