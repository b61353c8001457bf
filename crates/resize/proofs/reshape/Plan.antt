-- What a plan hands over: the block of a live handle and what follows it are known, and a search has found its bay.
use mathlib.Core.Path.{◌≡◌, refl, sym, ap, ap₂, ◌∙◌, subst}
use mathlib.Core.Bool.{Bool, true}
use mathlib.Core.List.{List, [], ◌∷◌}
use Prim.Native.Nat.{ℕ, ◌+◌, ◌-◌, ◌%◌, ◌<◌, ◌≤◌}
use native.Mathlib.Omega.{arith}
use mir.Val.{Fits}
use mir.Syntax.{w64}
use borrow.Author.Tests.{le-leb}
use lib.ListN.{length}
use lib.Dec.{leb}
use Rattle.block_type.specs.Limits.{reloc_header, reloc_limit}
use Rattle.format.specs.WellFormed.{first_field}
use Rattle.kinds.specs.Kinds.{header_of}
use Rattle.calls.specs.Bays.{Bays}
use Rattle.calls.specs.State.{Fixed, own_sum}
use Rattle.bay.specs.Bay.{Cell, free, held, bay_sum, items}
use Rattle.bay.specs.Ends.{start_free}
use Rattle.bay.proofs.Laws.{bsize-append, bsum-append}
use Rattle.structure.specs.Structure.{Block, sizes, start, decode_zone}
use Rattle.structure.proofs.Table.{start_is}
use Rattle.access.specs.Edit.{data_in, data_of}
use Rattle.zone.proofs.GroupLaws.{flatten-group}
use Rattle.zone.proofs.Places.{Tiled}
use Rattle.bays.specs.Places.{bays_of, bays_at, bay_n, bay_at, own_bay}
use Rattle.bays.specs.Found.{Numbers}
use Rattle.bays.proofs.At.{own-bay, numbers_of}
use Rattle.bays.proofs.Zone.{zone-bays}
use Rattle.resize.specs.reshape.Own.{Own, bay_of, data_at, Known, known}
use Rattle.resize.specs.reshape.Here.{Here}
use Rattle.resize.specs.reshape.Grow.{Laid}
use Rattle.resize.proofs.reshape.Stays.{here_in}
use Rattle.structure.specs.IsZone.{IsZone}
use Rattle.structure.proofs.IsZone.{whole_of}

-- the bay of the block at offset t of some bays, the first of which begins at p and the last of which ends at `last`
found-own : (h p last t : ℕ) (s : Bays (List Cell) Fixed) (o : Own h s) → Tiled p s last → t + header_of o.mine ≡ data_at p o → own_bay t p s ≡ bay_at (p + sizes o.before) (bay_of o)
found-own h p last t s o d e =
    own-bay last t (o.at (λ (b : List Cell). b)) p d (omega arith) (omega (arith, bsize-append o.left (held o.mine ∷ o.right)))

-- the bay's numbers, as the search for the block's own bay answers them
own-numbers : (z : List ℕ) (i : IsZone z) (h at : ℕ) (o : Own h (bays_of (decode_zone z))) → at ≡ data_at (start (decode_zone z)) o → (first t : ℕ) → first ≡ first_field z → t ≡ at - reloc_header
    → (g : Bool) (from end sum tail : ℕ) → bay_n g from end sum tail ≡ own_bay t first (bays_at z first) → Numbers (start (decode_zone z)) o.before (bay_of o) from end sum tail
own-numbers z i h at o ea first t e et g from end sum tail q =
    let s = decode_zone z in
    let zb = zone-bays z i first e in
    let p : first ≡ start s = e ∙ sym (start_is z (whole_of z i)) in
    let d : Tiled (start s) (bays_of s) (length z) = subst (λ (j : ℕ). Tiled j (bays_of s) (length z)) p (subst (λ (u : Bays (List Cell) Fixed). Tiled first u (length z)) zb.bays zb.tiled) in
    numbers_of g from end sum tail (start s) o.before (bay_of o) (q ∙ ap₂ (λ (j : ℕ) (u : Bays (List Cell) Fixed). own_bay t j u) p zb.bays ∙ found-own h (start s) (length z) t (bays_of s) o d (omega arith))

module _ (z : List ℕ) (h at b f : ℕ) (k : Known z h at b f) where
  -- there is room right behind the block
  pub here_of : (a : ℕ) → a % 4 ≡ 0 → a ≤ reloc_limit → a ≤ b + f → Here z h at b f a
  here_of a four high l = go k
    where
      go : Known z h at b f → Here z h at b f a
      go (known i o ea eb ef) = here_in z i h o at b f ea eb ef a four high l

  pub known-word : Fits w64 (b + f)
  known-word = let x = here_of 0 refl (omega arith) (omega arith) in record { fits = omega (arith, x.end, x.short) }

  module _ (first t : ℕ) (e : first ≡ first_field z) (et : t ≡ at - reloc_header) (g : Bool) (from end sum tail : ℕ) (q : bay_n g from end sum tail ≡ own_bay t first (bays_at z first)) where
    -- the sum of its own bay
    pub own-sum : sum ≡ own_sum items bay_sum h (bays_of (decode_zone z))
    own-sum = go k
      where
        go : Known z h at b f → sum ≡ own_sum items bay_sum h (bays_of (decode_zone z))
        go (known i o ea eb ef) = (own-numbers z i h at o ea first t e et g from end sum tail q).sum_is ∙ sym o.sum

    -- there is room in its bay
    pub laid_of : (a : ℕ) → a % 4 ≡ 0 → a ≤ reloc_limit → b + f < a → a - b ≤ sum → Laid z h from end sum b a
    laid_of a four high l m = go k
      where
        go : Known z h at b f → Laid z h from end sum b a
        go (known i o ea eb ef) =
            let n = own-numbers z i h at o ea first t e et g from end sum tail q in
            record {
              zone = i;
              own = o;
              tail = tail;
              numbers = n;
              size = eb;
              grows = omega arith;
              enough = subst (λ (j : ℕ). a - b ≤ j) n.sum_is m;
              four = four;
              high = high;
            }

-- ---- what the definition asks: the sum of its own bay reaches the growth

abbrev Reached : List ℕ → ℕ → ℕ → Type 0
Reached z h a = leb (a - length (data_in z h)) (own_sum items bay_sum h (bays_of (decode_zone z))) ≡ true

reached : (z : List ℕ) (h a b : ℕ) (o : Own h (bays_of (decode_zone z))) → b ≡ length o.mine.bytes → a - b ≤ bay_sum (bay_of o) → Reached z h a
unfolding data_in
reached z h a b o eb l =
    let s = decode_zone z in
    let d : length (data_of h s.blocks) ≡ b = ap (λ (bs : List Block). length (data_of h bs)) (sym (flatten-group (start s) s.blocks)) ∙ ap length o.bytes ∙ sym eb in
    le-leb (a - length (data_of h s.blocks)) (own_sum items bay_sum h (bays_of s)) (rw (d, o.sum) l)

start-sum : (cs : List Cell) → start_free cs ≤ bay_sum cs
start-sum [] = omega arith
start-sum (free n ∷ cs) = omega arith
start-sum (held e ∷ cs) = omega arith

pub here-reached : (z : List ℕ) (h at b f a : ℕ) → Here z h at b f a → leb (a - length (data_in z h)) (own_sum items bay_sum h (bays_of (decode_zone z))) ≡ true
here-reached z h at b f a x = go x.is
  where
    go : Known z h at b f → Reached z h a
    go (known i o ea eb ef) = reached z h a b o eb (omega (arith, x.fits, bsum-append o.left (held o.mine ∷ o.right), start-sum o.right))

pub laid-reached : (z : List ℕ) (h from end sum b a : ℕ) → Laid z h from end sum b a → leb (a - length (data_in z h)) (own_sum items bay_sum h (bays_of (decode_zone z))) ≡ true
laid-reached z h from end sum b a x = reached z h a b x.own x.size x.enough
