-- The structure of a well-formed zone is valid.
use mathlib.Core.Path.{◌≡◌, refl, sym, ap, ◌∙◌, subst}
use mathlib.Core.List.{List, [], ◌∷◌, map}
use mathlib.Core.Bool.{Bool, true, false, cond, not}
use Prim.Native.Nat.{ℕ, zero, suc, ◌+◌, ◌-◌, ◌<◌, ◌≤◌}
use native.Mathlib.Omega.{arith}
use lib.Dec.{eqb}
use borrow.Author.Tests.{not-true, ne_eqb}
use lib.ListN.{length, drop, length-append, length-drop}
use Rattle.format.specs.Occurs.{occurs}
use Rattle.block_type.specs.Limits.{longest_zone, zone_header, fixed_header, free_code, clock_at}
use Rattle.bigendian.specs.BigEndian.{Bytes}
use Rattle.bigendian.proofs.Bytes.{bytes_drop, bytes_left, bytes-right}
use Rattle.format.proofs.Bool.{and_left, and_right}
use Rattle.format.specs.WellFormed.{first_field, masters_field, chain_field, type_of, size_of, handle_of, name_of, is_free, is_reloc, is_page, split_blocks, relocs, names, well_formed, zone_of, offsets, chain}
use Rattle.format.specs.OneWalk.{type_rule, free_rule, block_ok, blocks_ok, rule_of}
use Rattle.format.proofs.Walk.{Good, is-good, size-used}
use Rattle.format.proofs.Masters.{Master}
use Rattle.format.proofs.Count.{occurs-offset, all-at}
use Rattle.format.proofs.Live.{owned}
use Rattle.format.proofs.Chain.{chain-low}
use Rattle.format.proofs.Handles.{handles, handles-high}
use Rattle.structure.specs.Structure.{fixed, decode_block, by_type, join, decode_zone, decode, cell, handles_of, names_in}
use Rattle.kinds.specs.Kinds.{item_in}
use Rattle.kinds.proofs.KindLaws.{read}
use Rattle.bay.specs.Bay.{free, held}
use Rattle.structure.proofs.Codec.{join-blocks}
use Rattle.structure.proofs.Table.{Whole, whole, count-is, len_is}
use Rattle.structure.proofs.Round.{offset-is}
use Rattle.structure.specs.Valid.{Tiled, Valid}
use Rattle.structure.proofs.Decoded.{handle-dec, names-dec}
use Rattle.format.proofs.Distinct.{distinct-once}

module _ (z : List ℕ) (first : ℕ) where
  pub handles-decs : (prev : Bool) (at : ℕ) (bs : List (List ℕ)) → blocks_ok z first prev at bs ≡ true → handles_of (map decode_block bs) ≡ handles bs
  unfolding handles blocks_ok handles_of
  handles-decs prev at [] g = refl
  handles-decs prev at (b ∷ bs) g =
      handle-dec z first prev at b (and_left _ (blocks_ok z first (is_free b) (at + length b) bs) g) (map decode_block bs)
      ∙ ap (λ (hs : List ℕ). cond (is_reloc b) (handle_of b ∷ hs) hs) (handles-decs (is_free b) (at + length b) bs (and_right (block_ok z first prev at b) _ g))

  pub names-decs : (prev : Bool) (at : ℕ) (bs : List (List ℕ)) → blocks_ok z first prev at bs ≡ true → names_in (map decode_block bs) ≡ names bs
  unfolding names blocks_ok names_in
  names-decs prev at [] g = refl
  names-decs prev at (b ∷ bs) g =
      names-dec z first prev at b (and_left _ (blocks_ok z first (is_free b) (at + length b) bs) g) (map decode_block bs)
      ∙ ap (λ (ns : List ℕ). cond (is_page b) (name_of b ∷ ns) ns) (names-decs (is_free b) (at + length b) bs (and_right (block_ok z first prev at b) _ g))

  pub tiled-decs : (prev : Bool) (at : ℕ) (bs : List (List ℕ)) → blocks_ok z first prev at bs ≡ true → Bytes (join bs) → length (join bs) ≤ longest_zone → Tiled prev (map decode_block bs)
  unfolding blocks_ok join decode_block is_free type_rule free_rule
  tiled-decs prev at [] g y u = tt
  tiled-decs prev at (b ∷ bs) g y u =
      let g₀ = and_left _ (blocks_ok z first (is_free b) (at + length b) bs) g in
      let gb = is-good z first prev at b g₀ in
      let l = length-append b (join bs) in
      go (type_of b) refl gb gb.rule (bytes_left b (join bs) y) (omega arith)
      (tiled-decs (is_free b) (at + length b) bs (and_right (block_ok z first prev at b) _ g) (bytes-right b (join bs) y) (omega arith))
    where
      go : (k : ℕ) → type_of b ≡ k → Good z first prev at b → rule_of k z first prev at b b ≡ true → Bytes b → length b ≤ longest_zone
          → Tiled (eqb k free_code) (map decode_block bs) → Tiled prev (by_type k (cell (free (size_of b))) (fixed (drop fixed_header b)) (cell (held (item_in b))) ∷ map decode_block bs)
      go zero e gb r y u t = (not-true prev (and_left (not prev) _ r), gb.low, gb.four, omega (arith, gb.whole), t)
      go (suc zero) e gb r y u t = (omega (arith, gb.low, gb.four, gb.whole, length-drop fixed_header b), omega (arith, gb.four, gb.whole, length-drop fixed_header b, size-used b 0 e), bytes_drop fixed_header b y, t)
      go (suc (suc k)) e gb r y u t = let x = read z first prev at b k (and_left _ (blocks_ok z first (is_free b) (at + length b) bs) g) e in
          (rw (x.size, ← gb.whole) gb.four, omega (arith, gb.four, gb.whole, x.size, size-used b (suc k) e), x.written y, (rw (ne_eqb (suc (suc k)) free_code (λ q. omega arith)) at t))

module _ (z : List ℕ) (w : Whole z) where
  abbrev bs : List (List ℕ)
  bs = split_blocks (drop (first_field z) z)

  abbrev ch : List ℕ
  ch = chain z (masters_field z - relocs bs) (chain_field z)

  -- a handle or a link is a master
  any-master : (h : ℕ) → 0 < occurs h (handles bs) + occurs h ch → Master (first_field z) h
  any-master h l = go (occurs h ch) refl
    where
      go : (n : ℕ) → occurs h ch ≡ n → Master (first_field z) h
      go zero e = (all-at _ h (handles bs) (handles-high z (first_field z) false (first_field z) bs w.parts.walk) (omega arith)).0
      go (suc n) e = (all-at _ h ch (chain-low z (first_field z) (masters_field z - relocs bs) (chain_field z) (omega (arith, w.begin)) w.parts.ends) (omega arith)).0

  owns : (h : ℕ) → occurs h (handles bs) + occurs h ch ≡ occurs h (offsets zone_header (masters_field z))
  owns h = go (occurs h (handles bs) + occurs h ch) (occurs h (offsets zone_header (masters_field z))) refl refl
    where
      both : Master (first_field z) h → occurs h (handles bs) + occurs h ch ≡ occurs h (offsets zone_header (masters_field z))
      both m =
          owned z (first_field z) (masters_field z) (chain_field z) w.begin w.parts h m
          ∙ sym (occurs-offset h zone_header (masters_field z) m.low (omega (arith, m.fits, w.begin)) m.four)

      go : (a b : ℕ) → occurs h (handles bs) + occurs h ch ≡ a → occurs h (offsets zone_header (masters_field z)) ≡ b → occurs h (handles bs) + occurs h ch ≡ occurs h (offsets zone_header (masters_field z))
      go zero zero p q = p ∙ sym q
      go (suc a) b p q = both (any-master h (omega arith))
      go zero (suc b) p q = let r = offset-is h zone_header (masters_field z) (omega arith) in both (record { low = r.0; fits = omega (arith, r.1, w.begin); four = r.2 })

  pub valid-zone : Valid (decode_zone z)
  unfolding decode_zone
  valid-zone =
      let j = join-blocks z (first_field z) false (first_field z) (drop (first_field z) z) w.parts.walk in
      record {
        tiled = tiled-decs z (first_field z) false (first_field z) bs w.parts.walk (subst Bytes (sym j) (bytes_drop (first_field z) z w.bytes))
            (omega (arith, ap length j, length-drop (first_field z) z, w.all, w.limit));
        owned = λ h. ap (λ (hs : List ℕ). occurs h hs + occurs h ch) (handles-decs z (first_field z) false (first_field z) bs w.parts.walk)
            ∙ owns h ∙ ap (λ (n : ℕ). occurs h (offsets zone_header n)) (sym (count-is z w));
        apart = λ n. rw (names-decs z (first_field z) false (first_field z) bs w.parts.walk) (distinct-once (names bs) w.parts.apart n);
        byte = w.bytes clock_at;
        few = omega (arith, count-is z w, w.few);
        short = omega (arith, len_is z w, w.limit);
      }

-- the structure of a well-formed buffer is valid
pub valid : (s : List ℕ) → Bytes s → well_formed s ≡ true → Valid (decode s)
unfolding decode
valid s y h = valid-zone (zone_of s) (whole s y h)
