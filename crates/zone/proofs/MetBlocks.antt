-- A walk through a zone's bytes meets the fixed blocks of its bays, and no others, and between them each bay's free bytes.
use mathlib.Core.Path.{◌≡◌, refl, ap, ap₂, sym, ◌∙◌}
use mathlib.Core.Bool.{Bool, true, false, cond, ◌&&◌}
use mathlib.Core.List.{List, [], ◌∷◌, ◌++◌, map, append-nil, append_assoc}
use Prim.Native.Nat.{ℕ, ◌+◌, ◌-◌, suc}
use native.Mathlib.Omega.{arith}
use native.Mathlib.Nat.{add-zero, zero-add, add_assoc}
use lib.ListN.{length, drop}
use lib.Dec.{eqb}
use Rattle.block_type.specs.Limits.{free_code, fixed_code, reloc_code, reloc_header, fixed_header, first_block}
use Rattle.format.specs.WellFormed.{header_ok, first_field, masters_field, chain_field, type_of, size_of, handle_of, is_free, split_blocks, zone_of, is_reloc}
use Rattle.format.specs.OneWalk.{block_ok, blocks_ok, body_ok}
use Rattle.format.proofs.Bool.{and_left, and_right}
use Rattle.format.proofs.Header.{first_of}
use Rattle.format.proofs.Walk.{is-good}
use Rattle.format.proofs.OneWalk.{one-walk}
use Rattle.format.proofs.Live.{body-parts}
use Rattle.structure.specs.Structure.{Structure, Block, fixed, size, by_type, decode_block, decode_zone, decode, cell}
use Rattle.structure.proofs.Decoded.{by, size-dec}
use Rattle.calls.specs.Roster.{Card}
use Rattle.ledger.specs.Space.{Spot, spot}
use Rattle.calls.specs.Bays.{Bays, last, more, concat_s}
use Rattle.bay.specs.Bay.{Cell, free, held, items, bay_size, bay_sum}
use Rattle.kinds.specs.Kinds.{item_size, item_in, masters_of, is}
use Rattle.kinds.proofs.KindLaws.{Read, is-header}
use Rattle.calls.specs.State.{Fixed, fsize, card, listed}
use Rattle.zone.specs.Group.{flat_bay, flatten}
use Rattle.zone.specs.Work.{Zone}
use Rattle.zone.specs.Claim.{fixed_met, reloc_met, free_met, fixed_in, reloc_in, free_in}
use Rattle.zone.proofs.Places.{Tiled, tile-last, tile-more}
use Rattle.zone.proofs.Keep.{Whole, masters-are}
use Rattle.zone.proofs.Run.{Stored, stored-well, stored-decode}
use Rattle.zone.proofs.Fields.{first_read}
use borrow.Author.Tests.{ne_eqb, eq-eqb}

-- place and size of each fixed block, in address order
abbrev pub spots_s : {B : Type 0} → Bays B Fixed → List Spot
spots_s (last b) = []
spots_s (more b x s) = spot x.place (fsize x) ∷ spots_s s

abbrev is_fixed : Block → Bool
is_fixed (cell (free n)) = false
is_fixed (fixed d) = true
is_fixed (cell (held it)) = false

-- the same of a structure's blocks, the first being at offset `at`
abbrev spots_b : ℕ → List Block → List Spot
spots_b at [] = []
spots_b at (b ∷ bs) = cond (is_fixed b) (spot at (size b) ∷ spots_b (at + size b) bs) (spots_b (at + size b) bs)

-- each bay's free bytes, in address order
abbrev pub sums_s : {B : Type 0} → (B → ℕ) → Bays B Fixed → List ℕ
sums_s μ (last b) = μ b ∷ []
sums_s μ (more b x s) = μ b ∷ sums_s μ s

abbrev free_size : Block → ℕ
free_size (cell (free n)) = n
free_size (fixed d) = 0
free_size (cell (held it)) = 0

-- the same of a structure's blocks; n of this bay have been met
abbrev sums_b : ℕ → List Block → List ℕ
sums_b n [] = n ∷ []
sums_b n (b ∷ bs) = cond (is_fixed b) (n ∷ sums_b 0 bs) (sums_b (n + free_size b) bs)

-- handle and data size of each relocatable block, in address order
abbrev pub cards_b : List Block → List Card
cards_b [] = []
cards_b (cell (free n) ∷ bs) = cards_b bs
cards_b (fixed d ∷ bs) = cards_b bs
cards_b (cell (held e) ∷ bs) = map (card e) (masters_of e) ++ cards_b bs

-- ---- from bytes to blocks

module _ (z : List ℕ) (first : ℕ) where
  -- a block that passes the test has the type that its bytes say
  fixed-dec : (prev : Bool) (at : ℕ) (b : List ℕ) → block_ok z first prev at b ≡ true → is_fixed (decode_block b) ≡ eqb (type_of b) fixed_code
  unfolding decode_block
  fixed-dec prev at b g =
      by z first prev at b g (λ k. is_fixed (by_type k (cell (free (size_of b))) (fixed (drop fixed_header b)) (cell (held (item_in b)))) ≡ eqb k fixed_code)
      (λ e. refl) (λ e. refl) (λ k e x. sym (ne_eqb (suc (suc k)) fixed_code (λ q. omega arith)))

  -- the walk meets what the decoded blocks have
  spots-decs : (prev : Bool) (at : ℕ) (bs : List (List ℕ)) → blocks_ok z first prev at bs ≡ true → fixed_met at bs ≡ spots_b at (map decode_block bs)
  unfolding blocks_ok fixed_met
  spots-decs prev at [] g = refl
  spots-decs prev at (b ∷ bs) g =
      let g₀ = and_left _ (blocks_ok z first (is_free b) (at + length b) bs) g in
      rw (
        fixed-dec prev at b g₀,
        size-dec z first prev at b g₀,
        (is-good z first prev at b g₀).whole,
        spots-decs (is_free b) (at + length b) bs (and_right (block_ok z first prev at b) _ g),
      )

  free-dec : (prev : Bool) (at : ℕ) (b : List ℕ) → block_ok z first prev at b ≡ true → free_size (decode_block b) ≡ cond (eqb (type_of b) free_code) (size_of b) 0
  unfolding decode_block
  free-dec prev at b g =
      by z first prev at b g (λ k. free_size (by_type k (cell (free (size_of b))) (fixed (drop fixed_header b)) (cell (held (item_in b)))) ≡ cond (eqb k free_code) (size_of b) 0)
      (λ e. refl) (λ e. refl) (λ k e x. rw (ne_eqb (suc (suc k)) free_code (λ q. omega arith)))

  sums-decs : (prev : Bool) (at n : ℕ) (bs : List (List ℕ)) → blocks_ok z first prev at bs ≡ true → free_met n bs ≡ sums_b n (map decode_block bs)
  unfolding blocks_ok free_met
  sums-decs prev at n [] g = refl
  sums-decs prev at n (b ∷ bs) g =
      let g₀ = and_left _ (blocks_ok z first (is_free b) (at + length b) bs) g in
      let rest = and_right (block_ok z first prev at b) _ g in
      rw (fixed-dec prev at b g₀, free-dec prev at b g₀)
      (ap₂ (cond (eqb (type_of b) fixed_code)) (ap (n ∷◌) (sums-decs (is_free b) (at + length b) 0 bs rest)) (sums-decs (is_free b) (at + length b) (n + cond (eqb (type_of b) free_code) (size_of b) 0) bs rest))

  card-dec : (prev : Bool) (at : ℕ) (b : List ℕ) (bs : List Block) → block_ok z first prev at b ≡ true
      → cond (eqb (type_of b) reloc_code) (record { handle = handle_of b; amount = size_of b - reloc_header } ∷ cards_b bs) (cards_b bs) ≡ cards_b (decode_block b ∷ bs)
  unfolding decode_block is_reloc
  card-dec prev at b bs g =
      by z first prev at b g (λ k. cond (is_reloc b) (record { handle = handle_of b; amount = size_of b - reloc_header } ∷ cards_b bs) (cards_b bs) ≡ cards_b (by_type k (cell (free (size_of b))) (fixed (drop fixed_header b)) (cell (held (item_in b))) ∷ bs))
      (λ e. rw e) (λ e. rw e) (λ k e x. its x (is_reloc b) (x.one (handle_of b)) ∙ ap (λ (hs : List ℕ). map (card (item_in b)) hs ++ cards_b bs) (sym x.masters))
    where
      its : Read b (item_in b) → (t : Bool) → is (handle_of b) (item_in b) ≡ t && eqb (handle_of b) (handle_of b)
          → cond t (record { handle = handle_of b; amount = size_of b - reloc_header } ∷ cards_b bs) (cards_b bs) ≡ map (card (item_in b)) (cond t (handle_of b ∷ []) []) ++ cards_b bs
      its x true q =
          let w : length (item_in b).bytes ≡ size_of b - reloc_header = omega (arith, x.size, is-header (handle_of b) (item_in b) (q ∙ eq-eqb (handle_of b) (handle_of b) refl), (is-good z first prev at b g).whole) in
          ap (λ (n : ℕ). record { handle = handle_of b; amount = n } ∷ cards_b bs) (sym w)
      its x false q = refl

  cards-decs : (prev : Bool) (at : ℕ) (bs : List (List ℕ)) → blocks_ok z first prev at bs ≡ true → reloc_met bs ≡ cards_b (map decode_block bs)
  unfolding blocks_ok reloc_met
  cards-decs prev at [] g = refl
  cards-decs prev at (b ∷ bs) g =
      let g₀ = and_left _ (blocks_ok z first (is_free b) (at + length b) bs) g in
      rw (cards-decs (is_free b) (at + length b) bs (and_right (block_ok z first prev at b) _ g)) (card-dec prev at b (map decode_block bs) g₀)

-- ---- from blocks to bays

-- the cells of a bay are no fixed blocks
spots-bay : (p : ℕ) (cs : List Cell) (r : List Block) → spots_b p (flat_bay cs r) ≡ spots_b (p + bay_size cs) r
spots-bay p [] r = ap (λ (q : ℕ). spots_b q r) (sym (add-zero p))
spots-bay p (free n ∷ cs) r = spots-bay (p + n) cs r ∙ ap (λ (q : ℕ). spots_b q r) (add_assoc p n (bay_size cs))
spots-bay p (held e ∷ cs) r = spots-bay (p + item_size e) cs r ∙ ap (λ (q : ℕ). spots_b q r) (add_assoc p (item_size e) (bay_size cs))

-- each fixed block's place is its offset
spots-strip : {p end : ℕ} {s : Bays (List Cell) Fixed} → Tiled p s end → spots_b p (flatten s) ≡ spots_s s
spots-strip (tile-last {p = p} {b = b} e) = spots-bay p b []
spots-strip (tile-more {p = p} {b = b} {x = x} {s = s} e t) =
    spots-bay p b (fixed x.bytes ∷ flatten s)
    ∙ ap (λ (q : ℕ). spot q (fsize x) ∷ spots_b (q + fsize x) (flatten s)) e
    ∙ ap (spot x.place (fsize x) ∷◌) (spots-strip t)

sums-bay : (n : ℕ) (cs : List Cell) (r : List Block) → sums_b n (flat_bay cs r) ≡ sums_b (n + bay_sum cs) r
sums-bay n [] r = ap (λ (q : ℕ). sums_b q r) (sym (add-zero n))
sums-bay n (free k ∷ cs) r = sums-bay (n + k) cs r ∙ ap (λ (q : ℕ). sums_b q r) (add_assoc n k (bay_sum cs))
sums-bay n (held e ∷ cs) r = sums-bay (n + 0) cs r ∙ ap (λ (q : ℕ). sums_b (q + bay_sum cs) r) (add-zero n)

sums-strip : (s : Bays (List Cell) Fixed) → sums_b 0 (flatten s) ≡ sums_s bay_sum s
sums-strip (last b) = sums-bay 0 b [] ∙ ap (◌∷ []) (zero-add (bay_sum b))
sums-strip (more b x s) = sums-bay 0 b (fixed x.bytes ∷ flatten s) ∙ ap₂ ◌∷◌ (zero-add (bay_sum b)) (sums-strip s)

cards-bay : (cs : List Cell) (r : List Block) → cards_b (flat_bay cs r) ≡ listed (items cs) ++ cards_b r
cards-bay [] r = refl
cards-bay (free n ∷ cs) r = cards-bay cs r
cards-bay (held e ∷ cs) r = ap (map (card e) (masters_of e) ++◌) (cards-bay cs r) ∙ sym (append_assoc (map (card e) (masters_of e)) (listed (items cs)) (cards_b r))

pub cards-strip : (s : Bays (List Cell) Fixed) → cards_b (flatten s) ≡ concat_s (λ (b : List Cell). listed (items b)) s
cards-strip (last b) = cards-bay b [] ∙ append-nil (listed (items b))
cards-strip (more b x s) = cards-bay b (fixed x.bytes ∷ flatten s) ∙ ap (listed (items b) ++◌) (cards-strip s)

-- ---- the buffer

module _ (bs : List ℕ) (z : Zone) (w : Whole z) (s : Stored bs z) where
  stored-walk : (header_ok bs && body_ok (zone_of bs) (first_field bs) (masters_field bs) (chain_field bs)) ≡ true
  stored-walk = sym (one-walk bs) ∙ stored-well bs z w s

  first_is : first_field bs ≡ first_block w.m
  first_is = first_read bs z w s ∙ ap first_block (masters-are z w)

  blocks-are : map decode_block (split_blocks (drop (first_field bs) (zone_of bs))) ≡ flatten z.bays
  unfolding decode decode_zone
  blocks-are =
      ap (λ (k : ℕ). map decode_block (split_blocks (drop k (zone_of bs)))) (sym (first_of bs (stored-well bs z w s)))
      ∙ ap (λ (u : Structure). u.blocks) (stored-decode bs z w s)

pub fixed-walk : (bs : List ℕ) (z : Zone) → Whole z → Stored bs z → fixed_in bs ≡ spots_s z.bays
fixed-walk bs z w s =
    let p = body-parts (zone_of bs) (first_field bs) (masters_field bs) (chain_field bs) (and_right (header_ok bs) _ (stored-walk bs z w s)) in
    spots-decs (zone_of bs) (first_field bs) false (first_field bs) _ p.walk
    ∙ ap₂ spots_b (first_is bs z w s) (blocks-are bs z w s)
    ∙ spots-strip w.placed.tiled

pub free_walk : (bs : List ℕ) (z : Zone) → Whole z → Stored bs z → free_in bs ≡ sums_s bay_sum z.bays
free_walk bs z w s =
    let p = body-parts (zone_of bs) (first_field bs) (masters_field bs) (chain_field bs) (and_right (header_ok bs) _ (stored-walk bs z w s)) in
    sums-decs (zone_of bs) (first_field bs) false (first_field bs) 0 _ p.walk ∙ ap (sums_b 0) (blocks-are bs z w s) ∙ sums-strip z.bays

pub reloc-walk : (bs : List ℕ) (z : Zone) → Whole z → Stored bs z → reloc_in bs ≡ concat_s (λ (b : List Cell). listed (items b)) z.bays
reloc-walk bs z w s =
    let p = body-parts (zone_of bs) (first_field bs) (masters_field bs) (chain_field bs) (and_right (header_ok bs) _ (stored-walk bs z w s)) in
    cards-decs (zone_of bs) (first_field bs) false (first_field bs) _ p.walk ∙ ap cards_b (blocks-are bs z w s) ∙ cards-strip z.bays
