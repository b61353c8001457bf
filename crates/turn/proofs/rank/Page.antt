-- A page on the walk from block to block, by its name and its status word: its rank, and whether it goes.
use Rattle.std.proofs.Common.{◌≡◌, ℕ, ◌+◌, ◌-◌, ◌*◌, ◌%◌, ◌≤◌, Bool, true, false, cond, not, ◌&&◌, ltb, leb, List, length, take, drop, Option, Some, None, sym, refl, ap, ◌∙◌, arith, drop-drop, eqb-true}
use Rattle.bigendian.specs.BigEndian.{from_be, slice}
use Rattle.block_type.specs.Limits.{page_code, page_header, tag_at, status_at, dirty_bit, lock_bit, stamp_range, argument_range}
use borrow.Author.Tests.{eqb-false}
use Rattle.format.specs.WellFormed.{type_of, size_of, name_of, status_of, is_page}
use Rattle.format.proofs.Walk.{name-take, status-take}
use Rattle.kinds.specs.Kinds.{Key, Item, of_handle, of_name, page, status_in, key_code}
use Rattle.bay.specs.Bay.{free, held}
use Rattle.structure.specs.Structure.{Block, cell, fixed, code}
use Rattle.access.specs.row.Row.{block_at, Stepped}
use Rattle.access.proofs.locate.Pages.{page-block, block-kind, page-room}
use Rattle.turn.specs.Rank.{rank_range, rank, goes_b, key_below, key_loose_rank, loose_rank, dirty_rank_b, key_dirty_rank, key_ranked, ranked_b}
use Rattle.turn.specs.declared.rank.Ranked.{Ranked}

module _ (s : List ℕ) (p n : ℕ) (x : Stepped s p n) where
  module _ (t : Bool) (e : t ≡ is_page (drop p s)) (y : t ≡ true) where
    kind : type_of (drop p s) ≡ page_code
    unfolding is_page
    kind = eqb-true (type_of (drop p s)) page_code (sym e ∙ y)

    pub status-fits : p + status_at + 2 ≤ length s
    status-fits = omega (arith, page-room s p n x kind, x.fits)

    pub name-fits : p + tag_at + 4 ≤ length s
    name-fits = omega (arith, page-room s p n x kind, x.fits)

  module _ (t : Bool) (e : t ≡ is_page (drop p s)) (y : t ≡ true) (w : ℕ) (ew : w ≡ from_be (slice s (p + status_at) 2)) where
    abbrev q : type_of (drop p s) ≡ page_code
    q = kind t e y

    abbrev own : List ℕ
    own = take (size_of (drop p s)) (drop p s)

    room : page_header ≤ size_of (drop p s)
    room = omega (arith, page-room s p n x q, x.size_is)

    word-is : status_of own ≡ w
    unfolding status_of
    word-is = status-take (size_of (drop p s)) (drop p s) (omega (arith, room)) room ∙ (rw (drop-drop status_at p s) (sym ew))

    block-is : block_at s p ≡ cell (held (page (name_of own) (status_in w) (drop page_header own)))
    block-is = page-block own (block-kind s p n x q) ∙ ap (λ u. cell (held (page (name_of own) (status_in u) (drop page_header own)))) word-is

    module _ (f : Bool) (ef : f ≡ leb lock_bit (w % dirty_bit)) where
      pub ranked-locked : f ≡ true → (clock : ℕ) → None ≡ ranked_b clock (block_at s p)
      ranked-locked l clock = let m : leb lock_bit (w % dirty_bit) ≡ true = sym ef ∙ l in rw (block-is, m)

      module _ (l : f ≡ false) (v : ℕ) (ev : v ≡ from_be (slice s (p + tag_at) 4)) where
        name_is : name_of own ≡ v
        unfolding name_of
        name_is = name-take (size_of (drop p s)) (drop p s) (omega (arith, room)) room ∙ (rw (drop-drop tag_at p s) (sym ev))

        pub ranked-is : (clock r : ℕ) → r ≡ (stamp_range - 1 - (clock + stamp_range - w % stamp_range) % stamp_range) * argument_range + v
            → (d : Bool) → d ≡ leb dirty_bit w → Some (record { rank = r; dirty = d }) ≡ ranked_b clock (block_at s p)
        ranked-is clock r er d ed = let m : leb lock_bit (w % dirty_bit) ≡ false = sym ef ∙ l in rw (block-is, m, name_is, er, ed)

  -- of a block that is no page
  pub ranked-no : (t : Bool) → t ≡ is_page (drop p s) → t ≡ false → (clock : ℕ) → None ≡ ranked_b clock (block_at s p)
  unfolding is_page
  ranked-no t e n clock = go (block_at s p) (λ y. eqb-false (type_of (drop p s)) page_code (sym e ∙ n) (sym x.kind ∙ y))
    where
      key : (i : Key) → (key_code i ≡ page_code → ⊥) → None ≡ key_ranked clock i
      key (of_handle h) y = refl
      key (of_name m st) y = absurd (y refl)

      go : (b : Block) → (code b ≡ page_code → ⊥) → None ≡ ranked_b clock b
      go (cell (free i)) y = refl
      go (fixed d) y = refl
      go (cell (held i)) y = key i.key y

-- ---- what the answer says of the block

-- whether it goes
abbrev goes_in : ℕ → Option Ranked → Bool
goes_in t None = false
goes_in t (Some r) = ltb r.rank t

module _ (clock : ℕ) where
  goes-is : (t : ℕ) (b : Block) → goes_in t (ranked_b clock b) ≡ goes_b clock t b
  goes-is t (cell (free n)) = refl
  goes-is t (fixed d) = refl
  goes-is t (cell (held e)) = key e.key
    where
      key : (i : Key) → goes_in t (key_ranked clock i) ≡ key_below clock t i
      key (of_handle h) = refl
      key (of_name n s) = by s.lock
        where
          by : (l : Bool) → goes_in t (cond l None (Some (record { rank = rank clock n s; dirty = s.dirty }))) ≡ not l && ltb (rank clock n s) t
          by true = refl
          by false = refl

  pub goes-some : (t : ℕ) (b : Block) (o : Option Ranked) (r : Ranked) → o ≡ ranked_b clock b → o ≡ Some r → ltb r.rank t ≡ goes_b clock t b
  goes-some t b o r e q = ap (goes_in t) (sym q ∙ e) ∙ goes-is t b

  pub goes-none : (t : ℕ) (b : Block) (o : Option Ranked) → o ≡ ranked_b clock b → o ≡ None → false ≡ goes_b clock t b
  goes-none t b o e q = ap (goes_in t) (sym q ∙ e) ∙ goes-is t b

-- its rank, rank_range where it has none
abbrev pub loose_in : Option Ranked → ℕ
loose_in None = rank_range
loose_in (Some r) = r.rank

pub loose-is : (clock : ℕ) (e : Item) → loose_in (key_ranked clock e.key) ≡ loose_rank clock e
loose-is clock e = key e.key
  where
    key : (i : Key) → loose_in (key_ranked clock i) ≡ key_loose_rank clock i
    key (of_handle h) = refl
    key (of_name n s) = by s.lock
      where
        by : (l : Bool) → loose_in (cond l None (Some (record { rank = rank clock n s; dirty = s.dirty }))) ≡ cond l rank_range (rank clock n s)
        by true = refl
        by false = refl

-- its rank where it is dirty
abbrev pub dirty_in : Option Ranked → ℕ
dirty_in None = rank_range
dirty_in (Some r) = cond r.dirty r.rank rank_range

pub dirty-is : (clock : ℕ) (b : Block) → dirty_in (ranked_b clock b) ≡ dirty_rank_b clock b
dirty-is clock (cell (free n)) = refl
dirty-is clock (fixed d) = refl
dirty-is clock (cell (held e)) = key e.key
  where
    key : (i : Key) → dirty_in (key_ranked clock i) ≡ key_dirty_rank clock i
    key (of_handle h) = refl
    key (of_name n s) = by s.lock
      where
        by : (l : Bool) → dirty_in (cond l None (Some (record { rank = rank clock n s; dirty = s.dirty }))) ≡ cond (not l && s.dirty) (rank clock n s) rank_range
        by true = refl
        by false = refl
