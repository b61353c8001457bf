-- The laws of the walk over the blocks: what a turn keeps, and what the names that are noted tell at the end.
use mathlib.Core.Path.{◌≡◌, refl, sym, ◌∙◌}
use mathlib.Core.List.{List, [], ◌∷◌}
use mathlib.Core.Bool.{Bool, true, false, cond}
use Prim.Native.Nat.{ℕ, ◌+◌, ◌%◌, ◌<◌, ◌≤◌}
use native.Mathlib.Nat.{zero-add, add-zero}
use native.Mathlib.Omega.{arith}
use lib.Dec.{eqb, ltb}
use borrow.Author.Tests.{eqb-true, eqb-false, ltb-true, ltb-false}
use lib.ListN.{length, drop, replicate}
use Rattle.block_type.specs.Limits.{longest_zone, reloc_code, page_code, page_header}
use Rattle.format.specs.WellFormed.{type_of, is_free, is_reloc, is_page, name_of}
use Rattle.format.specs.Occurs.{occurs, one}
use Rattle.format.proofs.Bool.{not-both}
use Rattle.format.proofs.Count.{one_same, one-other}
use Rattle.format.proofs.Distinct.{once-distinct}
use Rattle.format.proofs.Walk.{end-names}
use Rattle.block_type.specs.declared.BlockType.{BlockType}
use Rattle.block_type.specs.declared.BlockType.TheVariants.{Free, Relocatable, Page}
use Rattle.block_type.proofs.Types.{same}
use Rattle.block_check.proofs.Leaves.{free_law, reloc-law, page-law, tiles-stop, tiles-step, tiles-count, tiles-end, tiles-end-count}
use Rattle.block_check.specs.Word.{IsBadBlock, GoodBlock}
use Rattle.names.specs.Pages.{names_at}
use Rattle.names.specs.Seen.{met, Noted}
use Rattle.names.proofs.seen.Laws.{none-met}
use Rattle.zone_check.specs.Body.{Walked, Seen, Found, Unseen, IsBad, Gone, Blocks}
use Rattle.std.specs.Prelude.{Option, None, Some, MatchOption}
use Rattle.std.specs.Option.{option_or}
use Rattle.zone_check.specs.declared.Tally.{Tally}
use Rattle.zone_check.proofs.Found.{found-on, found-past, found-end}

pub walked_start : (z : List ℕ) (first : ℕ) → 0 < first → first ≤ length z → first % 4 ≡ 0 → length z % 4 ≡ 0 → length z ≤ longest_zone → Walked z first first false 0
walked_start z first p h f g l =
    record {
      begins = h;
      begins_four = f;
      whole = g;
      limit = l;
      past = p;
      within = h;
      four = f;
      few = omega arith;
      is_ok = refl;
      is_count = zero-add _;
    }

cond-le : (a b : Bool) → (a ≡ true → b ≡ true) → cond a 1 0 ≤ cond b 1 0
cond-le true b f = rw (f refl) (omega arith)
cond-le false b f = omega arith

-- a block that breaks a rule
pub walk-bad : (z : List ℕ) (first at count : ℕ) (prev : Bool) → Walked z first at prev count → IsBadBlock z first prev at → at < length z → IsBad z first
walk-bad z first at count prev w b l = sym (tiles-stop z first at prev _ l b w.is_ok)

-- a page, and no table for its name
pub walk-stops : (x : ℕ) (z : List ℕ) (first at n count : ℕ) (got : Option ℕ) (prev page certain : Bool) (kind : BlockType) → Walked z first at prev count → GoodBlock z first prev at kind n → page ≡ same kind Page → page ≡ true
    → at < length z → (names_at z at ≡ names_at z first) → certain ≡ true → Found x z first at got → Gone x z first false at prev count certain got
walk-stops x z first at n count got prev page certain kind w b p y l e s f =
    record {
      good = w;
      stops = λ _. (refl, e, s);
      page_next = λ _. sym (page-law (drop at z) kind page b.kind_is p) ∙ y;
      is_distinct = λ k. let q : ⊥ = omega arith in absurd q;
      none = λ k. let q : ⊥ = omega arith in absurd q;
      finds = f;
    }

-- a name is noted only where all before were new
pub note-none : (table : List ℕ) (x : ℕ) → Noted table table x false
note-none table x = record { was_not = λ q. absurd (not-both q refl); is_met = λ q. absurd (not-both q refl); stays = λ q. absurd (not-both q refl) }

module _ (z : List ℕ) (first at n count : ℕ) (prev : Bool) (kind : BlockType) (w : Walked z first at prev count) (b : GoodBlock z first prev at kind n) where
  over : (free : Bool) (one : ℕ) → free ≡ is_free (drop at z) → one ≡ cond (is_reloc (drop at z)) 1 0 → one ≤ 1 → Walked z first (at + n) free (count + one)
  over free one f o few =
      let g = b.turn in
      record {
        begins = w.begins;
        begins_four = w.begins_four;
        whole = w.whole;
        limit = w.limit;
        past = omega (arith, w.past);
        within = g.fits;
        four = omega (arith, g.four, w.four);
        few = omega (arith, g.low, few, w.few);
        is_ok = tiles-step z first at n prev g free _ f w.is_ok;
        is_count = tiles-count z first at n prev g count one _ o w.is_count;
      }

  pub walked_on : (free moves : Bool) → moves ≡ same kind Relocatable → moves ≡ false → free ≡ same kind Free → Walked z first (at + n) free count
  walked_on free moves m y f =
      rw (add-zero count) at (over free 0 (free_law (drop at z) kind free b.kind_is f) (rw (← reloc-law (drop at z) kind moves b.kind_is m, y)) (omega arith))

  module _ (moves : Bool) (m : moves ≡ same kind Relocatable) (y : moves ≡ true) where
    code-here : type_of (drop at z) ≡ reloc_code
    unfolding is_reloc
    code-here = eqb-true (type_of (drop at z)) reloc_code (sym (reloc-law (drop at z) kind moves b.kind_is m) ∙ y)

    pub walked-reloc : Walked z first (at + n) false (count + 1)
    unfolding is_free is_reloc
    walked-reloc = let k = code-here in over false 1 (rw k) (rw k) (omega arith)

    pub reloc-other : is_page (drop at z) ≡ false
    unfolding is_page
    reloc-other = let k = code-here in rw k

  module _ (page : Bool) (p : page ≡ same kind Page) (q : page ≡ true) where
    page-here : is_page (drop at z) ≡ true
    page-here = sym (page-law (drop at z) kind page b.kind_is p) ∙ q

    pub page-fits : at + page_header ≤ length z
    page-fits = omega (arith, b.turn.long page-here, b.turn.fits)

    -- it is not free, and not relocatable
    pub walked-page : Walked z first (at + n) false count
    unfolding is_free is_reloc is_page
    walked-page =
        let k = eqb-true (type_of (drop at z)) page_code page-here in
        rw (add-zero count) at (over false 0 (rw k) (rw k) (omega arith))

    pub seen-page : (certain new : Bool) (table after : List ℕ) (x : ℕ) → Seen z table first at certain → x ≡ name_of (drop at z) → Noted table after x new → (new ≡ true → certain ≡ true) → Seen z after first (at + n) new
    unfolding occurs
    seen-page certain new table after x s e t only = record { once = go; left = λ y. omega (arith, rw split at (s.left y)); none = λ k. absurd (some k) }
      where
        split : names_at z at ≡ x ∷ names_at z (at + n)
        split = rw e ((rw page-here at b.turn.named))

        -- there is a name
        some : names_at z first ≡ [] → ⊥
        some k = omega (arith, one_same x x refl, rw (split, k) at (s.left x))

        go : new ≡ true → (y : ℕ) → occurs y (names_at z first) ≤ occurs y (names_at z (at + n)) + cond (met after y) 1 0
        go k y = on (eqb y x) refl (rw split at (s.once (only k) y))
          where
            on : (u : Bool) → eqb y x ≡ u → occurs y (names_at z first) ≤ occurs y (x ∷ names_at z (at + n)) + cond (met table y) 1 0
                → occurs y (names_at z first) ≤ occurs y (names_at z (at + n)) + cond (met after y) 1 0
            on true i l =
                let j = eqb-true y x i in
                let a : met table y ≡ false = rw j (t.was_not k) in
                let b : met after y ≡ true = rw j (t.is_met k) in
                rw b (omega (arith, rw a at l, one_same y x j))
            on false i l = omega (arith, one-other y x (eqb-false y x i), cond-le (met table y) (met after y) (t.stays k y))

    -- after a name that was not certainly new nothing is noted
    pub seen-lost : (certain : Bool) (table : List ℕ) (x : ℕ) → Seen z table first at certain → x ≡ name_of (drop at z) → certain ≡ false → Seen z table first (at + n) certain
    seen-lost certain table x s e q = seen-page certain certain table table x s e (rw q (note-none table x)) (λ k. k)

    pub found-page : (x v : ℕ) (got next : Option ℕ) → Found x z first at got → v ≡ name_of (drop at z) → next ≡ option_or got (cond (eqb v x) (Some at) None) → Found x z first (at + n) next
    found-page x v got next f e k = found-on x z first prev at n b.turn w.past page-here v got next e k f

  -- a block that is no page has no name
  pub page-other : (page : Bool) → page ≡ same kind Page → page ≡ false → is_page (drop at z) ≡ false
  page-other page p q = sym (page-law (drop at z) kind page b.kind_is p) ∙ q

  module _ (other-here : is_page (drop at z) ≡ false) where
    same_names : names_at z at ≡ names_at z (at + n)
    same_names = rw other-here at b.turn.named

    pub seen_other : (certain : Bool) (table : List ℕ) → Seen z table first at certain → Seen z table first (at + n) certain
    seen_other certain table s = record { once = λ k x. rw same_names at (s.once k x); left = λ x. rw same_names at (s.left x); none = s.none }

    pub found-other : (x : ℕ) (got : Option ℕ) → Found x z first at got → Found x z first (at + n) got
    found-other x got f = found-past x z first prev at n b.turn other-here got f

    pub named_other : names_at z at ≡ names_at z first → names_at z (at + n) ≡ names_at z first
    named_other e = sym same_names ∙ e

-- ---- the beginning and the end

-- at the first block, and at the first page
pub unseen_start : (z : List ℕ) (first : ℕ) → Unseen z [] first first true
unseen_start z first = record { same = refl; empty = none-met 0; sure = refl }

pub unseen_page : (z table : List ℕ) (first at n : ℕ) (certain : Bool) → table ≡ replicate n 0 → names_at z at ≡ names_at z first → certain ≡ true → Unseen z table first at certain
unseen_page z table first at n certain t e s = record { same = e; empty = λ x. rw t (none-met n x); sure = s }

pub seen_none : (z table : List ℕ) (first at : ℕ) (certain : Bool) → Unseen z table first at certain → Seen z table first at certain
seen_none z table first at certain u = record { once = λ _ x. rw (u.empty x, u.same) (omega arith); left = λ x. rw u.same (omega arith); none = λ _. u.sure }

pub found_none : (x : ℕ) (z : List ℕ) (first : ℕ) (page : Option ℕ) → page ≡ None → Found x z first first page
found_none x z first page e = record { page_is = rw e }

pub walk_ends : (x : ℕ) (z table : List ℕ) (first at count : ℕ) (page : Option ℕ) (tabled prev certain : Bool) → Walked z first at prev count → length z ≤ at → Seen z table first at certain
    → Found x z first at page → Gone x z first tabled at prev count certain page
unfolding occurs
walk_ends x z table first at count page tabled prev certain w l s f =
    record {
      good = w;
      stops = λ k. let q : ⊥ = omega arith in absurd q;
      page_next = λ k. let q : ⊥ = omega arith in absurd q;
      is_distinct = λ _ e. once-distinct (names_at z first) (λ y. le y (s.once e y));
      none = λ _. s.none;
      finds = f;
    }
  where
    le : (y : ℕ) → occurs y (names_at z first) ≤ occurs y (names_at z at) + cond (met table y) 1 0 → occurs y (names_at z first) ≤ 1
    le y k = omega (arith, rw (end-names z at l) at k, cond-le (met table y) true (λ _. refl))

-- ---- the two walks

module _ (x : ℕ) (z : List ℕ) (first at count : ℕ) (page : Option ℕ) (tabled prev certain : Bool) (g : Gone x z first tabled at prev count certain page) where
  -- no page was in the way
  pub one-walk : length z ≤ at → Blocks x z first count certain page
  one-walk l =
      record {
        is_ok = sym (tiles-end z first at prev _ l g.good.is_ok);
        is_count = tiles-end-count z at count _ l g.good.is_count;
        page_is = found-end x z first at page l g.finds;
        is_distinct = g.is_distinct l;
        none = g.none l;
      }

  -- or there was a table for names
  pub two-walks : tabled ≡ true → Blocks x z first count certain page
  two-walks h = one-walk (le (ltb at (length z)) refl)
    where
      le : (t : Bool) → ltb at (length z) ≡ t → length z ≤ at
      le true q = absurd (not-both h (g.stops (ltb-true at (length z) q)).0)
      le false q = ltb-false at (length z) q

  -- where the first page lies, and what is known there
  pub first-unseen : (table : List ℕ) (n : ℕ) → at < length z → table ≡ replicate n 0 → Unseen z table first at certain
  first-unseen table n l e = unseen_page z table first at n certain e (g.stops l).1 (g.stops l).2

-- the second walk, from the first page on
pub second-walk : (x y y' : ℕ) (z : List ℕ) (first : ℕ) (page : Option ℕ) (r : Option Tally) → MatchOption r (IsBad z first) (λ t. (y' ≡ y) × Gone y z first true t.at t.after_free t.count t.certain page) → y ≡ x
    → MatchOption r (IsBad z first) (λ t. Blocks x z first t.count t.certain page)
second-walk x y y' z first page None b e = b
second-walk x y y' z first page (Some t) g e = rw (← e) (two-walks y z first t.at t.count page true t.after_free t.certain g.1 refl)
