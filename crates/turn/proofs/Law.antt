-- THE LAW OF THE TURN: the pages that go for a need are the unlocked pages of rank below t, where t is the least limit below which they are enough.
use Rattle.std.proofs.Common.{◌≡◌, ℕ, ◌+◌, ◌%◌, ◌≤◌, Bool, true, false, cond, not, ◌&&◌, ltb, leb, List, [], ◌∷◌, refl, ap, ◌∙◌, ap₂, arith, ltb-true, le-ltb, lt-ltb, le-leb}
use mathlib.Core.Option.{none, some}
use borrow.Author.Tests.{lt-leb}
use Rattle.block_type.specs.Limits.{argument_range}
use Rattle.format.proofs.Bool.{not-both}
use Rattle.kinds.specs.Kinds.{Key, of_handle, of_name, Item, KeyFits, item_size}
use Rattle.calls.specs.Bays.{Bays, last, more, map_s, concat_s}
use Rattle.calls.specs.State.{Fixed, State}
use Rattle.calls.specs.Pages.{Candidate, key_unlocked, unlocked, in_turn, among, freed, sum_without, first_dirty, dropping}
use Rattle.calls.proofs.Pages.{Of, of-here, of-there, of_left, of_right, without-same}
use Rattle.bay.specs.Bay.{Cell, free, held, items, bay_sum, gap, release}
use Rattle.turn.specs.Rank.{rank_range, rank, key_below, goes, least_dirty}
use Rattle.turn.specs.Limit.{sum_below, Least}
use Rattle.turn.proofs.Ranks.{Named, turn-rises}
use Rattle.turn.proofs.Fronts.{front, shortest-front}
use Rattle.turn.proofs.Among.{front-among}
use Rattle.turn.proofs.Dirty.{turn-dirty}

-- ---- blocks that pass one test where they pass the other

release-same : (t u : Item → Bool) (b : List Cell) → ((e : Item) → Of e (items b) → t e ≡ u e) → release t b ≡ release u b
release-same t u [] f = refl
release-same t u (free n ∷ b) f = ap (gap n) (release-same t u b f)
release-same t u (held e ∷ b) f = rw (f e of-here, release-same t u b (λ d o. f d (of-there o)))

pub releases-same : (t u : Item → Bool) (s : Bays (List Cell) Fixed) → ((e : Item) → Of e (concat_s items s) → t e ≡ u e) → map_s (release t) s ≡ map_s (release u) s
releases-same t u (last b) f = ap last (release-same t u b f)
releases-same t u (more b x s) f =
    ap₂ (λ c r. more c x r) (release-same t u b (λ e o. f e (of_left (concat_s items s) o))) (releases-same t u s (λ e o. f e (of_right (items b) o)))

-- ---- with the limit 0 no page goes; a higher limit frees as much; the highest frees every unlocked page

pub none-goes : (ck : ℕ) (e : Item) → goes ck 0 e ≡ false
none-goes ck e = go e.key
  where
    go : (k : Key) → key_below ck 0 k ≡ false
    go (of_handle h) = refl
    go (of_name n s) = rw (le-ltb (rank ck n s) 0 (omega arith)) (none s.lock)
      where
        none : (a : Bool) → not a && false ≡ false
        none true = refl
        none false = refl

freed-most : (t u : Item → Bool) (es : List Item) → ((e : Item) → t e ≡ true → u e ≡ true) → freed t es ≤ freed u es
freed-most t u [] f = omega arith
freed-most t u (e ∷ es) f = go (t e) (u e) (f e) (freed-most t u es f)
  where
    go : (a b : Bool) → (a ≡ true → b ≡ true) → freed t es ≤ freed u es → cond a (item_size e + freed t es) (freed t es) ≤ cond b (item_size e + freed u es) (freed u es)
    go true true q l = omega arith
    go true false q l = absurd (not-both (q refl) refl)
    go false true q l = omega arith
    go false false q l = l

goes-more : (ck t u : ℕ) → t ≤ u → (e : Item) → goes ck t e ≡ true → goes ck u e ≡ true
goes-more ck t u l e q = go e.key q
  where
    go : (k : Key) → key_below ck t k ≡ true → key_below ck u k ≡ true
    go (of_handle h) q = q
    go (of_name n s) q = by s.lock (ltb (rank ck n s) t) refl q
      where
        by : (a b : Bool) → ltb (rank ck n s) t ≡ b → not a && b ≡ true → not a && ltb (rank ck n s) u ≡ true
        by true b p q = q
        by false true p q = lt-ltb (rank ck n s) u (omega (arith, ltb-true (rank ck n s) t p))
        by false false p q = absurd (not-both q refl)

goes-all : (ck : ℕ) (e : Item) → KeyFits e.key → goes ck rank_range e ≡ unlocked e
goes-all ck e f = go e.key f
  where
    go : (k : Key) → KeyFits k → key_below ck rank_range k ≡ key_unlocked k
    go (of_handle h) f = refl
    go (of_name n s) f = rw (lt-ltb (rank ck n s) rank_range (omega (arith, f.0))) (and-true (not s.lock))
      where
        and-true : (a : Bool) → a && true ≡ a
        and-true true = refl
        and-true false = refl

module _ {B : Type 0} (all : B → List Item) (μ : B → ℕ) where
  pub without_more : (ck t u : ℕ) → t ≤ u → (s : Bays B Fixed) → sum_without all μ (goes ck t) s ≤ sum_without all μ (goes ck u) s
  without_more ck t u l (last b) = omega (arith, freed-most (goes ck t) (goes ck u) (all b) (goes-more ck t u l))
  without_more ck t u l (more b x s) = omega (arith, freed-most (goes ck t) (goes ck u) (all b) (goes-more ck t u l), without_more ck t u l s)

  pub without_all : (ck : ℕ) (s : Bays B Fixed) → Named (concat_s all s) → sum_without all μ (goes ck rank_range) s ≡ sum_without all μ unlocked s
  without_all ck s m = without-same all μ (goes ck rank_range) unlocked s (λ e o. goes-all ck e (m.fits e o))

-- ---- the law, with the least limit

module _ (need t : ℕ) (z : State (List Cell)) (m : Named (concat_s items z.bays)) (l : Least z.clock need t z.bays) where
  abbrev turn : List Candidate
  turn = in_turn z.clock (concat_s items z.bays)

  pub dropping-front : dropping items bay_sum need z ≡ front t turn
  dropping-front =
      shortest-front t (λ xs. leb need (sum_without items bay_sum (among xs) z.bays)) turn 0 (turn-rises z.clock (concat_s items z.bays) m)
      (ap (leb need) (same t) ∙ le-leb need (sum_below z.clock t z.bays) l.enough)
      (λ u v w. ap (leb need) (same u) ∙ lt-leb need (sum_below z.clock u z.bays) (l.less u w))
    where
      same : (u : ℕ) → sum_without items bay_sum (among (front u turn)) z.bays ≡ sum_below z.clock u z.bays
      same u = without-same items bay_sum (among (front u turn)) (goes z.clock u) z.bays (front-among z.clock u (concat_s items z.bays) m)

  pub dropping-goes : (e : Item) → Of e (concat_s items z.bays) → among (dropping items bay_sum need z) e ≡ goes z.clock t e
  dropping-goes e o = rw dropping-front (front-among z.clock t (concat_s items z.bays) m e o)

  pub dropping-released : map_s (release (among (dropping items bay_sum need z))) z.bays ≡ map_s (release (goes z.clock t)) z.bays
  dropping-released = releases-same (among (dropping items bay_sum need z)) (goes z.clock t) z.bays dropping-goes

  -- where it stops
  pub dropping-dirty : first_dirty (dropping items bay_sum need z)
      ≡ cond (ltb (least_dirty z.clock (concat_s items z.bays)) t) (some (least_dirty z.clock (concat_s items z.bays) % argument_range)) none
  dropping-dirty = ap first_dirty dropping-front ∙ turn-dirty z.clock t l.top (concat_s items z.bays) m
