-- A bay laid out: its items in order, one free block behind them; another item and other free bytes in the place of these.
use mathlib.Core.Path.{◌≡◌, refl, sym, ap, ◌∙◌}
use mathlib.Core.Bool.{Bool, true, false, cond}
use mathlib.Core.List.{List, [], ◌∷◌, ◌++◌, map}
use Prim.Native.Nat.{ℕ, suc, ◌+◌, ◌%◌, ◌≤◌}
use native.Mathlib.Omega.{arith}
use Rattle.block_type.specs.Limits.{longest_zone, master_size}
use Rattle.kinds.specs.Kinds.{Item, header_of, master_of, item_size, is, masters_of}
use Rattle.calls.specs.State.{total}
use Rattle.bay.specs.Bay.{Cell, held, bay_size, bay_sum, items, gap, packed, compact_bay}
use Rattle.bay.specs.Counted.{count}
use Rattle.bay.specs.Sound.{Sound1, Sound}
use Rattle.bay.proofs.Choice.{packed-is}
use Rattle.bay.proofs.Laws.{items-append, bsize-gap, bsize-packed}
use Rattle.bay.proofs.SoundLaws.{gap-sound}
use Rattle.structure.specs.Structure.{Block, cell, place_of, handles_of}
use Rattle.structure.proofs.Cells.{gap-handles}
use Rattle.slide.specs.ZoneBay.{Low}
use Rattle.slide.proofs.Compact.{gap-low}
use Rattle.resize.proofs.reshape.GrownBay.{laid}

packed-append : (xs ys : List Item) (t : List Cell) → packed (xs ++ ys) t ≡ packed xs (packed ys t)
packed-append [] ys t = refl
packed-append (x ∷ xs) ys t = ap (held x ∷◌) (packed-append xs ys t)

-- a compacted bay is laid out
pub laid-is : (u w : List Cell) (e : Item) → compact_bay (u ++ (held e ∷ w)) ≡ laid (items u) e (items w) (bay_sum (u ++ (held e ∷ w)))
laid-is u w e =
    let n = bay_sum (u ++ (held e ∷ w)) in
    ap (λ (es : List Item). packed es (gap n [])) (items-append u (held e ∷ w)) ∙ packed-append (items u) (e ∷ items w) (gap n [])

pub laid-map : (xs ys : List Item) (e : Item) (n : ℕ) → laid xs e ys n ≡ map held xs ++ (held e ∷ (map held ys ++ gap n []))
laid-map xs ys e n = packed-is xs (held e ∷ packed ys (gap n [])) ∙ ap (λ (t : List Cell). map held xs ++ (held e ∷ t)) (packed-is ys (gap n []))

pub laid-size : (xs ys : List Item) (e : Item) (n : ℕ) → bay_size (laid xs e ys n) ≡ total xs + (item_size e + (total ys + n))
laid-size xs ys e n = omega (arith, bsize-packed xs (held e ∷ packed ys (gap n [])), bsize-packed ys (gap n []), bsize-gap n [])

-- where the block is, the first item being at p
pub laid-place : (h p : ℕ) (xs : List Item) (e : Item) (t : List Cell) (r : List Block) → count (is h) xs ≡ 0 → is h e ≡ true → place_of (is h) p (map cell (packed xs (held e ∷ t)) ++ r) ≡ p + total xs + header_of e
unfolding place_of
laid-place h p [] e t r q i = rw i (omega arith)
laid-place h p (x ∷ xs) e t r q i = go (is h x) q (λ k. laid-place h (p + item_size x) xs e t r k i)
  where
    go : (b : Bool) → cond b (suc (count (is h) xs)) (count (is h) xs) ≡ 0 → (count (is h) xs ≡ 0 → place_of (is h) (p + item_size x) (map cell (packed xs (held e ∷ t)) ++ r) ≡ p + item_size x + total xs + header_of e)
        → cond b (p + header_of x) (place_of (is h) (p + item_size x) (map cell (packed xs (held e ∷ t)) ++ r)) ≡ p + (item_size x + total xs) + header_of e
    go true k f = absurd (omega arith)
    go false k f = f k ∙ omega arith

-- ---- soundness, masters and handles: what holds of the tail

packed-sound : (xs : List Item) (t t' : List Cell) → (Sound t → Sound t') → Sound (packed xs t) → Sound (packed xs t')
packed-sound [] t t' f s = f s
packed-sound (x ∷ xs) t t' f s = (s.0, packed-sound xs t t' f s.1)

packed-tail : (xs : List Item) (t : List Cell) → Sound (packed xs t) → Sound t
packed-tail [] t s = s
packed-tail (x ∷ xs) t s = packed-tail xs t s.1

packed-low : (lim : ℕ) (xs : List Item) (t t' : List Cell) → (Low lim t → Low lim t') → Low lim (packed xs t) → Low lim (packed xs t')
packed-low lim [] t t' f s = f s
packed-low lim (x ∷ xs) t t' f s = (s.0, packed-low lim xs t t' f s.1)

packed-handles : (xs : List Item) (t t' : List Cell) → handles_of (map cell t) ≡ handles_of (map cell t') → handles_of (map cell (packed xs t)) ≡ handles_of (map cell (packed xs t'))
unfolding handles_of
packed-handles [] t t' q = q
packed-handles (x ∷ xs) t t' q = ap (masters_of x ++◌) (packed-handles xs t t' q)

module _ (xs ys : List Item) (e : Item) (n : ℕ) where
  pub laid-sound1 : Sound (laid xs e ys n) → Sound1 (held e)
  laid-sound1 s = (packed-tail xs (held e ∷ packed ys (gap n [])) s).0

  pub laid-left : Sound (laid xs e ys n) → Sound (packed xs [])
  laid-left s = packed-sound xs (held e ∷ packed ys (gap n [])) [] (λ k. tt) s

  pub laid-right : Sound (laid xs e ys n) → Sound (packed ys [])
  laid-right s = packed-sound ys (gap n []) [] (λ k. tt) (packed-tail xs (held e ∷ packed ys (gap n [])) s).1

  pub laid-gap : Sound (laid xs e ys n) → Sound (gap n [])
  laid-gap s = packed-tail ys (gap n []) (packed-tail xs (held e ∷ packed ys (gap n [])) s).1

module _ (xs ys : List Item) (e e' : Item) (n n' : ℕ) where
  pub laid-sound : Sound1 (held e') → n' % 4 ≡ 0 → n' ≤ longest_zone → Sound (laid xs e ys n) → Sound (laid xs e' ys n')
  laid-sound o q l s =
      packed-sound xs (held e ∷ packed ys (gap n [])) (held e' ∷ packed ys (gap n' []))
      (λ k. (o, packed-sound ys (gap n []) (gap n' []) (λ j. gap-sound n' [] q (omega arith) tt) k.1)) s

  pub laid-low : (lim : ℕ) → master_of e ≡ master_of e' → master_size ≤ lim → Low lim (laid xs e ys n) → Low lim (laid xs e' ys n')
  laid-low lim q l s =
      packed-low lim xs (held e ∷ packed ys (gap n [])) (held e' ∷ packed ys (gap n' []))
      (λ k. (omega (arith, k.0, q), packed-low lim ys (gap n []) (gap n' []) (λ j. gap-low lim n' [] l tt) k.1)) s

  pub laid-handles : masters_of e ≡ masters_of e' → handles_of (map cell (laid xs e ys n)) ≡ handles_of (map cell (laid xs e' ys n'))
  unfolding handles_of
  laid-handles q =
      packed-handles xs (held e ∷ packed ys (gap n [])) (held e' ∷ packed ys (gap n' []))
      (ap (◌++ handles_of (map cell (packed ys (gap n [])))) q ∙ ap (masters_of e' ++◌) (packed-handles ys (gap n []) (gap n' []) (gap-handles n ∙ sym (gap-handles n'))))
