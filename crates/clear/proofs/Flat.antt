-- Releasing in every bay, said of the blocks in one line: free bytes are merged with free bytes behind them, and nothing else is touched.
use mathlib.Core.Path.{◌≡◌, refl, sym, ap, ◌∙◌}
use mathlib.Core.Bool.{Bool, true, false, cond, false≢true}
use mathlib.Core.List.{List, [], ◌∷◌, ◌++◌, map}
use Prim.Native.Nat.{ℕ, zero, suc, ◌+◌, ◌<◌}
use native.Mathlib.Omega.{arith}
use lib.ListN.{length}
use Rattle.block_type.specs.Limits.{fixed_header}
use Rattle.kinds.specs.Kinds.{Item, item_size}
use Rattle.calls.specs.Bays.{Bays, last, more, map_s}
use Rattle.calls.specs.State.{Fixed}
use Rattle.bay.specs.Bay.{Cell, free, held, gap, release}
use Rattle.structure.specs.Structure.{Block, cell, fixed}
use Rattle.structure.specs.Valid.{Tiled}
use Rattle.zone.specs.Group.{in_front, group, flatten}

-- n free bytes in front of blocks, merged with a free block that follows; nothing for 0
abbrev pub merge_b : ℕ → List Block → List Block
merge_b n [] = cell (free n) ∷ []
merge_b n (cell (free k) ∷ bs) = cell (free (n + k)) ∷ bs
merge_b n (cell (held e) ∷ bs) = cell (free n) ∷ cell (held e) ∷ bs
merge_b n (fixed d ∷ bs) = cell (free n) ∷ fixed d ∷ bs

abbrev pub gap_b : ℕ → List Block → List Block
gap_b zero bs = bs
gap_b (suc n) bs = merge_b (suc n) bs

-- the blocks where those that pass the test are free
abbrev pub clear_b : (Item → Bool) → List Block → List Block
clear_b ok [] = []
clear_b ok (cell (free n) ∷ bs) = gap_b n (clear_b ok bs)
clear_b ok (cell (held e) ∷ bs) = cond (ok e) (gap_b (item_size e) (clear_b ok bs)) (cell (held e) ∷ clear_b ok bs)
clear_b ok (fixed d ∷ bs) = fixed d ∷ clear_b ok bs

-- ---- it is what releasing in every bay gives

gap-cells : (n : ℕ) (cs : List Cell) (r : List Block) → gap_b n r ≡ map cell (gap n []) ++ r → map cell (gap n cs) ++ r ≡ gap_b n (map cell cs ++ r)
gap-cells zero cs r q = refl
gap-cells (suc n) [] r q = sym q
gap-cells (suc n) (free k ∷ cs) r q = refl
gap-cells (suc n) (held e ∷ cs) r q = refl

gap-end : (n : ℕ) → gap_b n [] ≡ map cell (gap n []) ++ []
gap-end zero = refl
gap-end (suc n) = refl

gap-fixed : (n : ℕ) (d : List ℕ) (r : List Block) → gap_b n (fixed d ∷ r) ≡ map cell (gap n []) ++ (fixed d ∷ r)
gap-fixed zero d r = refl
gap-fixed (suc n) d r = refl

held-cells : (e : Item) (cs : List Cell) (r : List Block) → gap_b (item_size e) r ≡ map cell (gap (item_size e) []) ++ r → (t : Bool)
    → map cell (cond t (gap (item_size e) cs) (held e ∷ cs)) ++ r ≡ cond t (gap_b (item_size e) (map cell cs ++ r)) (cell (held e) ∷ (map cell cs ++ r))
held-cells e cs r q true = gap-cells (item_size e) cs r q
held-cells e cs r q false = refl

module _ (ok : Item → Bool) where
  front-free : (n : ℕ) (u : Bays (List Cell) Fixed) → flatten (map_s (release ok) (in_front (free n) u)) ≡ gap_b n (flatten (map_s (release ok) u))
  front-free n (last b) = gap-cells n (release ok b) [] (gap-end n)
  front-free n (more b x u) = gap-cells n (release ok b) (fixed x.bytes ∷ flatten (map_s (release ok) u)) (gap-fixed n x.bytes (flatten (map_s (release ok) u)))

  front-held : (e : Item) (u : Bays (List Cell) Fixed)
      → flatten (map_s (release ok) (in_front (held e) u)) ≡ cond (ok e) (gap_b (item_size e) (flatten (map_s (release ok) u))) (cell (held e) ∷ flatten (map_s (release ok) u))
  front-held e (last b) = held-cells e (release ok b) [] (gap-end (item_size e)) (ok e)
  front-held e (more b x u) = held-cells e (release ok b) (fixed x.bytes ∷ flatten (map_s (release ok) u)) (gap-fixed (item_size e) x.bytes (flatten (map_s (release ok) u))) (ok e)

  pub clear-is : (p : ℕ) (bs : List Block) → flatten (map_s (release ok) (group p bs)) ≡ clear_b ok bs
  clear-is p [] = refl
  clear-is p (cell (free n) ∷ bs) = front-free n (group (p + n) bs) ∙ ap (gap_b n) (clear-is (p + n) bs)
  clear-is p (cell (held e) ∷ bs) =
      front-held e (group (p + item_size e) bs) ∙ ap (λ (r : List Block). cond (ok e) (gap_b (item_size e) r) (cell (held e) ∷ r)) (clear-is (p + item_size e) bs)
  clear-is p (fixed d ∷ bs) = ap (fixed d ∷◌) (clear-is (p + (fixed_header + length d)) bs)

  -- ---- in parts

  -- of the blocks behind others only what they become counts
  pub clear_behind : (a b c : List Block) → clear_b ok b ≡ clear_b ok c → clear_b ok (a ++ b) ≡ clear_b ok (a ++ c)
  clear_behind [] b c q = q
  clear_behind (cell (free n) ∷ a) b c q = ap (gap_b n) (clear_behind a b c q)
  clear_behind (cell (held e) ∷ a) b c q = ap (λ (r : List Block). cond (ok e) (gap_b (item_size e) r) (cell (held e) ∷ r)) (clear_behind a b c q)
  clear_behind (fixed d ∷ a) b c q = ap (fixed d ∷◌) (clear_behind a b c q)

  pub clear-gap : (n : ℕ) (r : List Block) → clear_b ok (map cell (gap n []) ++ r) ≡ gap_b n (clear_b ok r)
  clear-gap zero r = refl
  clear-gap (suc n) r = refl

same-free : {i j : ℕ} (r : List Block) → i ≡ j → cell (free i) ∷ r ≡ cell (free j) ∷ r
same-free r q = ap (λ (k : ℕ). cell (free k) ∷ r) q

pub gap-gap : (m n i : ℕ) (r : List Block) → i ≡ m + n → gap_b m (gap_b n r) ≡ gap_b i r
gap-gap zero n i r q = let k : n ≡ i = omega arith in ap (λ (k : ℕ). gap_b k r) k
gap-gap (suc m) zero i r q = let k : suc m ≡ i = omega arith in ap (λ (k : ℕ). gap_b k r) k
gap-gap (suc m) (suc n) zero r q = absurd (omega arith)
gap-gap (suc m) (suc n) (suc i) [] q = same-free [] (sym q)
gap-gap (suc m) (suc n) (suc i) (cell (free k) ∷ r) q = same-free r (omega arith)
gap-gap (suc m) (suc n) (suc i) (cell (held e) ∷ r) q = same-free (cell (held e) ∷ r) (sym q)
gap-gap (suc m) (suc n) (suc i) (fixed d ∷ r) q = same-free (fixed d ∷ r) (sym q)

-- ---- where no block passes

abbrev pub Kept : (Item → Bool) → List Block → Type 0
Kept ok [] = Unit {0}
Kept ok (cell (free n) ∷ bs) = Kept ok bs
Kept ok (cell (held e) ∷ bs) = (ok e ≡ false) × Kept ok bs
Kept ok (fixed d ∷ bs) = Kept ok bs

pub kept_append : (ok : Item → Bool) (a b : List Block) → Kept ok a → Kept ok b → Kept ok (a ++ b)
kept_append ok [] b x y = y
kept_append ok (cell (free n) ∷ a) b x y = kept_append ok a b x y
kept_append ok (cell (held e) ∷ a) b x y = (x.0, kept_append ok a b x.1 y)
kept_append ok (fixed d ∷ a) b x y = kept_append ok a b x y

pub kept-gap : (ok : Item → Bool) (n : ℕ) → Kept ok (map cell (gap n []))
kept-gap ok zero = tt
kept-gap ok (suc n) = tt

-- free bytes in front of blocks that may follow a free one
free-front : (n : ℕ) (bs : List Block) → 0 < n → Tiled true bs → gap_b n bs ≡ cell (free n) ∷ bs
free-front zero bs l t = absurd (omega arith)
free-front (suc n) [] l t = refl
free-front (suc n) (cell (free k) ∷ bs) l t = absurd (false≢true (sym t.0))
free-front (suc n) (cell (held e) ∷ bs) l t = refl
free-front (suc n) (fixed d ∷ bs) l t = refl

pub clear_kept : (ok : Item → Bool) (p : Bool) (bs : List Block) → Tiled p bs → Kept ok bs → clear_b ok bs ≡ bs
clear_kept ok p [] t x = refl
clear_kept ok p (cell (free n) ∷ bs) t x = ap (gap_b n) (clear_kept ok true bs t.4 x) ∙ free-front n bs (omega (arith, t.1)) t.4
clear_kept ok p (cell (held e) ∷ bs) t x = rw x.0 (ap (cell (held e) ∷◌) (clear_kept ok false bs t.3 x.1))
clear_kept ok p (fixed d ∷ bs) t x = ap (fixed d ∷◌) (clear_kept ok false bs t.3 x)
