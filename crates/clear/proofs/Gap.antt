-- Free bytes as cells: none, or one free block; and the free bytes at the front of blocks.
use mathlib.Core.Path.{◌≡◌, refl, sym, ap, ◌∙◌}
use mathlib.Core.Bool.{Bool, true, false, false≢true}
use mathlib.Core.List.{List, [], ◌∷◌, ◌++◌, map}
use Prim.Native.Nat.{ℕ, zero, suc, ◌+◌, ◌<◌}
use native.Mathlib.Omega.{arith}
use Rattle.bay.specs.Bay.{Cell, free, held, bay_size, gap, join_bays}
use Rattle.bay.specs.Ends.{end_free, start_free}
use Rattle.bay.proofs.Laws.{gap-one}
use Rattle.structure.specs.Structure.{Block, cell, fixed}
use Rattle.structure.specs.Valid.{Tiled}
use Rattle.access.specs.row.Row.{free_b}
use Rattle.settle.specs.surgery.Bays.{last_free, first_free}
use Rattle.free_block.specs.Around.{part_of, last_part, first_part}

-- ---- n free bytes, no block for 0

abbrev pub gap_cells : ℕ → List Block
gap_cells n = map cell (gap n [])

pub gap-bay : (n : ℕ) → bay_size (gap n []) ≡ n
gap-bay zero = refl
gap-bay (suc n) = omega arith

pub gap-last : (n : ℕ) → end_free (gap n []) ≡ n
gap-last zero = refl
gap-last (suc n) = refl

pub gap-first : (n : ℕ) → start_free (gap n []) ≡ n
gap-first zero = refl
gap-first (suc n) = refl

-- where there are some
pub gap-some : (n : ℕ) (r : List Block) → 0 < n → gap_cells n ++ r ≡ cell (free n) ∷ r
gap-some n r l = ap (λ (cs : List Cell). map cell cs ++ r) (gap-one n l)

two-gaps : (m n i : ℕ) → i ≡ m + n → gap m (gap n []) ≡ gap i []
two-gaps zero n i q = let k : n ≡ i = omega arith in ap (λ (k : ℕ). gap k []) k
two-gaps (suc m) zero i q = let k : suc m ≡ i = omega arith in ap (λ (k : ℕ). gap k []) k
two-gaps (suc m) (suc n) zero q = absurd (omega arith)
two-gaps (suc m) (suc n) (suc i) q = ap (λ (k : ℕ). free k ∷ []) (sym q)

join-gap : (k : ℕ) (t : List Cell) → join_bays (gap k []) t ≡ gap k t
join-gap zero t = refl
join-gap (suc k) t = refl

-- free bytes in a row
pub gaps-join : (k n j m : ℕ) → m ≡ k + (n + j) → join_bays (gap k []) (gap n (gap j [])) ≡ gap m []
gaps-join k n j m q = join-gap k (gap n (gap j [])) ∙ ap (gap k) (two-gaps n j (n + j) refl) ∙ two-gaps k (n + j) m q

-- ---- which blocks end with free bytes

-- no two free blocks are neighbours
pub no_gap : (k : ℕ) (p : Bool) (n : ℕ) (r : List Block) → Tiled p (gap_cells k ++ (cell (free n) ∷ r)) → k ≡ 0
no_gap zero p n r t = refl
no_gap (suc k) p n r t = absurd (false≢true (sym t.4.0))

free-append : (p : Bool) (a b : List Block) → last_free p (a ++ b) ≡ last_free (last_free p a) b
free-append p [] b = refl
free-append p (c ∷ a) b = free-append (free_b c) a b

part-append : (k : ℕ) (a b : List Block) → last_part k (a ++ b) ≡ last_part (last_part k a) b
part-append k [] b = refl
part-append k (c ∷ a) b = part-append (part_of c) a b

-- whatever stands before the last
pub free-last : (p : Bool) (a b : List Block) (c : Block) → last_free p (a ++ (b ++ (c ∷ []))) ≡ free_b c
free-last p a b c = free-append p a (b ++ (c ∷ [])) ∙ free-append (last_free p a) b (c ∷ [])

pub part-last : (k : ℕ) (a b : List Block) (c : Block) → last_part k (a ++ (b ++ (c ∷ []))) ≡ part_of c
part-last k a b c = part-append k a (b ++ (c ∷ [])) ∙ part-append (last_part k a) b (c ∷ [])

-- ---- the free bytes at the front

pub record Split (bs : List Block) : Type 0 where
  pub many : ℕ
  pub post : List Block
  pub parts : bs ≡ gap_cells many ++ post
  pub part-is : first_part bs ≡ many
  pub used : first_part post ≡ 0
  pub first : first_free post ≡ false

behind-free : (bs : List Block) → Tiled true bs → (first_part bs ≡ 0) × (first_free bs ≡ false)
behind-free [] t = (refl, refl)
behind-free (cell (free n) ∷ bs) t = absurd (false≢true (sym t.0))
behind-free (cell (held e) ∷ bs) t = (refl, refl)
behind-free (fixed d ∷ bs) t = (refl, refl)

pub split : (p : Bool) (bs : List Block) → Tiled p bs → Split bs
split p [] t = record { many = 0; post = []; parts = refl; part-is = refl; used = refl; first = refl }
split p (cell (free n) ∷ bs) t =
    let b = behind-free bs t.4 in
    record { many = n; post = bs; parts = sym (gap-some n bs (omega (arith, t.1))); part-is = refl; used = b.0; first = b.1 }
split p (cell (held e) ∷ bs) t = record { many = 0; post = cell (held e) ∷ bs; parts = refl; part-is = refl; used = refl; first = refl }
split p (fixed d ∷ bs) t = record { many = 0; post = fixed d ∷ bs; parts = refl; part-is = refl; used = refl; first = refl }
