-- A block among the cells of the first bay, or behind one bay and one fixed block more.
use mathlib.Core.Path.{◌≡◌, refl, sym, ap, ◌∙◌}
use mathlib.Core.List.{List, [], ◌∷◌, ◌++◌, map, append_assoc}
use Prim.Native.Nat.{ℕ}
use Rattle.bay.specs.Bay.{Cell, gap, join_bays}
use Rattle.structure.specs.Structure.{Block, cell, fixed, size}
use Rattle.free_block.specs.Around.{first_part, Around}
use Rattle.free_block.proofs.Found.{last-append}

abbrev pub around_here : (low high : List Cell) (b : Block) (r : List Block) → first_part r ≡ 0
    → Around (map cell low ++ (b ∷ (map cell high ++ r))) (map cell (join_bays low (gap (size b) high)) ++ r) b
around_here low high b r e = record { pre = []; low = low; high = high; post = r; old = refl; new = refl; pre_used = refl; post_used = e }

-- the same blocks, said otherwise
abbrev pub around-same : {bs bs' cs cs' : List Block} {b : Block} → cs ≡ bs → cs' ≡ bs' → Around bs bs' b → Around cs cs' b
around-same e e' a = record { pre = a.pre; low = a.low; high = a.high; post = a.post; old = e ∙ a.old; new = e' ∙ a.new; pre_used = a.pre_used; post_used = a.post_used }

abbrev pub around-later : (c : List Cell) (d : List ℕ) {bs bs' : List Block} {b : Block} → Around bs bs' b → Around (map cell c ++ (fixed d ∷ bs)) (map cell c ++ (fixed d ∷ bs')) b
around-later c d a = record {
  pre = map cell c ++ (fixed d ∷ a.pre);
  low = a.low;
  high = a.high;
  post = a.post;
  old = ap (λ (l : List Block). map cell c ++ (fixed d ∷ l)) a.old ∙ sym (append_assoc (map cell c) (fixed d ∷ a.pre) _);
  new = ap (λ (l : List Block). map cell c ++ (fixed d ∷ l)) a.new ∙ sym (append_assoc (map cell c) (fixed d ∷ a.pre) _);
  pre_used = last-append 0 (map cell c) (fixed d ∷ a.pre) ∙ a.pre_used;
  post_used = a.post_used;
}
