-- The walk over one bay: the cells that it has passed stand in front of the bays that are left.
use mathlib.Core.Path.{◌≡◌, refl, sym, ap, ◌∙◌, subst}
use mathlib.Core.List.{List, [], ◌∷◌, ◌++◌, append-nil, append_assoc}
use mathlib.Core.Bool.{cond, Bool}
use Prim.Native.Nat.{ℕ, suc, ◌+◌, ◌/◌, ◌<◌, ◌≤◌}
use native.Mathlib.Nat.{add-zero}
use native.Mathlib.Omega.{arith}
use lib.Dec.{eqb}
use borrow.Author.Tests.{eq-eqb, ne_eqb}
use lib.ListN.{length, drop, drop_of_length-le}
use Rattle.block_type.specs.Limits.{free_code, fixed_code}
use Rattle.format.specs.WellFormed.{type_of}
use Rattle.block_check.specs.Word.{type_word, IsHeader}
use Rattle.structure.specs.Structure.{Block, cell, fixed, size, join, code}
use Rattle.calls.specs.Bays.{Bays, last, more}
use Rattle.calls.specs.State.{Fixed}
use Rattle.bay.specs.Bay.{Cell, free, held, cell_size, cell_code, bay_size, bay_sum}
use Rattle.bay.proofs.Laws.{bsize-append, bsum-append}
use Rattle.access.specs.row.Row.{row, blocks_of, Stepped, block_at}
use Rattle.access.proofs.row.Laws.{row-end}
use Rattle.zone.specs.Group.{in_front, group}
use Rattle.zone.proofs.GroupLaws.{front, front-nil}
use Rattle.kinds.proofs.KindLaws.{facts, not_free}
use Rattle.bays.specs.Places.{bays_at, free_part, end_free}
use Rattle.bays.specs.Read.{at_end, at_fixed, BayBetween, Read}

-- ---- the free part of a block

pub part-yes : (k n : ℕ) → k ≡ free_code → n ≡ cond (eqb k free_code) n 0
part-yes k n e = rw (eq-eqb k free_code e)

pub part_no : (k n : ℕ) → (k ≡ free_code → ⊥) → ◌≡◌ {A = ℕ} 0 (cond (eqb k free_code) n 0)
part_no k n e = rw (ne_eqb k free_code e)

-- ---- cells in front of the first bay

front-one : (a : List Cell) (c : Cell) (s : Bays (List Cell) Fixed) → front a (in_front c s) ≡ front (a ++ c ∷ []) s
front-one a c (last b) = ap last (sym (append_assoc a (c ∷ []) b))
front-one a c (more b x s) = ap (λ (d : List Cell). more d x s) (sym (append_assoc a (c ∷ []) b))

sum_one : (a : List Cell) (c : Cell) → bay_sum (a ++ c ∷ []) ≡ bay_sum a + free_part c
sum_one a (free n) = omega (arith, bsum-append a (free n ∷ []))
sum_one a (held e) = bsum-append a (held e ∷ [])

end-one : (a : List Cell) (c : Cell) → end_free (a ++ c ∷ []) ≡ free_part c
end-one [] c = refl
end-one (d ∷ []) c = refl
end-one (d ∷ (e ∷ a)) c = end-one (e ∷ a) c

-- ---- the cells that have been passed: they stand in front of the bays that are left

pub record PassedCells (z : List ℕ) (p at : ℕ) (cells : List Cell) : Type 0 where
  pub bays : bays_at z p ≡ front cells (bays_at z at)
  pub place : at ≡ p + bay_size cells

pub passed_none : (z : List ℕ) (p : ℕ) → PassedCells z p p []
passed_none z p = record { bays = sym (front-nil (bays_at z p)); place = sym (add-zero p) }

-- one block more, of type k and n bytes
pub record OneMore (z : List ℕ) (p at k n : ℕ) (cells : List Cell) : Type 0 where
  pub c : Cell
  pub kind : cell_code c ≡ k
  pub bytes : cell_size c ≡ n
  pub passed : PassedCells z p (at + n) (cells ++ c ∷ [])

record IsCell (b : Block) (k n : ℕ) : Type 0 where
  c : Cell
  is : b ≡ cell c
  kind : cell_code c ≡ k
  bytes : cell_size c ≡ n

is-cell : (b : Block) (k n : ℕ) → code b ≡ k → size b ≡ n → (k ≡ fixed_code → ⊥) → IsCell b k n
is-cell (cell (free m)) k n ek en nk = record { c = free m; is = refl; kind = ek; bytes = en }
is-cell (cell (held e)) k n ek en nk = record { c = held e; is = refl; kind = ek; bytes = en }
is-cell (fixed d) k n ek en nk = absurd (nk (sym ek))

record IsFixed (b : Block) (n : ℕ) : Type 0 where
  d : List ℕ
  is : b ≡ fixed d
  bytes : size (fixed d) ≡ n

is-fixed : (b : Block) (n : ℕ) → code b ≡ fixed_code → size b ≡ n → IsFixed b n
is-fixed (cell (free m)) n ek en = let x : ⊥ = omega arith in absurd x
is-fixed (cell (held e)) n ek en = absurd ((facts e).movable ek)
is-fixed (fixed d) n ek en = record { d = d; is = refl; bytes = en }

module _ (z : List ℕ) (p at n k : ℕ) (st : Stepped z at n) (ek : k ≡ type_of (drop at z)) (cells : List Cell) (ps : PassedCells z p at cells) where
  kb : code (block_at z at) ≡ k
  kb = st.kind ∙ sym ek

  pub one_more : (k ≡ fixed_code → ⊥) → OneMore z p at k n cells
  one_more nk =
      let i = is-cell (block_at z at) k n kb st.bytes nk in
      let e : bays_at z at ≡ in_front i.c (bays_at z (at + n)) = ap (group at) (st.blocks ∙ ap (λ (b : Block). b ∷ blocks_of (drop (at + n) z)) i.is) ∙ ap (λ (m : ℕ). in_front i.c (group (at + m) (blocks_of (drop (at + n) z)))) i.bytes in
      record {
        c = i.c;
        kind = i.kind;
        bytes = i.bytes;
        passed = record {
          bays = ps.bays ∙ ap (front cells) e ∙ front-one cells i.c (bays_at z (at + n));
          place = omega (arith, ps.place, bsize-append cells (i.c ∷ []), i.bytes);
        };
      }

  -- a fixed block ends the bay
  pub ends-fixed : k ≡ fixed_code → at < length z → BayBetween z p at (at + n) cells
  ends-fixed e l =
      let i = is-fixed (block_at z at) n (kb ∙ e) st.bytes in
      let x : Fixed = record { place = at; bytes = i.d } in
      let q : bays_at z at ≡ more [] x (bays_at z (at + n)) = ap (group at) (st.blocks ∙ ap (λ (b : Block). b ∷ blocks_of (drop (at + n) z)) i.is) ∙ ap (λ (m : ℕ). more [] x (group (at + m) (blocks_of (drop (at + n) z)))) i.bytes in
      let w : bays_at z p ≡ more cells x (bays_at z (at + n)) = ps.bays ∙ ap (front cells) q ∙ ap (λ (b : List Cell). more b x (bays_at z (at + n))) (append-nil cells) in
      record {
        cut = at_fixed x w ps.place (omega (arith, i.bytes)) st.fits;
        end_is = ps.place;
        inside = omega arith;
        forth = omega (arith, ps.place, st.low);
        near = omega (arith, st.fits);
        row = st.next;
      }

-- the bytes' end ends it
pub ends-bytes : (z : List ℕ) (p at : ℕ) (cells : List Cell) → PassedCells z p at cells → length z ≤ at → at ≤ length z → BayBetween z p at (suc (length z)) cells
unfolding join
ends-bytes z p at cells ps l h = record {
  cut = at_end (ps.bays ∙ ap (λ (bs : List Block). front cells (group at bs)) (row-end z at l) ∙ ap last (append-nil cells)) (omega (arith, ps.place)) refl;
  end_is = ps.place;
  inside = h;
  forth = omega (arith, ps.place);
  near = omega arith;
  row = row [] tt (drop_of_length-le z {i = suc (length z)} (omega arith));
}

-- ---- their sum

pub part-is : (c : Cell) (k n f : ℕ) → cell_code c ≡ k → cell_size c ≡ n → f ≡ cond (eqb k free_code) n 0 → f ≡ free_part c
part-is (free m) k n f ek en ef = (rw (← ek) at ef) ∙ sym en
part-is (held e) k n f ek en ef = (rw (← ek) at ef) ∙ ap (λ (t : Bool). cond t n 0) (not_free e)

pub sum_more : (cells : List Cell) (c : Cell) (sum f : ℕ) → sum ≡ bay_sum cells → f ≡ free_part c → sum + f ≡ bay_sum (cells ++ c ∷ [])
sum_more cells c sum f es ef = omega (arith, sum_one cells c)

-- ---- with sum and free end

pub record Seen (z : List ℕ) (p at sum tail : ℕ) : Type 0 where
  pub cells : List Cell
  pub passed : PassedCells z p at cells
  pub sum_is : sum ≡ bay_sum cells
  pub tail_is : tail ≡ end_free cells

pub seen_none : (z : List ℕ) (p : ℕ) → Seen z p p 0 0
seen_none z p = record { cells = []; passed = passed_none z p; sum_is = refl; tail_is = refl }

module _ (z : List ℕ) (p at n k w sum tail : ℕ) (st : Stepped z at n) (h : IsHeader z at w) (ew : k ≡ w / type_word) (sn : Seen z p at sum tail) where
  ek : k ≡ type_of (drop at z)
  ek = ew ∙ sym h.is_type

  seen_more : (f : ℕ) → (k ≡ fixed_code → ⊥) → f ≡ cond (eqb k free_code) n 0 → Seen z p (at + n) (sum + f) f
  seen_more f nk ef =
      let o = one_more z p at n k st ek sn.cells sn.passed nk in
      let ep = part-is o.c k n f o.kind o.bytes ef in
      record { cells = sn.cells ++ o.c ∷ []; passed = o.passed; sum_is = sum_more sn.cells o.c sum f sn.sum_is ep; tail_is = ep ∙ sym (end-one sn.cells o.c) }

  pub seen-held : fixed_code < k → Seen z p (at + n) sum 0
  seen-held l = subst (λ (i : ℕ). Seen z p (at + n) i 0) (add-zero sum) (seen_more 0 (λ e. omega arith) (part_no k n (λ e. omega arith)))

  pub seen-free : k ≤ fixed_code → (k ≡ fixed_code → ⊥) → Seen z p (at + n) (sum + n) n
  seen-free l nk = let e : k ≡ free_code = omega arith in seen_more n nk (part-yes k n e)

  pub read-fixed : k ≡ fixed_code → at < length z → Read z p at sum tail (at + n)
  read-fixed e l = record { bay = sn.cells; between = ends-fixed z p at n k st ek sn.cells sn.passed e l; sum_is = sn.sum_is; tail_is = sn.tail_is }

pub read-end : (z : List ℕ) (p at sum tail : ℕ) → Seen z p at sum tail → length z ≤ at → at ≤ length z → Read z p at sum tail (suc (length z))
read-end z p at sum tail sn l h = record { bay = sn.cells; between = ends-bytes z p at sn.cells sn.passed l h; sum_is = sn.sum_is; tail_is = sn.tail_is }
