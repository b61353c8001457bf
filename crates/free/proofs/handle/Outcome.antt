-- After an accepted free the handle names no block, as many bytes more are free as its block had, and the next allocation takes the handle.
use mathlib.Core.Path.{◌≡◌, refl, ap, ◌∙◌, subst}
use mathlib.Core.Bool.{Bool, true, false, cond, not, true≢false}
use mathlib.Core.Option.{Option, none, some}
use mathlib.Core.List.{List, [], ◌∷◌}
use Prim.Native.Nat.{ℕ, ◌+◌, ◌≤◌}
use native.Mathlib.Omega.{arith}
use lib.ListN.{length}
use lib.Dec.{leb}
use Rattle.bigendian.specs.BigEndian.{Bytes}
use Rattle.block_type.specs.Limits.{reloc_header, reloc_limit, reloc_need}
use Rattle.calls.specs.Calls.{by_handle, Call, Answer, told, allocate_relocatable, free_handle, size, sums}
use Rattle.calls.specs.Bays.{Bays, last, more, over, map_s, or_else, sum_s, max_s}
use Rattle.kinds.specs.Kinds.{Item, is}
use Rattle.calls.specs.State.{get, Fixed}
use Rattle.bay.specs.Bay.{Cell, bay_sum, items, release}
use Rattle.bay.specs.Counted.{count, remove, live}
use Rattle.calls.specs.Table.{cause, below, is_none, first, order}
use Rattle.calls.proofs.First.{or_left}
use Rattle.zone.specs.Work.{Zone, work}
use Rattle.zone.specs.Call.{call, zone_in}
use Rattle.kinds.proofs.KindLaws.{is-header}
use Rattle.bay.proofs.Each.{Each, nothing, just, each-some}
use Rattle.bay.proofs.Laws.{release-items}
use Rattle.zone.proofs.Sums.{find-sum, find-each}
use Rattle.zone.proofs.HowMany.{get-count, get-its}
use Rattle.zone.proofs.Grouped.{single-live}
use Rattle.zone.proofs.Run.{well-whole}
use Rattle.zone.proofs.Once.{taken, sum-released, block_of}
use Rattle.call_laws.proofs.Outcome.{step, step_as}
use Rattle.call_laws.proofs.Accepted.{Accepted, accepted, cleared, before, after}
use Rattle.call_laws.proofs.Named.{size-there, size-gone}

-- what does not count is not there
none-taken : (n : ℕ) {o : Option Item} → Each (λ (e : Item). 1 ≤ n) o → n ≡ 0 → taken o ≡ 0
none-taken n nothing q = refl
none-taken n (just l) q = absurd (omega arith)

module _ (h : ℕ) where
  -- ---- the handle is gone

  get-removed : (es : List Item) → get (is h) (remove (is h) es) ≡ none
  get-removed [] = refl
  get-removed (e ∷ es) = go (is h e) refl (get-removed es)
    where
      go : (t : Bool) → is h e ≡ t → get (is h) (remove (is h) es) ≡ none → get (is h) (cond t (remove (is h) es) (e ∷ remove (is h) es)) ≡ none
      go true q r = r
      go false q r = (rw q) ∙ r

  gone : (s : Bays (List Cell) Fixed) → block_of h (map_s (release (is h)) s) ≡ none
  gone (last b) = ap (get (is h)) (release-items (is h) b) ∙ get-removed (items b)
  gone (more b x s) = ap (λ (o : Option Item). or_else o (block_of h (map_s (release (is h)) s))) (ap (get (is h)) (release-items (is h) b) ∙ get-removed (items b)) ∙ gone s

  -- ---- the sum of the bays, where the handle stands at most once

  -- an item that is found counts
  find-counts : (s : Bays (List Cell) Fixed) → Each (λ (e : Item). 1 ≤ live h s) (block_of h s)
  find-counts s = find-sum (λ (b : List Cell). get (is h) (items b)) (λ (b : List Cell). count (is h) (items b)) (λ b. get-count (is h) (items b)) s

  more-free : (s : Bays (List Cell) Fixed) → live h s ≤ 1 → sum_s bay_sum (map_s (release (is h)) s) ≡ sum_s bay_sum s + taken (block_of h s)
  more-free (last b) n = sum-released (is h) b n
  more-free (more b x s) n = go (get (is h) (items b)) (get-count (is h) (items b)) (sum-released (is h) b (omega arith)) (more-free s (omega arith))
    where
      go : (o : Option Item) → Each (λ (e : Item). 1 ≤ count (is h) (items b)) o → bay_sum (release (is h) b) ≡ bay_sum b + taken o → sum_s bay_sum (map_s (release (is h)) s) ≡ sum_s bay_sum s + taken (block_of h s)
          → bay_sum (release (is h) b) + sum_s bay_sum (map_s (release (is h)) s) ≡ bay_sum b + sum_s bay_sum s + taken (or_else o (block_of h s))
      go none nothing p q = omega arith
      go (some e) (just l) p q = omega (arith, none-taken (live h s) (find-counts s) (omega arith))

-- ---- the call

-- what is asked of a buffer, and the buffer that a free leaves
abbrev asked : Call → List ℕ → Answer
asked c s = (call c s).answer

abbrev left : ℕ → List ℕ → List ℕ
left h s = (call (free_handle h) s).bytes

pub record Freed (h : ℕ) (s : List ℕ) : Type 0 where
  -- the handle is not live: its size is refused
  pub unnamed : asked (size (by_handle h)) (left h s) ≡ told 6 0
  -- and so is a second free
  pub again : asked (free_handle h) (left h s) ≡ told 6 0
  -- the total of free bytes grows by the block's size, its header and the data size that it had
  pub total : (asked sums (left h s)).value ≡ (asked sums s).value + (reloc_header + (asked (size (by_handle h)) s).value)
  -- "the master goes to the chain's head": the next allocation that is accepted answers the handle
  pub reused : (c : ℕ) → (asked (allocate_relocatable c) (left h s)).number ≡ 0 → (asked (allocate_relocatable c) (left h s)).value ≡ h

module _ (s : List ℕ) (h : ℕ) (y : Bytes s) (e : (asked (free_handle h) s).number ≡ 0) where
  a : Accepted (free_handle h) s
  a = accepted (free_handle h) s (λ n v. refl) refl e

  abbrev z : Zone
  z = zone_in s

  -- the handle is in front of the chain, and its block is freed
  abbrev next : Zone
  next = (work (free_handle h) z).next

  -- an allocation takes the chain's head
  head : (c : ℕ) → (step (allocate_relocatable c) next).answer.number ≡ 0 → (step (allocate_relocatable c) next).answer.value ≡ h
  head c = go (leb c reloc_limit) (below (max_s bay_sum next.bays) (reloc_need c))
    where
      with : Bool → Bool → Answer
      with t u = (step_as (first order (cause 1 false ∷ cause 3 (not t) ∷ cause 4 false ∷ cause 5 u ∷ [])) (allocate_relocatable c) next).answer

      go : (t u : Bool) → (with t u).number ≡ 0 → (with t u).value ≡ h
      go true true q = absurd (omega arith)
      go true false q = refl
      go false u q = absurd (omega arith)

  -- a second free, by what is found
  abbrev again-as : Option Item → Answer
  again-as o = (step_as (first order (cause 1 false ∷ cause 6 (is_none (over length (over (λ (i : Item). i.bytes) o))) ∷ [])) (free_handle h) next).answer

  now : (c : Call) → asked c (left h s) ≡ (step c next).answer
  now = after a y tt

  pub free-left : Freed h s
  free-left = go (block_of h z.bays) refl (or_left _ _ (cleared a 6 refl))
    where
      go : (o : Option Item) → block_of h z.bays ≡ o → is_none (over length (over (λ (i : Item). i.bytes) o)) ≡ false → Freed h s
      go none q n = absurd (true≢false n)
      go (some i) q n =
          let value : Answer → ℕ = λ b. b.value in
          record {
            unnamed = now (size (by_handle h)) ∙ size-gone next (by_handle h) (ap (over (λ (i : Item). i.bytes)) (gone h z.bays));
            again = now (free_handle h) ∙ ap again-as (gone h z.bays);
            total = omega (
              arith,
              ap value (now sums),
              ap value (before a y sums),
              ap value (before a y (size (by_handle h)) ∙ size-there z (by_handle h) (ap (over (λ (i : Item). i.bytes)) q)),
              more-free h z.bays (single-live z (well-whole s y a.well) h),
              ap taken q,
              is-header h i (each-some (subst (Each (λ (i : Item). is h i ≡ true)) q (find-each (λ (i : Item). is h i ≡ true) (λ (b : List Cell). get (is h) (items b)) (λ b. get-its (is h) (items b)) z.bays))),
            );
            reused = λ c k. ap value (now (allocate_relocatable c)) ∙ head c (omega (arith, ap (λ (b : Answer). b.number) (now (allocate_relocatable c))));
          }
