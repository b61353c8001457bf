-- After an accepted allocation the pointer that it answers, a multiple of 4, has up4(c) bytes, and they are zero.
use mathlib.Core.Path.{◌≡◌, refl, ap, ◌∙◌}
use mathlib.Core.Bool.{true}
use mathlib.Core.Option.{Option, some}
use mathlib.Core.List.{List, []}
use Prim.Native.Nat.{ℕ, ◌-◌, ◌%◌, ◌≤◌}
use native.Mathlib.Omega.{arith}
use lib.ListN.{length, replicate, length-replicate}
use lib.Dec.{leb, eqb}
use borrow.Author.Tests.{eq-eqb, ne_eqb, leb-true}
use Rattle.bigendian.specs.BigEndian.{Bytes}
use Rattle.block_type.specs.Limits.{fixed_header, fixed_need, first_block, up4}
use Rattle.calls.specs.Calls.{by_pointer, Answer, told, shows, Call, allocate_fixed, size, view}
use Rattle.calls.specs.Bays.{Bays, last, more, over, find_f}
use Rattle.calls.specs.State.{Fixed, pointer, new_fixed, with_bays, content}
use Rattle.calls.specs.Table.{is_none}
use Rattle.calls.proofs.First.{or_left}
use Rattle.bay.specs.Bay.{Cell, items, bay_size, bay_sum, take_high}
use Rattle.zone.specs.Search.{place_high}
use Rattle.zone.specs.Work as Work
use Rattle.zone.specs.Work.{Zone}
use Rattle.zone.specs.Call.{zone_in, call}
use Rattle.bay.proofs.Each.{Each, nothing, just, each_over, each-cond, each-or_else}
use Rattle.bay.proofs.Laws.{bsize-split}
use Rattle.zone.proofs.Places.{Tiled, tile-last, tile-more}
use Rattle.zone.proofs.Found.{high-found}
use Rattle.zone.proofs.Walk.{each-got}
use Rattle.zone.proofs.Grouped.{work-whole}
use Rattle.zone.proofs.Run.{well-whole, work-stored}
use Rattle.zone.proofs.Lines.{pointer-line}
use Rattle.call_laws.proofs.Outcome.{step}
use Rattle.call_laws.proofs.Accepted.{Accepted, accepted, cleared, answered, after}
use Rattle.call_laws.proofs.Named.{size-there, view-there}

abbrev Pair : Type 0
Pair = Fixed × Bays (List Cell) Fixed

abbrev at : ℕ → Bays (List Cell) Fixed → Option Fixed
at p s = find_f (λ (x : Fixed). eqb p (pointer x)) s

-- the new block stands behind p, and is found by its pointer
pub record Stands (need p : ℕ) (r : Pair) : Type 0 where
  pub behind : p ≤ r.0.place
  pub zeros : r.0.bytes ≡ replicate (need - fixed_header) 0
  pub found : at (pointer r.0) r.1 ≡ some r.0

module _ (need : ℕ) where
  here : (x : Fixed) (b : List Cell) (s : Bays (List Cell) Fixed) → at (pointer x) (more b x s) ≡ some x
  here x b s = rw (eq-eqb (pointer x) (pointer x) refl)

  room : (b : List Cell) → leb need (bay_sum b) ≡ true → need ≤ bay_size b
  room b t = omega (arith, leb-true need (bay_sum b) t, bsize-split b)

  high-stands : {p end : ℕ} {s : Bays (List Cell) Fixed} → Tiled p s end → Each (Stands need p) (place_high need end s)
  high-stands (tile-last {p = p} {end = end} {b = b} w) =
      each-cond (leb need (bay_sum b)) (λ t. just (record { behind = omega (arith, w, room b t); zeros = refl; found = here (new_fixed need end) (take_high need b) (last []) })) nothing
  high-stands (tile-more {p = p} {end = end} {b = b} {x = x} {s = s} w l) =
      each-or_else
      (each_over (λ (r : Pair). (r.0, more b x r.1)) (λ r q. record {
        behind = omega (arith, w, q.behind);
        zeros = q.zeros;
        found = (rw (ne_eqb (pointer r.0) (pointer x) (λ e. omega (arith, e, q.behind)))) ∙ q.found;
      }) (high-stands l))
      (each-cond (leb need (bay_sum b)) (λ t. just (record { behind = omega (arith, w, room b t); zeros = refl; found = here (new_fixed need x.place) (take_high need b) (more [] x s) })) nothing)

-- what is asked of the buffer that an allocation leaves
abbrev asked : ℕ → List ℕ → (ℕ → Call) → Answer
asked c s b = (call (b (call (allocate_fixed c) s).answer.value) (call (allocate_fixed c) s).bytes).answer

pub record Made (c : ℕ) (s : List ℕ) : Type 0 where
  pub sized : asked c s (λ p. size (by_pointer p)) ≡ told 0 (up4 c)
  pub zeros : asked c s (λ p. view (by_pointer p) 0 (up4 c)) ≡ shows 0 (replicate (up4 c) 0)
  -- "The new converter chip refuses pointers that aren't multiples of 4" (document 02, U6)
  pub line : (call (allocate_fixed c) s).answer.value % 4 ≡ 0

module _ (s : List ℕ) (c : ℕ) (y : Bytes s) (e : (call (allocate_fixed c) s).answer.number ≡ 0) where
  a : Accepted (allocate_fixed c) s
  a = accepted (allocate_fixed c) s (λ n v. refl) refl e

  abbrev z : Zone
  z = zone_in s

  abbrev need : ℕ
  need = fixed_need c

  -- the new block and the bays with it
  abbrev r : Pair
  r = Work.place_high need z.len z.bays

  abbrev zs : List ℕ
  zs = replicate (up4 c) 0

  stands : Stands need (first_block (well-whole s y a.well).m) r
  stands = each-got {Q = Stands need _} (high-found bay_sum (take_high need) [] need z.len z.bays) (or_left _ _ (cleared a 5 refl)) (high-stands need (well-whole s y a.well).placed.tiled)

  held : content items (by_pointer (pointer r.0)) r.1 ≡ some zs
  held =
      let n : need - fixed_header ≡ up4 c = omega arith in
      ap (over (λ (x : Fixed). x.bytes)) stands.found ∙ ap some (stands.zeros ∙ ap (λ (k : ℕ). replicate {A = ℕ} k 0) n)

  tell : (b : ℕ → Call) → asked c s b ≡ (step (b (pointer r.0)) (with_bays r.1 z)).answer
  tell b = ap (λ (g : Answer). (call (b g.value) (call (allocate_fixed c) s).bytes).answer) (answered a y) ∙ after a y tt (b (pointer r.0))

  long : length zs ≡ up4 c
  long = length-replicate (up4 c) 0

  on_line : pointer r.0 % 4 ≡ 0
  on_line =
      pointer-line (call (allocate_fixed c) s).bytes (with_bays r.1 z) (work-whole (allocate_fixed c) z tt (well-whole s y a.well) a.passed) (work-stored s y a.well (allocate_fixed c) tt a.passed)
      (pointer r.0) (ap (λ (o : Option (List ℕ)). is_none (over length o)) held)

  pub fixed_made : Made c s
  fixed_made = record {
    sized = tell (λ p. size (by_pointer p)) ∙ size-there (with_bays r.1 z) (by_pointer (pointer r.0)) held ∙ ap (told 0) long;
    zeros = tell (λ p. view (by_pointer p) 0 (up4 c)) ∙ view-there (with_bays r.1 z) (by_pointer (pointer r.0)) zs (up4 c) (omega (arith, long)) held;
    line = ap (λ (g : Answer). g.value % 4) (answered a y) ∙ on_line;
  }
