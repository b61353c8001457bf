-- Where a view starts and how long it is: by the table and the block's master or pointer, as by a walk through the blocks.
use mathlib.Core.Path.{◌≡◌, refl, ap, sym, ◌∙◌}
use mathlib.Core.Bool.{Bool, true, false, cond}
use mathlib.Core.List.{List}
use Prim.Native.Nat.{ℕ, ◌+◌, ◌-◌, ◌≤◌}
use native.Mathlib.Omega.{arith}
use lib.ListN.{length, drop, length-take}
use lib.Seq.{take-take}
use lib.Dec.{eqb}
use borrow.Author.Tests.{ne_eqb}
use Rattle.format.specs.Occurs.{occurs}
use Rattle.bigendian.specs.BigEndian.{Bytes, from_be}
use Rattle.bigendian.proofs.Parts.{drop-take}
use Rattle.block_type.specs.Limits.{master_size}
use Rattle.format.specs.WellFormed.{well_formed, zone_of, first_field, length_field, master_at, is_master, split_blocks}
use Rattle.format.proofs.Handles.{handles}
use Rattle.calls.specs.Calls.{Target, by_handle, by_pointer, by_name, view}
use Rattle.zone.specs.Call.{number_of}
use Rattle.zone.specs.View.{data_at, view_start, view_length}
use Rattle.access.specs.Edit as Edit
use Rattle.access.proofs.PlaceLaws.{by_count, place-no, handle-fits}
use Rattle.access.specs.locate.Locate.{target_place, absent_number}
use Rattle.access.proofs.locate.Laws.{place-by-handle}
use Rattle.access.proofs.locate.Offset.{offset-is}
use Rattle.stretch.specs.Stretch as Walked
use Rattle.stretch.specs.Stretch.{stretch_number}
use Rattle.stretch.proofs.Answers.{Case, ill, lost, past, short, fits, the-case, absent-some, view-number}
use Rattle.stretch.proofs.write.Hardware.{target_is}
use Rattle.structure.specs.IsZone.{IsZone, is_zone}

-- ---- the place

-- a master is read alike with and without the bytes beyond the zone
master-same : (s : List ℕ) (h : ℕ) → h + master_size ≤ length (zone_of s) → master_at (zone_of s) h ≡ master_at s h
master-same s h l =
    ap from_be (rw (drop-take h (length_field s) s, take-take 4 (length_field s - h) (drop h s) (omega (arith, length-take (length_field s) s))))

place-tied : (t : Target) (s : List ℕ) → Bytes s → well_formed s ≡ true → (target_place t (zone_of s) ≡ 0 → ⊥) → target_place t (zone_of s) ≡ data_at t s
place-tied (by_pointer p) s y w l = target_is p (zone_of s) l
place-tied (by_name n) s y w l = offset-is n s
place-tied (by_handle h) s y w l = go (is_master (first_field (zone_of s)) h) refl
  where
    iz : IsZone (zone_of s)
    iz = is_zone s y w refl

    is-place : Edit.place_in (zone_of s) h ≡ target_place (by_handle h) (zone_of s)
    is-place = place-by-handle (zone_of s) h _ refl

    count-place : (t : Bool) (m : ℕ) → target_place (by_handle h) (zone_of s) ≡ cond t 0 m → target_place (by_handle h) (zone_of s) ≡ m
    count-place true m e = absurd (l e)
    count-place false m e = e

    go : (t : Bool) → is_master (first_field (zone_of s)) h ≡ t → target_place (by_handle h) (zone_of s) ≡ master_at s h
    go false e = absurd (l (sym is-place ∙ sym (place-no (zone_of s) iz h (first_field (zone_of s)) false refl (sym e) refl)))
    go true e = count-place (eqb (occurs h (handles (split_blocks (drop (first_field (zone_of s)) (zone_of s))))) 0) (master_at (zone_of s) h) (sym is-place ∙ by_count (zone_of s) iz h) ∙ master-same s h (handle-fits (zone_of s) iz h (first_field (zone_of s)) true refl (sym e) refl)

module _ (t : Target) (i n : ℕ) (s : List ℕ) (y : Bytes s) where
  pub start-tied : Walked.view_start t i n s ≡ view_start t i n s
  unfolding Walked.view_start
  start-tied = go (the-case t i n n s)
    where
      go : Case t i n n s → cond (eqb (stretch_number t i n n s) 0) (target_place t (zone_of s) + i) 0 ≡ cond (eqb (number_of (view t i n) s) 0) (data_at t s + i) 0
      go (fits e l o a b k) = rw (view-number t i n s, k) (ap (◌+ i) (place-tied t s y e l))
      go (ill e k) = rw (view-number t i n s, k)
      go (lost e o k) = rw (view-number t i n s, k, ne_eqb (absent_number t) 0 (absent-some t))
      go (past e o a k) = rw (view-number t i n s, k)
      go (short e o a b k) = rw (view-number t i n s, k)

  pub length-tied : Walked.view_length t i n s ≡ view_length t i n s
  unfolding Walked.view_length
  length-tied = ap (λ (k : ℕ). cond (eqb k 0) n 0) (sym (view-number t i n s))

  -- of a part that starts at o in the zone
  pub part-start : {A : Type 0} (b : A) (o : ℕ) (p : A × ℕ) → p ≡ (b, o + Walked.view_start t i n s) → p ≡ (b, o + view_start t i n s)
  part-start b o p e = e ∙ ap (λ (k : ℕ). (b, o + k)) start-tied

  pub part_length : (k : ℕ) → k ≡ Walked.view_length t i n s → k ≡ view_length t i n s
  part_length k e = e ∙ length-tied
