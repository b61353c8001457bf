-- What a write comes to, in its own terms: a read of that stretch gives what was written.
use mathlib.Core.Path.{◌≡◌, refl, sym, ap, ◌∙◌}
use mathlib.Core.Bool.{Bool, true, false, cond, false≢true}
use mathlib.Core.List.{List, [], ◌∷◌, ◌++◌, append_assoc}
use Prim.Native.Nat.{ℕ, ◌+◌, ◌≤◌}
use native.Mathlib.Omega.{arith}
use lib.ListN.{length, take, drop}
use lib.Seq.{sets, sets-eq, length-sets, take_at, drop_at, length-take-le}
use borrow.Author.Tests.{ne_eqb, le-leb}
use Rattle.bigendian.specs.BigEndian.{Bytes}
use Rattle.format.specs.WellFormed.{well_formed, zone_of}
use Rattle.structure.specs.Structure.{Block, fixed, Structure, size, start, decode, cell}
use Rattle.structure.proofs.Sound.{valid}
use Rattle.bay.specs.Bay.{free, held}
use Rattle.calls.specs.Calls.{Target, by_handle, by_pointer, by_name, Call, read, write, shows}
use Rattle.zone.specs.Call.{zone_in, in_line, Result, call}
use Rattle.zone.proofs.Run.{call-well}
use Rattle.call_laws.proofs.Outcome.{step_as, after_line}
use Rattle.call_laws.proofs.Accepted as AtCall
use Rattle.access.specs.locate.Locate.{target_place, target_data}
use Rattle.access.specs.Named.{names, header_of_block, held_by, refill, place_among, data_among}
use Rattle.stretch.specs.Stretch.{part_number, stretch_number}
use Rattle.stretch.proofs.Answers.{block_0, Accepted, accepted, read_is}
use Rattle.stretch.proofs.write.Refill.{after, start-same}
use Rattle.stretch.proofs.write.Edited.{edit_block, edited, edit-hit, edit-miss, flat-rewrite}
use Rattle.stretch.proofs.write.Laws.{write-is}

-- ---- the changed block is found where it was, with its new data

module _ (f : List ℕ → List ℕ) where
  names-refill : (t : Target) (at : ℕ) (b : Block) → names t at (refill f b) ≡ names t at b
  names-refill (by_handle h) at (cell (free n)) = refl
  names-refill (by_handle h) at (fixed d) = refl
  names-refill (by_handle h) at (cell (held it)) = refl
  names-refill (by_name i) at (cell (free n)) = refl
  names-refill (by_name i) at (fixed d) = refl
  names-refill (by_name i) at (cell (held it)) = refl
  names-refill (by_pointer p) at (cell (free n)) = refl
  names-refill (by_pointer p) at (fixed d) = refl
  names-refill (by_pointer p) at (cell (held it)) = refl

  header-refill : (b : Block) → header_of_block (refill f b) ≡ header_of_block b
  header-refill (cell (free n)) = refl
  header-refill (fixed d) = refl
  header-refill (cell (held it)) = refl

  held-refill : (t : Target) (at : ℕ) (b : Block) → names t at b ≡ true → held_by (refill f b) ≡ f (held_by b)
  held-refill (by_handle h) at (cell (free n)) e = absurd (false≢true e)
  held-refill (by_pointer p) at (cell (free n)) e = absurd (false≢true e)
  held-refill (by_name i) at (cell (free n)) e = absurd (false≢true e)
  held-refill t at (fixed d) e = refl
  held-refill t at (cell (held it)) e = refl

  module _ (t : Target) where
    place_after : (at : ℕ) (bs : List Block) → place_among t at (edited t f at bs) ≡ place_among t at bs
    unfolding place_among edited
    place_after at [] = refl
    place_after at (b ∷ bs) = go (names t at b) refl (place_after (at + size b) bs)
      where
        go : (u : Bool) → names t at b ≡ u → place_among t (at + size b) (edited t f (at + size b) bs) ≡ place_among t (at + size b) bs
            → place_among t at (edit_block t f at b ∷ edited t f (at + size b) bs) ≡ cond u (at + header_of_block b) (place_among t (at + size b) bs)
        go true e i = rw (edit-hit t f at b e, names-refill t at b, e, header-refill b)
        go false e i = rw (edit-miss t f at b e, e) i

    data-after : (at : ℕ) (bs : List Block) → (place_among t at bs ≡ 0 → ⊥) → data_among t at (edited t f at bs) ≡ f (data_among t at bs)
    unfolding place_among data_among edited
    data-after at [] l = absurd (l refl)
    data-after at (b ∷ bs) l = go (names t at b) refl l (data-after (at + size b) bs)
      where
        go : (u : Bool) → names t at b ≡ u → (cond u (at + header_of_block b) (place_among t (at + size b) bs) ≡ 0 → ⊥)
            → ((place_among t (at + size b) bs ≡ 0 → ⊥) → data_among t (at + size b) (edited t f (at + size b) bs) ≡ f (data_among t (at + size b) bs))
            → data_among t at (edit_block t f at b ∷ edited t f (at + size b) bs) ≡ f (cond u (held_by b) (data_among t (at + size b) bs))
        go true e l i = rw (edit-hit t f at b e, names-refill t at b, e) (held-refill t at b e)
        go false e l i = rw (edit-miss t f at b e, e) (i l)

-- ---- a read after a write

module _ (t : Target) (i n : ℕ) (src s : List ℕ) (y : Bytes s) (ys : Bytes src) (done : (call (write t i n src) s).answer.number ≡ 0) where
  abbrev c : Call
  c = write t i n src

  abbrev s' : List ℕ
  s' = (call c s).bytes

  abbrev f : List ℕ → List ℕ
  f l = sets l i (take n src)

  zero_number : stretch_number t i n (length src) s ≡ 0
  zero_number = sym (ap (λ (r : Result). r.answer.number) (write-is t i n src s y)) ∙ done

  ok : Accepted s t i n (length src)
  ok = accepted s t i n (length src) zero_number

  pub write-well : well_formed s' ≡ true
  write-well = call-well s y ok.well c ys

  decode_is : decode s' ≡ after t i (take n src) (decode s)
  decode_is =
      after_line s y ok.well c ys
      ∙ ap (λ (k : ℕ). in_line (step_as k c (zone_in s)).next) (AtCall.accepted c s (λ n v. refl) refl done).passed
      ∙ (λ j. record { clock = (decode s).clock; chain = (decode s).chain; blocks = flat-rewrite t f (start (decode s)) (decode s).blocks j })

  place_is : target_place t (zone_of s') ≡ target_place t (zone_of s)
  unfolding target_place decode
  place_is =
      ap (λ (x : Structure). place_among t (start x) x.blocks) decode_is
      ∙ ap (λ (a : ℕ). place_among t a (edited t f (start (decode s)) (decode s).blocks)) (start-same t i (take n src) (decode s) (valid s y ok.well) ok.live)
      ∙ place_after f t (start (decode s)) (decode s).blocks

  data_is : target_data t (zone_of s') ≡ f (target_data t (zone_of s))
  unfolding target_place target_data decode
  data_is =
      ap (λ (x : Structure). data_among t (start x) x.blocks) decode_is
      ∙ ap (λ (a : ℕ). data_among t a (edited t f (start (decode s)) (decode s).blocks)) (start-same t i (take n src) (decode s) (valid s y ok.well) ok.live)
      ∙ data-after f t (start (decode s)) (decode s).blocks ok.live

  again : (have : ℕ) → n ≤ have → stretch_number t i n have s' ≡ 0
  unfolding stretch_number part_number
  again have l =
      let d = target_data t (zone_of s) in
      rw (block_0 t s' write-well (λ e. ok.live (sym place_is ∙ e)), data_is, length-sets d i (take n src), le-leb (i + n) (length d) ok.room, le-leb n have l)

  -- "write replaces bytes": the stretch holds the first n bytes of the second buffer
  pub read-after-write : (buf : List ℕ) → n ≤ length buf → (call (read t i n buf) s').answer ≡ shows 0 (take n src ++ drop n buf)
  read-after-write buf l =
      let d = target_data t (zone_of s) in
      let x = take n src in
      let lx : length x ≡ n = length-take-le n src ok.long in
      let li : length (take i d) ≡ i = length-take-le i d (omega (arith, ok.room)) in
      let e : f d ≡ take i d ++ (x ++ drop (i + length x) d) = sets-eq x d i (omega (arith, ok.room)) ∙ append_assoc (take i d) x (drop (i + length x) d) in
      let g : take n (drop i (target_data t (zone_of s'))) ≡ x =
      ap (λ (v : List ℕ). take n (drop i v)) (data_is ∙ e) ∙ ap (take n) (drop_at (take i d) (x ++ drop (i + length x) d) i li) ∙ take_at x (drop (i + length x) d) n lx in
      read_is t i n s' buf ∙ (rw (again (length buf) l, g))

-- a refused write leaves every byte
pub write-refused : (t : Target) (i n : ℕ) (src s : List ℕ) → Bytes s → ((call (write t i n src) s).answer.number ≡ 0 → ⊥) → (call (write t i n src) s).bytes ≡ s
write-refused t i n src s y l =
    let k : stretch_number t i n (length src) s ≡ 0 → ⊥ = λ e. l (ap (λ (r : Result). r.answer.number) (write-is t i n src s y) ∙ e) in
    ap (λ (r : Result). r.bytes) (write-is t i n src s y) ∙ (rw (ne_eqb (stretch_number t i n (length src) s) 0 k))
