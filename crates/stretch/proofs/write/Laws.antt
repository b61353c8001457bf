-- What a write answers and leaves, and the laws that the proofs of the functions cite.
use mathlib.Core.Path.{◌≡◌, sym, ap, ◌∙◌}
use mathlib.Core.Bool.{true, cond}
use mathlib.Core.List.{List, ◌++◌}
use Prim.Native.Nat.{ℕ, ◌+◌, ◌≤◌}
use native.Mathlib.Omega.{arith}
use native.Mathlib.Decide.{ℕ_discrete}
use lib.ListN.{length, take, drop, length-take}
use lib.Seq.{sets}
use lib.Dec.{eqb}
use borrow.Author.Tests.{ne_eqb}
use Rattle.bigendian.specs.BigEndian.{Bytes, overwrite}
use Rattle.bigendian.proofs.Overwrite.{write-left}
use Rattle.format.specs.WellFormed.{well_formed, zone_of, length_field}
use Rattle.structure.specs.Structure.{Structure, start, encode, decode}
use Rattle.structure.specs.Valid.{Valid}
use Rattle.structure.proofs.Round.{length-is}
use Rattle.structure.proofs.Sound.{valid}
use Rattle.structure.proofs.Table.{encode-decode}
use Rattle.calls.specs.Calls.{Target, write, shows}
use Rattle.zone.specs.Work.{rewrite, Zone}
use Rattle.calls.specs.State.{with_bays}
use Rattle.zone.specs.Call.{zone_in, in_line, result_of, replacing, call_with, call}
use Rattle.call_laws.proofs.Outcome.{same_length}
use Rattle.access.specs.locate.Locate.{target_place, target_data}
use Rattle.access.specs.Named.{place_among}
use Rattle.access.proofs.Named.{among-fits}
use Rattle.access.proofs.locate.Data.{target_fits, target_room}
use Rattle.std.specs.Prelude.{Result, Ok, Err}
use Rattle.std.specs.Result.{IsErrAnd}
use Rattle.calls.specs.Refusals.{code_of, shown_of}
use Rattle.calls.specs.declared.Refusal.{Refusal}
use Rattle.stretch.specs.Stretch.{stretch_number}
use Rattle.stretch.specs.Part.{IsGranted, IsRefused}
use Rattle.std.specs.declared.ops.Range.{Range}
use Rattle.stretch.proofs.Answers.{Accepted, accepted, copy-number}
use Rattle.stretch.proofs.write.Edited.{flat-rewrite}
use Rattle.stretch.proofs.write.Refill.{after, len-same, refilled}

module _ (t : Target) (i : ℕ) (src s : List ℕ) (y : Bytes s) (wf : well_formed s ≡ true) where
  abbrev d : Structure
  d = decode s

  abbrev zone : Zone
  zone = zone_in s

  v : Valid d
  v = valid s y wf

  -- the bytes of the zone whose bays have the data changed are the old ones with src written over them
  pub written : (target_place t (zone_of s) ≡ 0 → ⊥) → i + length src ≤ length (target_data t (zone_of s))
      → replacing s d (in_line (with_bays (rewrite t (λ (l : List ℕ). sets l i src) zone.bays) zone)) ≡ overwrite s (target_place t (zone_of s) + i) src
  unfolding target_place target_data decode
  written live room =
      let q = place_among t (start d) d.blocks in
      let u = after t i src d in
      let line : in_line (with_bays (rewrite t (λ (l : List ℕ). sets l i src) zone.bays) zone) ≡ u =
      λ j. record { clock = d.clock; chain = d.chain; blocks = flat-rewrite t (λ (l : List ℕ). sets l i src) (start d) d.blocks j } in
      let k : q + i + length src ≤ length (encode d) = omega (arith, among-fits t (start d) d.blocks live, length-is d v) in
      ap (replacing s d) line
      ∙ same_length s y wf u (len-same t i src d v live)
      ∙ ap (◌++ drop (length_field s) s) (sym (refilled t i src d v live room))
      ∙ sym (write-left (encode d) (drop (length_field s) s) src (q + i) k)
      ∙ ap (λ (x : List ℕ). overwrite x (q + i) src) (encode-decode s y wf)

module _ (t : Target) (i n : ℕ) (buf s : List ℕ) (y : Bytes s) where
  abbrev number : ℕ
  number = stretch_number t i n (length buf) s

  pub write-is : call (write t i n buf) s ≡ result_of (shows number buf) (cond (eqb number 0) (overwrite s (target_place t (zone_of s) + i) (take n buf)) s)
  write-is = ap (λ (k : ℕ). call_with k (write t i n buf) s) (copy-number t i n s (length buf)) ∙ go (ℕ_discrete number 0)
    where
      go : Dec (number ≡ 0) → call_with number (write t i n buf) s ≡ result_of (shows number buf) (cond (eqb number 0) (overwrite s (target_place t (zone_of s) + i) (take n buf)) s)
      go (yes k) =
          let a = accepted s t i n (length buf) k in
          rw (k, a.well) (ap (result_of (shows 0 buf)) (written t i (take n buf) s y a.well a.live (omega (arith, a.room, length-take n buf))))
      go (no k) = rw (ne_eqb number 0 k)

-- ---- the functions

module _ (s : List ℕ) (t : Target) (i n : ℕ) (src : List ℕ) where
  module _ (p : Range ℕ) (g : IsGranted s t i n (length src) p) where
    abbrev fit : Accepted s t i n (length src)
    fit = accepted s t i n (length src) g.passed

    pub write-long : n ≤ length src
    write-long = fit.long

    pub write-room : p.start + length (take n src) ≤ length s
    write-room = omega (arith, g.start_is, fit.room, length-take n src, target_fits s g.bytes fit.well t fit.live, target_room s g.bytes fit.well t fit.live)

    pub write_done : (x : List ℕ) → x ≡ overwrite s p.start (take n src) → result_of (shows 0 src) x ≡ call (write t i n src) s
    write_done x e = rw (e, g.start_is) (sym (write-is t i n src s g.bytes ∙ (rw g.passed)))

  pub write-no : {T : Type 0} (r : Result T Refusal) (d : Refusal) → IsErrAnd r (λ e. e ≡ d) → IsRefused s t i n (length src) d → result_of (shown_of r src) s ≡ call (write t i n src) s
  write-no (Ok v) d k x = absurd k
  write-no (Err e) d k x = let q : e ≡ d = k in rw q (sym (write-is t i n src s x.bytes ∙ (rw (x.number_is, ne_eqb (code_of d) 0 x.some))))
