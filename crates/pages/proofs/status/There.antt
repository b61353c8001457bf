-- A page that is there, in a buffer: its status word, and what the calls on it leave.
use Rattle.std.proofs.Common.{◌≡◌, ℕ, ◌+◌, ◌-◌, ◌<◌, ◌≤◌, true, List, [], ◌∷◌, ◌++◌, length, get_or, take, drop, set, sym, refl, ap, ◌∙◌, ap₂, append_assoc, arith, length-append}
use lib.Seq.{set-append_left, set_split}
use Rattle.block_type.specs.Limits.{page_header, clock_at, stamp_range, first_block}
use Rattle.bigendian.specs.BigEndian.{from_be, to_be, slice, overwrite, Bytes}
use Rattle.bigendian.proofs.Laws.{length-to_be}
use Rattle.bigendian.proofs.Parts.{slice-take}
use Rattle.bigendian.proofs.Overwrite.{write-left, write-length}
use Rattle.format.specs.WellFormed.{well_formed, zone_of, length_field}
use Rattle.kinds.specs.Kinds.{Status, status_word, has_name, on_status}
use Rattle.bay.specs.Bay.{items, edit}
use Rattle.structure.specs.Structure.{Structure, count, start, place_of, encode, decode}
use Rattle.structure.specs.Valid.{Valid}
use Rattle.structure.proofs.Round.{length-is}
use Rattle.structure.proofs.Sound.{valid}
use Rattle.structure.proofs.Table.{whole, encode-zone, encode-decode}
use Rattle.calls.specs.Calls.{PageCall, by_name, on_page}
use Rattle.calls.specs.Bays.{map_s}
use Rattle.calls.specs.State.{master_count}
use Rattle.zone.specs.Group.{group}
use Rattle.zone.specs.Work.{work, ticked, data_offset}
use Rattle.zone.specs.Call.{zone_in, replacing, outcome, call_with, call}
use Rattle.zone.proofs.Keep.{many-strip}
use Rattle.zone.proofs.Run.{well-whole, well-stored}
use Rattle.zone.proofs.Fields.{clock-read}
use Rattle.access.specs.Named.{place_among}
use Rattle.access.specs.locate.Locate.{target_place}
use Rattle.access.proofs.Checked as Checked
use Rattle.call_laws.proofs.Outcome.{same_length}
use Rattle.pages.specs.status.Status.{status_length, Reworded, restatus, clocked}
use Rattle.pages.proofs.Page.{number-live}
use Rattle.pages.proofs.status.Paged.{paged}
use Rattle.pages.proofs.status.Restatus.{reclocked, word_fits, word-is, start-same, len-same, restated, place_same}
use Rattle.pages.proofs.status.Refused.{Plain, number_is}

-- one byte written
pub set-clock : (l : List ℕ) (ck : ℕ) → clock_at < length l → set l clock_at ck ≡ overwrite l clock_at (ck ∷ [])
set-clock l ck h = set_split l clock_at ck h ∙ sym (append_assoc (take clock_at l) (ck ∷ []) (drop (clock_at + 1) l))

module _ (s : List ℕ) (n : ℕ) (y : Bytes s) (wf : well_formed s ≡ true) (live : target_place (by_name n) (zone_of s) ≡ 0 → ⊥) where
  abbrev pub d : Structure
  d = decode s

  pub v : Valid d
  v = valid s y wf

  pub there : place_among (by_name n) (start (decode s)) (decode s).blocks ≡ 0 → ⊥
  unfolding target_place decode
  there = live

  abbrev pub status : Status
  status = (paged n d v there).status

  pub small : status.stamp < stamp_range
  small = (paged n d v there).sound.2.1

  -- the status word's offset
  abbrev pub word : ℕ
  word = target_place (by_name n) (zone_of s) - status_length

  place_is : target_place (by_name n) (zone_of s) ≡ place_among (by_name n) (start (decode s)) (decode s).blocks
  unfolding target_place decode
  place_is = refl

  encode-is : encode (decode s) ≡ zone_of s
  unfolding decode
  encode-is = encode-zone (zone_of s) (whole s y wf)

  in-zone : word + status_length ≤ length (encode d)
  in-zone = omega (arith, word_fits n d v there, place_is)

  pub low : page_header ≤ target_place (by_name n) (zone_of s)
  low = omega (arith, place_is, (paged n d v there).place)

  pub fits : word + status_length ≤ length s
  fits = omega (arith, in-zone, ap length (encode-decode s y wf), length-append (encode d) (drop (length_field s) s))

  pub read : from_be (slice s word 2) ≡ status_word status
  read =
      let l : word + status_length ≤ length_field s = omega (arith, in-zone, length-is d v, Checked.length-is s y wf) in
      ap from_be (sym (slice-take s (length_field s) word 2 l)) ∙ ap (λ (x : List ℕ). from_be (slice x word 2)) (sym encode-is)
      ∙ ap (λ (k : ℕ). from_be (slice (encode d) (k - status_length) 2)) place_is ∙ word-is n d v there

  -- nothing refuses the call
  pub passes : (c : PageCall) → Plain n c → call (on_page n c) s ≡ outcome s (decode s) (work (on_page n c) (zone_in s))
  unfolding decode
  passes c p = ap (λ (k : ℕ). call_with k (on_page n c) s) (number_is s n c p true wf ∙ number-live (zone_of s) n live) ∙ (rw wf)

  module _ (g : Status → Status) (keep : (st : Status) → st.stamp < stamp_range → (g st).stamp < stamp_range) (w r : ℕ) (ew : w ≡ from_be (slice s word 2)) (q : Reworded g w r) where
    -- the word written
    written : overwrite s word (to_be 2 r) ≡ encode (restatus n g d) ++ drop (length_field s) s
    written =
        let e : r ≡ status_word (g status) = q.is status small (ew ∙ read) in
        let x = to_be 2 r in
        ap (λ (z : List ℕ). overwrite z word x) (sym (encode-decode s y wf))
        ∙ write-left (encode d) (drop (length_field s) s) x word (omega (arith, in-zone, length-to_be 2 r))
        ∙ ap (◌++ drop (length_field s) s)
        (ap₂ (λ (k j : ℕ). overwrite (encode d) (k - status_length) (to_be 2 j)) place_is e ∙ restated n d v there g keep)

    long : length (encode (restatus n g d)) ≡ length (encode d)
    long =
        omega (
          arith,
          ap length written,
          write-length s (to_be 2 r) word (omega (arith, fits, length-to_be 2 r)),
          length-append (encode (restatus n g d)) (drop (length_field s) s),
          ap length (encode-decode s y wf),
          length-append (encode d) (drop (length_field s) s),
        )

    pub marks : replacing s d (restatus n g d) ≡ overwrite s word (to_be 2 r)
    marks = same_length s y wf (restatus n g d) (len-same n d v there g keep) ∙ sym written

    -- the clock too
    pub uses : (ck : ℕ) → replacing s d (clocked ck (restatus n g d)) ≡ set (overwrite s word (to_be 2 r)) clock_at ck
    uses ck =
        let u = restatus n g d in
        let l : clock_at < length (encode u) = omega (arith, long, length-is d v) in
        same_length s y wf (clocked ck u) (len-same n d v there g keep)
        ∙ ap (◌++ drop (length_field s) s) (sym (set-clock (encode u) ck l ∙ reclocked ck u))
        ∙ sym (ap (λ (x : List ℕ). set x clock_at ck) written ∙ set-append_left (encode u) (drop (length_field s) s) clock_at ck l)

  -- the data offset that a use answers, and the clock that it steps
  pub clock-is : (decode s).clock ≡ get_or s clock_at 0
  clock-is = sym (clock-read s (zone_in s) (well-whole s y wf) (well-stored s y wf))

  pub value_is : (g : Status → Status) → ((st : Status) → st.stamp < stamp_range → (g st).stamp < stamp_range)
      → data_offset n (ticked (map_s (edit (has_name n) (on_status g)) (group (start (decode s)) (decode s).blocks)) (zone_in s)) ≡ target_place (by_name n) (zone_of s)
  value_is g keep =
      let bays = map_s (edit (has_name n) (on_status g)) (group (start d) d.blocks) in
      let many : master_count items (ticked bays (zone_in s)) ≡ count (restatus n g d) = sym (ap (◌+ length d.chain) (many-strip bays)) in
      ap (λ (k : ℕ). place_of (has_name n) (first_block k) (restatus n g d).blocks) many
      ∙ ap (λ (k : ℕ). place_of (has_name n) k (restatus n g d).blocks) (start-same n d v there g keep)
      ∙ place_same n d v there g keep ∙ sym place_is
