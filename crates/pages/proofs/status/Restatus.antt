-- A status word written in its place is the zone with the page's status changed, and a clock written in its place the zone with that clock.
use Rattle.std.proofs.Common.{◌≡◌, ℕ, ◌+◌, ◌-◌, ◌*◌, ◌/◌, ◌<◌, ◌≤◌, List, [], ◌∷◌, ◌++◌, length, take, drop, sym, refl, ap, ◌∙◌, append_assoc, append-nil, arith, length-append, take-append-drop, length-take, drop_at, eq-eqb}
use Rattle.block_type.specs.Limits.{page_header, page_code, type_unit, clock_at, stamp_range}
use Rattle.bigendian.specs.BigEndian.{from_be, to_be, slice, overwrite}
use Rattle.bigendian.proofs.Laws.{length-to_be, be-front}
use Rattle.bigendian.proofs.Overwrite.{write_mid}
use Rattle.kinds.specs.Kinds.{Status, status_word, page, is, has_name}
use Rattle.bay.specs.Bay.{held}
use Rattle.calls.specs.Calls.{by_name}
use Rattle.structure.specs.Structure.{Block, cell, Structure, sizes, start, len, place_of, encode, encode_block, join, handles_of}
use Rattle.structure.specs.Valid.{Valid}
use Rattle.structure.proofs.Append.{sizes-append}
use Rattle.structure.proofs.Round.{rest-is, length-is}
use Rattle.structure.proofs.ZoneLayout.{encode-lay, lay-clock}
use Rattle.access.specs.row.Row.{Sound, bytes_of}
use Rattle.access.specs.Named.{place_among}
use Rattle.access.proofs.Among.{name-place}
use Rattle.access.proofs.row.Laws.{bytes-append, bytes-long, sound-left}
use Rattle.access.proofs.row.Zone.{valid-sound}
use Rattle.settle.proofs.surgery.Stays.{starts, stays}
use Rattle.pages.specs.status.Status.{status_length, restatus, clocked}
use Rattle.pages.proofs.Page.{its-place}
use Rattle.pages.proofs.status.Words.{word_small}
use Rattle.pages.proofs.status.Paged.{Paged, paged}
use Rattle.pages.proofs.status.Edited.{one-restatus}

-- ---- the clock

pub reclocked : (ck : ℕ) (s : Structure) → overwrite (encode s) clock_at (ck ∷ []) ≡ encode (clocked ck s)
reclocked ck s = ap (λ (y : List ℕ). overwrite y clock_at (ck ∷ [])) (encode-lay s) ∙ lay-clock s.clock ck _ _ _ _ _ _ ∙ sym (encode-lay (clocked ck s))

-- ---- the status

module _ (n : ℕ) (s : Structure) (v : Valid s) (live : place_among (by_name n) (start s) s.blocks ≡ 0 → ⊥) where
  abbrev p : Paged n s
  p = paged n s v live

  -- the status word's offset
  abbrev word : ℕ
  word = place_among (by_name n) (start s) s.blocks - status_length

  abbrev with : Status → Block
  with st = cell (held (page n st p.bytes))

  -- what stands before the word, and behind it
  abbrev v₂ : ℕ
  v₂ = page_code * type_unit + (page_header + length p.bytes) / 2

  abbrev ahead : List ℕ
  ahead = take (start s) (encode s) ++ bytes_of p.before

  abbrev behind : List ℕ
  behind = p.bytes ++ bytes_of p.after

  around : (st : Status) → ahead ++ (encode_block (with st) ++ bytes_of p.after) ≡ (ahead ++ (to_be 2 v₂ ++ to_be 4 n)) ++ (to_be 2 (status_word st) ++ behind)
  unfolding encode_block
  around st = simp append_assoc

  -- the status does not change how long the block is
  long : (st st' : Status) → length (encode_block (with st)) ≡ length (encode_block (with st'))
  unfolding encode_block
  long st st' = simp (length-append, length-to_be)

  ahead-long : length ahead ≡ start s + sizes p.before
  ahead-long = omega (
    arith,
    length-append (take (start s) (encode s)) (bytes_of p.before),
    length-take (start s) (encode s),
    length-is s v,
    bytes-long p.before (sound-left p.before (with p.status ∷ p.after) (rw p.is at (valid-sound s v))),
  )

  word_at : length (ahead ++ (to_be 2 v₂ ++ to_be 4 n)) ≡ word
  word_at = omega (arith, length-append ahead (to_be 2 v₂ ++ to_be 4 n), length-append (to_be 2 v₂) (to_be 4 n), length-to_be 2 v₂, length-to_be 4 n, ahead-long, p.place)

  whole : encode s ≡ ahead ++ (encode_block (with p.status) ++ bytes_of p.after)
  unfolding join
  whole =
      sym (take-append-drop (start s) (encode s))
      ∙ ap (take (start s) (encode s) ++◌) (rest-is s v ∙ ap bytes_of p.is ∙ bytes-append p.before (with p.status ∷ p.after))
      ∙ sym (append_assoc (take (start s) (encode s)) (bytes_of p.before) (encode_block (with p.status) ++ bytes_of p.after))

  pub word_fits : word + status_length ≤ length (encode s)
  word_fits = omega (
    arith,
    ap length (whole ∙ around p.status),
    length-append (ahead ++ (to_be 2 v₂ ++ to_be 4 n)) (to_be 2 (status_word p.status) ++ behind),
    length-append (to_be 2 (status_word p.status)) behind,
    length-to_be 2 (status_word p.status),
    word_at,
  )

  -- the word that stands there
  pub word-is : from_be (slice (encode s) word 2) ≡ status_word p.status
  word-is =
      ap (λ (y : List ℕ). from_be (take 2 (drop word y))) (whole ∙ around p.status)
      ∙ ap (λ (y : List ℕ). from_be (take 2 y)) (drop_at (ahead ++ (to_be 2 v₂ ++ to_be 4 n)) (to_be 2 (status_word p.status) ++ behind) word word_at)
      ∙ be-front 2 (status_word p.status) behind (word_small p.status p.sound.2.1)

  module _ (g : Status → Status) (small : (st : Status) → st.stamp < stamp_range → (g st).stamp < stamp_range) where
    abbrev old : List Block
    old = with p.status ∷ []

    abbrev new : List Block
    new = with (g p.status) ∷ []

    is-there : restatus n g s ≡ record { clock = s.clock; chain = s.chain; blocks = p.before ++ (new ++ p.after) }
    is-there = λ j. record { clock = s.clock; chain = s.chain; blocks = one-restatus n g s p j }

    new-sound : Sound new
    new-sound = ((p.sound.0, p.sound.1, (p.sound.2.0, small p.status p.sound.2.1)), tt)

    new-size : sizes new ≡ sizes old
    unfolding sizes
    new-size = refl

    new-handles : handles_of new ≡ handles_of old
    unfolding handles_of
    new-handles = refl

    new-place : (k o : ℕ) → place_of (is k) o new ≡ place_of (is k) o old
    unfolding place_of
    new-place k o = refl

    pub start-same : start (restatus n g s) ≡ start s
    start-same = ap start is-there ∙ starts s v p.before old new p.after p.is new-size new-sound new-handles new-place

    pub len-same : len (restatus n g s) ≡ len s
    unfolding sizes
    len-same =
        omega (
          arith,
          start-same,
          ap sizes (one-restatus n g s p),
          ap sizes p.is,
          sizes-append p.before (new ++ p.after),
          sizes-append p.before (old ++ p.after),
        )

    pub restated : overwrite (encode s) word (to_be 2 (status_word (g p.status))) ≡ encode (restatus n g s)
    unfolding join
    restated =
        let w = status_word p.status in
        let w' = status_word (g p.status) in
        ap (λ (y : List ℕ). overwrite y word (to_be 2 w')) (whole ∙ around p.status)
        ∙ write_mid (ahead ++ (to_be 2 v₂ ++ to_be 4 n)) (to_be 2 w) (to_be 2 w') behind word word_at (length-to_be 2 w ∙ sym (length-to_be 2 w'))
        ∙ sym (around (g p.status))
        ∙ sym (ap (λ (y : List ℕ). overwrite y (start s + sizes p.before) (encode_block (with (g p.status)))) whole
        ∙ write_mid ahead (encode_block (with p.status)) (encode_block (with (g p.status))) (bytes_of p.after) (start s + sizes p.before) ahead-long (long p.status (g p.status)))
        ∙ ap (overwrite (encode s) (start s + sizes p.before)) (sym (append-nil (encode_block (with (g p.status)))))
        ∙ stays s v p.before old new p.after p.is new-size new-sound new-handles new-place
        ∙ ap encode (sym is-there)

    -- the page stays where it is
    pub place_same : place_of (has_name n) (start s) (restatus n g s).blocks ≡ place_among (by_name n) (start s) s.blocks
    place_same =
        name-place n (start s) (restatus n g s).blocks
        ∙ ap (place_among (by_name n) (start s)) (one-restatus n g s p)
        ∙ its-place n p.before (page n (g p.status) p.bytes) p.after (eq-eqb n n refl) (start s) p.not-before
        ∙ sym p.place
