-- The loop's steps: no chunk yet, the lines of a chunk, the buffer after a chunk, another turn, the end.
use Rattle.std.proofs.Common.{◌≡◌, refl, sym, ap, subst, ◌∙◌, Bool, true, false, List, [], ◌++◌, ℕ, ◌+◌, ◌*◌, ◌%◌, ◌≤◌, ◌<◌, arith, length, take, length-append, length-take-le, take-add, take_at, drop_at, drop, ◌&&◌, leb, ltb}
use Rattle.std.specs.Prelude.{Option}
use Rattle.std.specs.Io.{StartsWith}
use Rattle.std.specs.Io.KnownBytes.{Consumes}
use Rattle.std.proofs.KnownBytes.{Consumes-nil, Consumes-trans, Appends-nil, Appends-trans}
use borrow.Author.Tests.{leb-true, ltb-true}
use Rattle.records.specs.Records.{output, after_input, record_length}
use Rattle.records.specs.Shown.{Run}
use Rattle.records.proofs.Split.{after_none, output-none}
use Rattle.records.proofs.Chunks.{output-append, after-append}
use Rattle.zone_run.specs.Loop.{fresh_buffer, chunk_size, most_chunks, Seen, Continues, Turned, goes_on, Ended, Wrote, Served}

and_left : (a b : Bool) → a && b ≡ true → a ≡ true
and_left true b h = refl
and_left false b h = h

and_right : (a b : Bool) → a && b ≡ true → b ≡ true
and_right true b h = h
and_right false b h = cc

-- full chunks are whole records
whole : (full : ℕ) (input : List ℕ) → length input ≡ full * chunk_size → length input % record_length ≡ 0
whole full input e = omega arith

pub continues : (full r : ℕ) (chunk entry exit out : List ℕ) → Seen (full * chunk_size) entry → Run chunk entry exit out r
    → Continues (full * chunk_size) chunk (take r out)
continues full r chunk entry exit out s run = record {
  earlier = s.input;
  size = s.size;
  prints =
      output-append s.input chunk fresh_buffer (whole full s.input s.size)
      ∙ ap (λ (z : List ℕ). output s.input fresh_buffer ++ output chunk z) (sym s.leaves)
      ∙ ap (λ (z : List ℕ). output s.input fresh_buffer ++ z) (sym run.prints);
}

-- nothing was read yet
pub served_none : (before had : Option (List ℕ)) (buffer : List ℕ) → buffer ≡ fresh_buffer → Served before before had had 0 buffer true
served_none before had buffer e = record {
  input = [];
  size = refl;
  taken = Consumes-nil before;
  leaves = e ∙ sym (after_none [] fresh_buffer (omega arith));
  lines = record { bytes = []; got = Appends-nil had; first = refl; whole = λ _. sym (output-none [] fresh_buffer (omega arith)) };
}

pub seen_of : (before after had has : Option (List ℕ)) (n : ℕ) (buffer : List ℕ) (written : Bool) → Served before after had has n buffer written → Seen n buffer
seen_of before after had has n buffer written s = record { input = s.input; size = s.size; leaves = s.leaves }

-- lines whose first bytes stand behind other lines
starts_behind : (first lines bytes : List ℕ) → StartsWith lines bytes → StartsWith (first ++ lines) (first ++ bytes)
starts_behind first lines bytes h =
    ap (λ n. take n (first ++ lines)) (length-append first bytes)
    ∙ take-add (length first) (length bytes) (first ++ lines)
    ∙ ap (λ l. l ++ take (length bytes) (drop (length first) (first ++ lines))) (take_at first lines (length first) refl)
    ∙ ap (λ l. first ++ take (length bytes) l) (drop_at first lines (length first) refl)
    ∙ ap (λ l. first ++ l) h

-- a turn after full chunks whose lines were written
pub served_more : (before mid after had held has : Option (List ℕ)) (full got printed : ℕ) (written : Bool) (chunk out entry exit : List ℕ)
    → Served before mid had held (full * chunk_size) entry true → Turned chunk out entry exit got printed → Consumes mid after (take got chunk)
    → Wrote held has (take printed out) written → Served before after had has (full * chunk_size + got) exit written
served_more before mid after had held has full got printed written chunk out entry exit s turn taken wrote =
    let input = s.input ++ take got chunk in
    let printed_all : output input fresh_buffer ≡ output s.input fresh_buffer ++ take printed out =
    output-append s.input (take got chunk) fresh_buffer (whole full s.input s.size)
    ∙ ap (λ (z : List ℕ). output s.input fresh_buffer ++ output (take got chunk) z) (sym s.leaves)
    ∙ ap (λ (z : List ℕ). output s.input fresh_buffer ++ z) (sym turn.run.prints) in
    let earlier : s.lines.bytes ≡ output s.input fresh_buffer = s.lines.whole refl in
    record {
      input = input;
      size = omega (arith, length-append s.input (take got chunk), length-take-le got chunk turn.most, s.size);
      taken = Consumes-trans before mid after s.input (take got chunk) s.taken taken;
      leaves =
          turn.run.leaves
          ∙ ap (after_input (take got chunk)) s.leaves
          ∙ sym (after-append s.input (take got chunk) fresh_buffer (whole full s.input s.size));
      lines = record {
        bytes = s.lines.bytes ++ wrote.bytes;
        got = Appends-trans had held has s.lines.bytes wrote.bytes s.lines.got wrote.got;
        first = subst (λ l. StartsWith (output input fresh_buffer) (l ++ wrote.bytes)) (sym earlier)
            (subst (λ l. StartsWith l (output s.input fresh_buffer ++ wrote.bytes)) (sym printed_all)
            (starts_behind (output s.input fresh_buffer) (take printed out) wrote.bytes wrote.first));
        whole = λ w. ap (λ l. l ++ wrote.bytes) earlier ∙ ap (λ l. output s.input fresh_buffer ++ l) (wrote.whole w) ∙ sym printed_all;
      };
    }

pub ended : (full got : ℕ) (written t : Bool) (buffer : List ℕ) → got ≤ chunk_size → Seen (full * chunk_size + got) buffer → t ≡ goes_on got written full → t ≡ false
    → Ended buffer full got written
ended full got written t buffer most seen e stop = record { most = most; seen = seen; stops = sym e ∙ stop }

-- there is another turn
pub record Another (got full : ℕ) (written : Bool) : Type 0 where
  pub whole_chunk : chunk_size ≤ got
  pub counts : full < most_chunks
  pub all : written ≡ true

pub another : (got full : ℕ) (written t : Bool) → t ≡ goes_on got written full → t ≡ true → Another got full written
unfolding goes_on
another got full written t e on =
    let both : leb chunk_size got && (ltb full most_chunks && written) ≡ true = sym e ∙ on in
    let right = and_right (leb chunk_size got) (ltb full most_chunks && written) both in
    record {
      whole_chunk = leb-true chunk_size got (and_left (leb chunk_size got) (ltb full most_chunks && written) both);
      counts = ltb-true full most_chunks (and_left (ltb full most_chunks) written right);
      all = and_right (ltb full most_chunks) written right;
    }

-- that was a full chunk, and its lines were written
pub served_next : (before after had has : Option (List ℕ)) (full got : ℕ) (written : Bool) (chunk buffer : List ℕ) → got ≤ length chunk → length chunk ≡ chunk_size
    → Another got full written → Served before after had has (full * chunk_size + got) buffer written → Served before after had has ((full + 1) * chunk_size) buffer true
served_next before after had has full got written chunk buffer most size a s =
    let n : full * chunk_size + got ≡ (full + 1) * chunk_size = omega (arith, a.whole_chunk) in
    subst (λ w. Served before after had has ((full + 1) * chunk_size) buffer w) a.all (subst (λ k. Served before after had has k buffer written) n s)
