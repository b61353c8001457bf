-- The whole run: what was written are the ledger's lines of what was read, and an input that is not too long is read to its end.
use Rattle.std.proofs.Common.{◌≡◌, refl, sym, ap, subst, ◌∙◌, Bool, true, false, List, ◌++◌, ℕ, ◌+◌, ◌*◌, ◌≤◌, ◌<◌, arith, length, length-append, append-nil, is_ok, OnOk, IfSome, IsErr, Ok, Err, Some, None, le-leb, lt-ltb}
use Rattle.std.proofs.Common.{inl, inr}
use Rattle.std.proofs.lemmas.Bool.Decides.{leb_tells}
use Rattle.std.specs.Prelude.{Option, Result}
use Rattle.std.specs.Io.{StartsWith}
use Rattle.std.specs.Io.KnownBytes.{Consumes, Appends, IsAtEnd}
use Rattle.records.specs.Records.{output}
use Rattle.records.proofs.Booking.{by-the-book}
use Rattle.zone_run.specs.Loop.{fresh_buffer, chunk_size, most_chunks, longest_input, goes_on, Ended, Served, ledger_lines, Faithful}

by_the_ledger : (input : List ℕ) → output input fresh_buffer ≡ ledger_lines input
unfolding fresh_buffer
by_the_ledger input = by-the-book input

-- an answer that is `Ok` comes only where all was written
pub faithful : (before after had has : Option (List ℕ)) (n : ℕ) (buffer : List ℕ) (written done : Bool) → Served before after had has n buffer written
    → (done ≡ true → written ≡ true) → Faithful before after had has done
faithful before after had has n buffer written done s well = record {
  input = s.input;
  taken = s.taken;
  lines = record {
    bytes = s.lines.bytes;
    got = s.lines.got;
    first = subst (λ l. StartsWith l s.lines.bytes) (by_the_ledger s.input) s.lines.first;
    whole = λ d. s.lines.whole (well d) ∙ by_the_ledger s.input;
  };
}

-- the loop stops at a full chunk whose lines were written only where no more chunks can be counted
counted_out : (got full : ℕ) → chunk_size ≤ got → goes_on got true full ≡ false → most_chunks ≤ full
unfolding goes_on
counted_out got full whole stops = grind (arith, le-leb chunk_size got whole, lt-ltb full most_chunks)

-- what was read is the whole input, where it ends in a short chunk
all_read : (input bytes : List ℕ) (after : Option (List ℕ)) → Consumes (Some input) after bytes → IsAtEnd after → input ≡ bytes
all_read input bytes None taken end = absurd taken
all_read input bytes (Some rest) taken end = taken ∙ ap (λ l. bytes ++ l) end ∙ append-nil bytes

read_in : (input bytes : List ℕ) (after : Option (List ℕ)) → Consumes (Some input) after bytes → length bytes ≤ length input
read_in input bytes None taken = absurd taken
read_in input bytes (Some rest) taken = omega (arith, ap length taken, length-append bytes rest)

-- a chunk is short, since an input of full ones is longer
ends_short : (input bytes : List ℕ) (after : Option (List ℕ)) (full got : ℕ) → Consumes (Some input) after bytes → length bytes ≡ full * chunk_size + got
    → goes_on got true full ≡ false → length input ≤ longest_input → got < chunk_size
ends_short input bytes after full got taken size stops short =
    elim (leb_tells chunk_size got) [
      | inl p ↦ absurd (omega (arith, p.1, counted_out got full p.1 stops, read_in input bytes after taken))
      | inr p ↦ p.1
    ]

pub all_written : {A E : Type 0} (before after had has : Option (List ℕ)) (full got : ℕ) (buffer : List ℕ) (written : Result A E)
    → Served before after had has (full * chunk_size + got) buffer (is_ok written) → Ended buffer full got (is_ok written) → (got < chunk_size → IsAtEnd after)
    → OnOk written (IfSome before (λ input. length input ≤ longest_input → Appends had has (ledger_lines input)))
all_written before after had has full got buffer (Err e) s ended end = tt
all_written None after had has full got buffer (Ok x) s ended end = tt
all_written (Some input) after had has full got buffer (Ok x) s ended end = λ short.
    let small = ends_short input s.input after full got s.taken s.size ended.stops short in
    let whole : input ≡ s.input = all_read input s.input after s.taken (end small) in
    subst (Appends had has) (s.lines.whole refl ∙ by_the_ledger s.input ∙ ap ledger_lines (sym whole)) s.lines.got

-- what an `Ok` says
pub ended_well : {A E : Type 0} (read : Result A E) (x : A) (P : Type 0) → read ≡ Ok x → OnOk read P → P
ended_well (Ok y) x P e h = h
ended_well (Err y) x P e h = cc

pub err_is_not_ok : {A E : Type 0} (r : Result A E) (P : Type 0) → IsErr r → is_ok r ≡ true → P
err_is_not_ok (Ok x) P h e = cc
err_is_not_ok (Err x) P h e = cc
