-- A turn of the loop over an input's records.
use mathlib.Core.Path.{◌≡◌, sym, ap, ap₂, ◌∙◌}
use mathlib.Core.List.{List, ◌++◌, append_assoc, append-nil}
use Prim.Native.Nat.{ℕ, ◌+◌, ◌-◌, ◌≤◌, ◌<◌}
use native.Mathlib.Omega.{arith}
use lib.ListN.{length, take, drop, length-append, length-drop}
use lib.Seq.{take_at, length-take-le, drop-drop}
use Rattle.records.specs.Records.{Line, Ran, ran, text, run_record, output, after_input, record_length}
use Rattle.records.specs.Shown.{Run}
use Rattle.records.specs.Putting.{Put, Step}
use Rattle.records.proofs.Printing.{text-most}
use Rattle.records.proofs.Split.{output-none, after_none, output-cons, after-cons}

pub line-room : (l : Line) (at : ℕ) (out : List ℕ) → at + 22 ≤ length out → at + length (text l) ≤ length out
line-room l at out h = omega (arith, text-most l)

pub stepped : (x : Ran) (l : Line) (at r : ℕ) (out zone' out' : List ℕ) → ran l zone' ≡ x → Put (text l) at out out' r → Step x at out zone' out' r
stepped x l at r out zone' out' e p = record {
  zone = ap (λ (y : Ran). y.bytes) e;
  line = rw (← e) p;
  short = omega (arith, p.next, text-most l);
}

-- what is there after a put, up to its end
put_front : (b out out' : List ℕ) (at r : ℕ) → at ≤ length out → Put b at out out' r → take r out' ≡ take at out ++ b
put_front b out out' at r h p =
    ap₂ take p.next p.bytes
    ∙ take_at (take at out ++ b) (drop (at + length b) out) (at + length b) (length-append (take at out) b ∙ ap (◌+ length b) (length-take-le at out h))

module _ (input zone out w zone' out' : List ℕ) (i at r : ℕ) (h : record_length ≤ length input - i) (room : at + (length input - i + (length input - i)) ≤ length out)
    (s : Step (run_record (take (i + record_length - i) (drop i input)) zone) at out zone' out' r) where
  abbrev there : Ran
  there = run_record (take record_length (drop i input)) zone

  step : Step there at out zone' out' r
  step = let e : i + record_length - i ≡ record_length = omega arith in rw e at s

  long : record_length ≤ length (drop i input)
  long = omega (arith, length-drop i input)

  pub prints-step : take at out ++ output (drop i input) zone ≡ w → take r out' ++ output (drop (i + record_length) input) zone' ≡ w
  prints-step p =
      ap₂ (λ (x y : List ℕ). x ++ output y zone') (put_front (text there.shown) out out' at r (omega arith) step.line) (sym (drop-drop record_length i input))
      ∙ ap (λ (z : List ℕ). take at out ++ text there.shown ++ output (drop record_length (drop i input)) z) step.zone
      ∙ append_assoc (take at out) (text there.shown) (output (drop record_length (drop i input)) there.bytes)
      ∙ ap (take at out ++◌) (sym (output-cons (drop i input) zone long))
      ∙ p

  pub leaves-step : after_input (drop i input) zone ≡ w → after_input (drop (i + record_length) input) zone' ≡ w
  leaves-step p =
      ap₂ after_input (sym (drop-drop record_length i input)) step.zone
      ∙ sym (after-cons (drop i input) zone long)
      ∙ p

pub chunk-done : (input zone₀ zone out : List ℕ) (i at : ℕ) → length input - i < record_length → at + (length input - i + (length input - i)) ≤ length out
    → take at out ++ output (drop i input) zone ≡ output input zone₀ → after_input (drop i input) zone ≡ after_input input zone₀ → Run input zone₀ zone out at
chunk-done input zone₀ zone out i at h room p q =
    let e : length (drop i input) < record_length = omega (arith, length-drop i input) in
    record {
      fits = omega arith;
      prints = sym (append-nil (take at out)) ∙ ap (take at out ++◌) (sym (output-none (drop i input) zone e)) ∙ p;
      leaves = sym (after_none (drop i input) zone e) ∙ q;
    }
