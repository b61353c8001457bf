use Rattle.std.proofs.Common.{◌≡◌, ◌&&◌, ◌*◌, eqb, drop}
use Rattle.memory.specs.Zeros.{all_zero}
use Rattle.memory.proofs.bits.Given as goal

abbrev pub invariant-loop-word : goal.invariant-loop-word
invariant-loop-word l = eqb l.all 0 && all_zero (drop (8 * l.word-index) l.s) ≡ all_zero l.s

abbrev pub invariant-loop-x : goal.invariant-loop-x
invariant-loop-x l = eqb l.all 0 && all_zero (drop l.x-index l.rest) ≡ all_zero l.s
