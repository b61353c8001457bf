-- Trees that are all zeros have no name.
use Rattle.std.proofs.Common.{◌≡◌, ◌+◌, ◌*◌, ◌<◌, ◌≤◌, ℕ, replicate, arith}
use lib.ListN.{length-replicate}
use Rattle.names.specs.Tree.{branches, node_range, Tree}
use Rattle.names.proofs.Zeros.{zeros}

pub fresh : (l k heads : ℕ) → 0 < heads → heads ≤ node_range → 1 < k → k ≤ node_range → l ≡ heads + k * branches → Tree (replicate l 0) (replicate k 0) heads 1
fresh l k heads h₁ h₂ h₃ h₄ e =
    let n = length-replicate {A = ℕ} k 0 in
    record {
      links = record {
        some = h₁;
        few = h₂;
        two = rw n h₃;
        short = rw n h₄;
        sizes = rw (n, length-replicate {A = ℕ} l 0) e;
        within = λ p. omega (arith, zeros l p, n);
      };
      used = omega arith;
      room = omega (arith, n);
      below = λ p. omega (arith, zeros l p);
      found = λ i a b. let q : ⊥ = omega arith in absurd q;
    }
