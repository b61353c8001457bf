-- What a structure says of masters whose chain goes upwards are the bytes of that chain.
use mathlib.Core.Path.{◌≡◌, refl, sym, ap₂, ◌∙◌}
use mathlib.Core.Bool.{cond}
use mathlib.Core.List.{List, ◌++◌}
use Prim.Native.Nat.{ℕ, zero, suc, ◌+◌, ◌≤◌}
use native.Mathlib.Omega.{arith}
use lib.Dec.{eqb}
use borrow.Author.Tests.{eq-eqb, ne_eqb}
use Rattle.block_type.specs.Limits.{master_size}
use Rattle.bigendian.specs.BigEndian.{to_be}
use Rattle.format.specs.WellFormed.{offsets}
use Rattle.structure.specs.Structure.{head_of, next_of, words}
use Rattle.calls.specs.State.{handles_from}
use Rattle.masters.specs.chain.Chain.{chain_bytes}

pub head-handles : (h k : ℕ) → head_of (handles_from h k) ≡ cond (eqb k 0) 0 h
head-handles h zero = refl
head-handles h (suc k) = sym (rw (ne_eqb (suc k) 0 (λ e. omega arith)))

-- f is what each master from h on holds
pub words-chain : (f : ℕ → ℕ) (h k : ℕ) → ((g : ℕ) → h ≤ g → f g ≡ next_of g (handles_from h k)) → words f (offsets h k) ≡ chain_bytes h k
unfolding words offsets chain_bytes next_of
words-chain f h zero e = refl
words-chain f h (suc k) e =
    ap₂ (λ (v : ℕ) (r : List ℕ). to_be 4 v ++ r)
    (e h (omega arith) ∙ (rw (eq-eqb h h refl)) ∙ head-handles (h + master_size) k)
    (words-chain f (h + master_size) k (λ g l. e g (omega arith) ∙ (rw (ne_eqb g h (λ x. omega arith)))))
