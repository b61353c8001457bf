-- Zeros: what a table or an array has before anything is written.
use Rattle.std.proofs.Common.{◌≡◌, ℕ, Bool, true, false, ltb, replicate, get_or, refl, arith}
use Rattle.std.proofs.lemmas.List.{get_or-replicate, get_or_past}
use borrow.Author.Tests.{ltb-true, ltb-false}
use lib.ListN.{length-replicate}

pub zeros : (n p : ℕ) → get_or {A = ℕ} (replicate n 0) p 0 ≡ 0
zeros n p = go (ltb p n) refl
  where
    go : (t : Bool) → ltb p n ≡ t → get_or {A = ℕ} (replicate n 0) p 0 ≡ 0
    go true e = get_or-replicate n p 0 0 (ltb-true p n e)
    go false e = get_or_past (replicate n 0) p 0 (omega (arith, ltb-false p n e, length-replicate {A = ℕ} n 0))
