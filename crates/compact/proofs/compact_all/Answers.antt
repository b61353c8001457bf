use borrow.Author.Rules.{rules}
use mathlib.Core.Path.{◌≡◌, refl}
use Prim.Native.Nat.{max}
use native.Mathlib.Omega.{arith}
use Rattle.compact.proofs.Loop.{first-within, going_start, going_next, going-turn, going-most, going-bytes}
use Rattle.compact.proofs.compact_all.Goals as goal

pub loop-at-init : goal.loop-at-init
loop-at-init c = (search first-within, refl, search going_start)

pub compact_next-done-requires : goal.compact_next-done-requires
compact_next-done-requires c = search going_next

pub loop-at-preserved : goal.loop-at-preserved
loop-at-preserved c =
    let m : c.max-best.result ≡ max c.loop-at.best c.compact_next-done.result.sum = search rules in
    (search rules, search rules, search going-turn)

pub shape_of-z : goal.shape_of-z
shape_of-z c = omega arith

pub returns : goal.returns
returns c = (search going-most, search going-bytes)
