use mathlib.Core.Path.{◌≡◌, refl}
use mathlib.Core.List.{[]}
use native.Mathlib.Omega.{arith}
use lib.ListN.{length, get_or}
use Rattle.block_type.specs.Limits.{limits_length}
use Rattle.inspect.proofs.strata.Laws.{lend-not, lend-limits, whole-chunk}
use Rattle.inspect.proofs.strata.Limits.lent.Goals as goal

pub returns-then-within : goal.returns-then-within
returns-then-within c =
    let long : length c.args.bytes.now ≡ limits_length = omega arith in
    let same : get_or c.as_chunks.result.0.now 0 [] ≡ c.args.bytes.now = whole-chunk c.args.bytes.now [] _ _ long c.as_chunks.ensures.front refl in
    search (lend-limits, long, same)

pub returns-else-within : goal.returns-else-within
returns-else-within c =
    let long : length c.args.bytes.now ≡ limits_length = omega arith in
    let same : get_or c.as_chunks.result.0.now 0 [] ≡ c.args.bytes.now = whole-chunk c.args.bytes.now [] _ _ long c.as_chunks.ensures.front refl in
    search (lend-not, long, same)
