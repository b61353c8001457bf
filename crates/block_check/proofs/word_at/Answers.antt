use Rattle.block_check.proofs.Word.{word-law, word_end}
use borrow.Author.Rules.{rules}
use native.Mathlib.Omega.{arith}
use Rattle.block_check.proofs.word_at.Goals as goal

pub get4-requires : goal.get4-requires
get4-requires c = omega arith

pub returns-then-at-z : goal.returns-then-at-z
returns-then-at-z c = (search rules, λ _. search word-law)

pub returns-else-at-z : goal.returns-else-at-z
returns-else-at-z c = (search word_end, search rules)
