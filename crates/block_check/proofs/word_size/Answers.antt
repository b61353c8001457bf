use Rattle.block_check.proofs.Word.{word_size}
use borrow.Author.Rules.{rules}
use Rattle.block_check.proofs.word_size.Goals as goal

pub returns : goal.returns
returns c = (search word_size, search rules)
