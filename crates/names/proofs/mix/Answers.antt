use Rattle.names.proofs.Mixed.{mix-law}
use borrow.Author.Rules.{rules}
use Rattle.names.proofs.mix.Goals as goal

pub returns : goal.returns
returns c = (search mix-law, search rules)
