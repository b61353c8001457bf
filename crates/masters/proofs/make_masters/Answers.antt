use Rattle.masters.proofs.Writes.{ask-inside, ask-limit, made}
use Rattle.masters.proofs.make_masters.Goals as goal

pub put_chain-requires : goal.put_chain-requires
put_chain-requires c = (search ask-inside, search ask-limit)

pub returns : goal.returns
returns c = search made
