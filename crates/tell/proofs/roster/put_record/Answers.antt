use Rattle.tell.proofs.roster.Entries.{put_two}
use Rattle.tell.proofs.roster.put_record.Goals as goal

pub returns : goal.returns
returns c = search put_two
