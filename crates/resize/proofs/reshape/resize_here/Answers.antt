use Rattle.resize.proofs.reshape.Stays.{here-all, here-part}
use Rattle.resize.proofs.reshape.resize_here.Goals as goal

pub returns-then-block-free : goal.returns-then-block-free
returns-then-block-free c = search here-part

pub returns-else-block-free : goal.returns-else-block-free
returns-else-block-free c = search here-all
