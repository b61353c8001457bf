use Rattle.resize.proofs.reshape.Tidied.{ask-bay, tidy-bay, tidy-short, tidy-master, at_low, at_high}
use Rattle.resize.proofs.reshape.LaidOut.{ask-room, ask-grows, all_done}
use Rattle.resize.proofs.reshape.lay_out.Goals as goal

pub compact_bay-requires : goal.compact_bay-requires
compact_bay-requires c = search ask-bay

pub get4-at-requires : goal.get4-at-requires
get4-at-requires c = search tidy-master

pub place_in_bay-p-requires : goal.place_in_bay-p-requires
place_in_bay-p-requires c = (search at_low, search at_high, search tidy-short)

pub grow_block-requires : goal.grow_block-requires
grow_block-requires c = (search tidy-bay, search ask-room, search ask-grows)

pub returns : goal.returns
returns c = search all_done
