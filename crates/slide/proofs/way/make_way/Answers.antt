use native.Mathlib.Omega.{arith}
use lib.ListN.{length-take, length-drop}
use Rattle.slide.proofs.way.Way.{way-rest, behind-four, behind-free, way-done}
use Rattle.slide.proofs.way.make_way.Goals as goal

pub gather-end-requires : goal.gather-end-requires
gather-end-requires c = (omega arith, omega arith, omega arith, omega arith, search way-rest)

pub write_free_all-requires : goal.write_free_all-requires
write_free_all-requires c = (simp (length-take, length-drop) (omega arith), search behind-four, simp (length-take, length-drop) (omega arith), search behind-free)

pub returns : goal.returns
returns c = search way-done
