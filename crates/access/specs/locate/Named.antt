-- What the code's name of a block means.
use Rattle.calls.specs.Calls.{Target, by_handle, by_pointer, by_name}
use Rattle.access.specs.declared.locate.Target.{Target as CodeTarget}
use Rattle.access.specs.declared.locate.Target.TheVariants.{Handle, Pointer, Name}

abbrev pub target_of : CodeTarget → Target
target_of (Handle h) = by_handle h
target_of (Pointer p) = by_pointer p
target_of (Name n) = by_name n
