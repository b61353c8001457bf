use Rattle.access.proofs.locate.Laws.{span-handle, span-pointer, page-name, span-name}
use Rattle.access.proofs.locate.span_of.Goals as goal

pub by_page-requires : goal.by_page-requires
by_page-requires c = search page-name

pub returns-in-Handle : goal.returns-in-Handle
returns-in-Handle c = search span-handle

pub returns-in-Pointer : goal.returns-in-Pointer
returns-in-Pointer c = search span-pointer

pub returns-in-Name : goal.returns-in-Name
returns-in-Name c = search span-name
