use Rattle.block_check.proofs.Leaves.{page-short, page-rule}
use Rattle.block_check.proofs.page_ok.Goals as goal

pub returns-then-n-ge-PAGE_HEADER : goal.returns-then-n-ge-PAGE_HEADER
returns-then-n-ge-PAGE_HEADER c = search page-rule

pub returns-else-n-ge-PAGE_HEADER : goal.returns-else-n-ge-PAGE_HEADER
returns-else-n-ge-PAGE_HEADER c = search page-short
