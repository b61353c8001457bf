use Rattle.std.proofs.Common.{of_calls, rules}
use Rattle.calls.specs.Pages.{marked}
use Rattle.pages.specs.status.Status.{mark_of, word_before, Reworded}
use Rattle.pages.proofs.status.Laws.{at_low, page_in, mark-done, mark-no}
use Rattle.pages.proofs.status.mark_page.Goals as goal

pub reword-requires-clause-place : goal.reword-requires-clause-place
reword-requires-clause-place c = (search (at_low, c.in_ok-page.ensures), search (page_in, c.in_ok-page.ensures))

pub returns : goal.returns
returns c =
    let e = c.reword.ensures in
    let q : Reworded (marked (mark_of c.args.m)) (word_before c.args.zone.now c.in_ok-page.page.at) e.0 = search (rules, of_calls) in
    search (mark-done, c.in_ok-page.ensures)

pub returns-in_err-page : goal.returns-in_err-page
returns-in_err-page c = search (mark-no, c.in_err-page.ensures)
