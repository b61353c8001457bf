use Rattle.std.proofs.Common.{of_calls, rules}
use Rattle.calls.specs.Pages.{stamped}
use Rattle.pages.specs.status.Status.{word_before, Reworded}
use Rattle.pages.proofs.status.Laws.{at_low, page_in, use-done, use-no, clock-in, clock-left, at-word}
use Rattle.pages.proofs.status.use_page.Goals as goal

pub reword-requires-clause-place : goal.reword-requires-clause-place
reword-requires-clause-place c = (search (at_low, c.in_ok-page.ensures), search (page_in, c.in_ok-page.ensures))

pub next_clock-clock-requires : goal.next_clock-clock-requires
next_clock-clock-requires c = search (clock-in, c.in_ok-page.ensures)

pub bounds-zone-14 : goal.bounds-zone-14
bounds-zone-14 c = search (clock-left, c.in_ok-page.ensures)

pub overflow_cast-result : goal.overflow_cast-result
overflow_cast-result c = search (at-word, c.in_ok-page.ensures)

pub returns : goal.returns
returns c =
    let e = c.reword.ensures in
    let q : Reworded (stamped c.next_clock-clock.result) (word_before c.args.zone.now c.in_ok-page.page.at) e.0 = search (rules, of_calls) in
    search (use-done, c.in_ok-page.ensures)

pub returns-in_err-page : goal.returns-in_err-page
returns-in_err-page c = search (use-no, c.in_err-page.ensures)
