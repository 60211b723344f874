-- Without messages no flight differs from the data set, and there is no article of a message.
use Rattle.std.proofs.Common.{◌≡◌, ◌∙◌, List, [], ℕ, ap, refl, sym}
use Rattle.ssim_base.specs.Timetable.{days_of}
use Rattle.ssim_base.proofs.Results.{if_ok}
use Rattle.ssim_schedule.specs.FlightPieces.{divided_flights}
use Rattle.ssim_held.specs.Entries.{Entry}
use Rattle.ssim_desk.specs.Desk.{days_of_desk, finding_lines}
use Rattle.ssim_difference.specs.Differences as differing
use Rattle.ssim_difference.proofs.Listed.{none_differ}
use Rattle.ssim_page.specs.Page.{whole_page}
use Rattle.ssim_program.specs.print.Page.{message_articles}
use Rattle.ssim_program.proofs.command.page.unchanged_page.Goals as goal

pub returns : goal.returns
returns c =
    let desk = c.args.desk in
    let before = days_of desk.base.records in
    let flights_are : c.deref.result.now ≡ divided_flights (days_of_desk desk) =
    c.deref.ensures.value ∙ c.in_ok-flights.ensures in
    let same : days_of_desk desk ≡ before =
    ap (λ (es : List Entry). days_of_desk
    (record { base = desk.base; held = es; applied = desk.applied })) c.requires in
    let none : differing.differences before (days_of_desk desk) ≡ [] =
    ap (differing.differences before) same
    ∙ (none_differ before before).1 (λ flight n is within. refl) in
    let silent : message_articles desk.held (finding_lines desk) ≡ [] =
    ap (λ (es : List Entry). message_articles es (finding_lines desk)) c.requires in
    if_ok c.page_of.result
    (λ page is. is ∙ (λ i. whole_page (c.heading_of.ensures i) (flights_are i) (sym none i)
    (sym silent i)))
    c.page_of.ensures
