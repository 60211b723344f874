-- The begin of the timetable, the articles, and the end.
use Rattle.std.proofs.Common.{codes}
use Rattle.ssim_page.specs.Timetable.{articles, timetable, timetable_title}
use Rattle.ssim_page.proofs.Joining.{three_joined}
use Rattle.ssim_page.proofs.timetable.push_timetable.Goals as goal

pub returns : goal.returns
unfolding timetable
returns c =
    let flights = c.args.flights.now in
    three_joined c.args.page.now.items (timetable_title flights) (articles c.args.airline flights) (codes "</section>\n")
    c.in_ok-push_timetable_title.ensures c.in_ok-push_articles.ensures
    c.in_ok-extend_from_slice.ensures.items
