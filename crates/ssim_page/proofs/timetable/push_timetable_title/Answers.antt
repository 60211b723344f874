-- What comes before the days, the days, and what comes after them.
use Rattle.std.proofs.Common.{◌∙◌, ◌++◌, codes, ap}
use Rattle.ssim_page.specs.Timetable.{days_of_all, days_text, timetable_title}
use Rattle.ssim_page.proofs.Joining.{three_joined}
use Rattle.ssim_page.proofs.timetable.push_timetable_title.Goals as goal

pub returns : goal.returns
unfolding timetable_title
returns c =
    three_joined c.args.page.now.items (codes "<section id=\"timetable\"><h2>Timetable") (days_text (days_of_all c.args.flights.now)) (codes "</h2>\n")
    c.in_ok-extend_from_slice.ensures.items
    (c.in_ok-push_days.ensures ∙ ap (λ days. c.extend_from_slice.new.self.items ++ days_text days) c.days_of_all.ensures)
    c.in_ok-extend_from_slice-2.ensures.items
