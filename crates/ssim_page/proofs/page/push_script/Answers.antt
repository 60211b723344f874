-- The two parts of the script.
use Rattle.std.proofs.lemmas.Result.{on_ok_weaker}
use Rattle.ssim_listing.proofs.Joining.{joined}
use Rattle.ssim_page.specs.Page.{timetable_script, view_script}
use Rattle.ssim_page.proofs.page.push_script.Goals as goal

pub returns : goal.returns
returns c =
    on_ok_weaker c.push_view_script.result
    (λ d. joined c.args.page.now.items timetable_script view_script
    c.in_ok-push_timetable_script.ensures d)
    c.push_view_script.ensures
