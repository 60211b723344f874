-- The nine parts of the page, one after another.
use Rattle.std.proofs.Common.{◌++◌, ◌∙◌, ap}
use Rattle.ssim_page.specs.Changes.{changes}
use Rattle.ssim_page.specs.Messages.{messages}
use Rattle.ssim_page.specs.Page.{bar, document_end, document_title, look, script, shown_title, whole_page}
use Rattle.ssim_page.specs.Timetable.{timetable}
use Rattle.ssim_page.proofs.Joining.{nine_joined}
use Rattle.ssim_page.proofs.page.page_of.Goals as goal

pub returns : goal.returns
unfolding whole_page
returns c =
    let heading = c.args.heading.now in
    nine_joined (document_title heading) look (shown_title heading) bar
    (timetable heading.airline c.args.flights.now) (changes heading.airline c.args.changes.now)
    (messages c.args.messages.now) script document_end
    (c.in_ok-push_document_title.ensures
    ∙ ap (λ start. start ++ document_title heading) c.new-page.ensures.items)
    c.in_ok-push_look.ensures c.in_ok-push_shown_title.ensures c.in_ok-push_bar.ensures
    c.in_ok-push_timetable.ensures
    c.in_ok-push_changes.ensures c.in_ok-push_messages.ensures c.in_ok-push_script.ensures
    c.in_ok-push_end.ensures
