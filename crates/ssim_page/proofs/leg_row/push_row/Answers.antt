-- The line, and the words.
use Rattle.std.proofs.Common.{◌++◌, ◌∙◌, ap}
use Rattle.std.proofs.lemmas.Result.{on_ok_weaker}
use Rattle.ssim_listing.proofs.Joining.{joined}
use Rattle.ssim_page.specs.LegRow.{leg_row, shown_line, words}
use Rattle.ssim_page.proofs.leg_row.push_row.Goals as goal

pub returns : goal.returns
unfolding leg_row
returns c =
    let leg = c.args.leg.now in
    on_ok_weaker c.push_words.result
    (λ d. joined c.args.lines.now.items (shown_line leg) (words leg.columns)
    c.in_ok-push_shown_line.ensures
    (d ∙ ap (λ columns. c.push_shown_line.new.row.items ++ words columns) c.columns.ensures))
    c.push_words.ensures
