-- The line, byte for byte.
use Rattle.std.proofs.Common.{◌++◌, ◌∙◌, ap}
use Rattle.std.proofs.lemmas.Result.{on_ok_weaker}
use Rattle.ssim_page.specs.Html.{escaped}
use Rattle.ssim_page.specs.LegRow.{shown_line}
use Rattle.ssim_page.proofs.leg_row.push_shown_line.Goals as goal

pub returns : goal.returns
unfolding shown_line
returns c =
    on_ok_weaker c.push_escaped.result (λ d. d
    ∙ ap (λ line. c.args.row.now.items ++ escaped line) (c.deref.ensures.value ∙ c.in_ok-line.ensures))
    c.push_escaped.ensures
