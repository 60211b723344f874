-- The lines, byte for byte.
use Rattle.std.proofs.Common.{◌++◌, ◌∙◌, ap}
use Rattle.std.proofs.lemmas.Result.{on_ok_weaker}
use Rattle.ssim_page.specs.Changes.{change_lines}
use Rattle.ssim_page.specs.Html.{escaped}
use Rattle.ssim_page.proofs.change.push_lines.Goals as goal

pub returns : goal.returns
unfolding change_lines
returns c =
    on_ok_weaker c.push_escaped.result (λ d. d
    ∙ ap (λ lines. c.args.page.now.items ++ escaped lines)
    (c.deref.ensures.value ∙ c.in_ok-lines.ensures)) c.push_escaped.ensures
