-- The action, and the link with the period.
use Rattle.std.proofs.Common.{◌∙◌, ◌++◌, ap, codes}
use Rattle.std.proofs.lemmas.Result.{on_ok_weaker}
use Rattle.ssim_listing.proofs.Joining.{joined}
use Rattle.ssim_text.specs.Lines.{identifier_text}
use Rattle.ssim_values.specs.Designator.{designator_text}
use Rattle.ssim_page.specs.Link.{dated_link}
use Rattle.ssim_page.specs.Messages.{sub_begin}
use Rattle.ssim_page.proofs.message.push_sub_begin.Goals as goal

pub returns : goal.returns
unfolding sub_begin
returns c =
    let begin = codes "<li>" ++ identifier_text c.args.action ++ codes " " in
    on_ok_weaker c.push_dated_link.result
    (λ d. joined c.args.lines.now.items begin
    (dated_link (designator_text c.args.designator) c.args.period) c.in_ok-push_action.ensures
    (d ∙ ap (λ name. c.push_action.new.lines.items ++ dated_link name c.args.period)
    (c.as_slice.ensures.value ∙ c.write.ensures.value)))
    c.push_dated_link.ensures
