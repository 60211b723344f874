-- The reference, byte for byte.
use Rattle.std.proofs.Common.{◌++◌, ◌∙◌, ap}
use Rattle.std.proofs.lemmas.Result.{on_ok_weaker}
use Rattle.std.specs.List.{flat_map}
use Rattle.ssim_page.specs.Messages.{mark, mark_byte}
use Rattle.ssim_page.proofs.message.push_mark.Goals as goal

pub returns : goal.returns
unfolding mark
returns c =
    on_ok_weaker c.push_each.result
    (λ d. d ∙ ap (λ name. c.args.articles.now.items ++ flat_map mark_byte name) c.requires)
    c.push_each.ensures
