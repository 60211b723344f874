-- Both lines, with the mark.
use Rattle.std.proofs.Common.{◌∙◌, ◌++◌, List, ℕ, codes, ap}
use Rattle.std.proofs.lemmas.Result.{on_ok_weaker}
use Rattle.ssim_difference.specs.Lines.{signed_line}
use Rattle.ssim_listing.specs.Marks.{mark_text}
use Rattle.ssim_listing.proofs.Joining.{joined}
use Rattle.ssim_difference.proofs.lines.push_changed.Goals as goal

pub returns : goal.returns
returns c =
    let lines = c.args.lines.now.items in let mark = c.mark_of-mark.result.now in
    let old = c.args.old.now in let new = c.args.new.now in
    on_ok_weaker c.push_signed-2.result
    (λ added.
    joined lines (signed_line (codes "- ") old mark)
    (signed_line (codes "+ ") new mark) c.in_ok-push_signed.ensures added
    ∙ ap (λ (m : List ℕ). lines ++ (signed_line (codes "- ") old m ++ signed_line (codes "+ ") new m))
    (c.mark_of-mark.ensures ∙ ap mark_text c.in_ok-marked.ensures))
    c.push_signed-2.ensures
