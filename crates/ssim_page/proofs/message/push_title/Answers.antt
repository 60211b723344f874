-- The mark and the reference, and what comes before, between and after.
use Rattle.std.proofs.Common.{◌∙◌, ◌++◌, ap, codes}
use Rattle.ssim_text.specs.Reference.{printed_reference}
use Rattle.ssim_page.specs.Messages.{mark, message_title}
use Rattle.ssim_page.proofs.Joining.{five_joined}
use Rattle.ssim_page.proofs.message.push_title.Goals as goal

pub returns : goal.returns
unfolding message_title
returns c =
    let reference = c.args.reference.now in
    five_joined c.args.articles.now.items (codes "<article id=\"") (mark reference) (codes "\"><h3>")
    (printed_reference reference) (codes "</h3><ol>\n")
    c.in_ok-extend_from_slice.ensures.items c.in_ok-push_mark.ensures
    c.in_ok-extend_from_slice-2.ensures.items
    (c.in_ok-extend_from_slice-3.ensures.items
    ∙ ap (λ name. c.extend_from_slice-2.new.self.items ++ name)
    (c.deref-2.ensures.value ∙ c.in_ok-name.ensures))
    c.in_ok-extend_from_slice-4.ensures.items
