-- What comes before the title, the title, and what comes after it.
use Rattle.std.proofs.Common.{codes}
use Rattle.ssim_page.specs.Page.{document_begin, document_title, title}
use Rattle.ssim_page.proofs.Joining.{three_joined}
use Rattle.ssim_page.proofs.page.push_document_title.Goals as goal

pub returns : goal.returns
unfolding document_title
returns c =
    three_joined c.args.page.now.items document_begin (title c.args.heading.now) (codes "</title>\n")
    c.in_ok-extend_from_slice.ensures.items c.in_ok-push_title.ensures
    c.in_ok-extend_from_slice-2.ensures.items
