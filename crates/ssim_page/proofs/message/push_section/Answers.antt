-- The begin of the section, its articles, and its end.
use Rattle.std.proofs.Common.{codes}
use Rattle.ssim_page.specs.Messages.{message_section}
use Rattle.ssim_page.proofs.Joining.{three_joined}
use Rattle.ssim_page.proofs.message.push_section.Goals as goal

pub returns : goal.returns
unfolding message_section
returns c =
    three_joined c.args.page.now.items (codes "<section id=\"messages\"><h2>Messages</h2>\n")
    c.args.articles.now (codes "</section>\n")
    c.in_ok-extend_from_slice.ensures.items c.in_ok-extend_from_slice-2.ensures.items
    c.in_ok-extend_from_slice-3.ensures.items
