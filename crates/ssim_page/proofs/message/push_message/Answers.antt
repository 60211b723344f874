-- The begin, the lines of the sub-messages, what comes between, the text, and the end.
use Rattle.std.proofs.Common.{codes}
use Rattle.ssim_page.specs.Html.{escaped}
use Rattle.ssim_page.specs.Messages.{message_article, message_title}
use Rattle.ssim_page.proofs.Joining.{five_joined}
use Rattle.ssim_page.proofs.message.push_message.Goals as goal

pub returns : goal.returns
unfolding message_article
returns c =
    five_joined c.args.articles.now.items (message_title c.args.reference.now) c.args.subs.now
    (codes "</ol><pre>\n") (escaped c.args.text.now) (codes "</pre></article>\n")
    c.in_ok-push_title.ensures c.in_ok-extend_from_slice.ensures.items
    c.in_ok-extend_from_slice-2.ensures.items c.in_ok-push_text.ensures
    c.in_ok-extend_from_slice-3.ensures.items
