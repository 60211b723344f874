-- The begin of the article, its lines, and its end.
use Rattle.std.proofs.Common.{codes}
use Rattle.ssim_page.specs.Flight.{article, article_title, flight_lines}
use Rattle.ssim_page.proofs.Joining.{three_joined}
use Rattle.ssim_page.proofs.flight.push_article.Goals as goal

pub returns : goal.returns
unfolding article
returns c =
    three_joined c.args.page.now.items (article_title c.args.name.now) (flight_lines c.args.pieces.now) (codes "</pre></article>\n")
    c.in_ok-push_article_title.ensures c.in_ok-push_lines.ensures
    c.in_ok-extend_from_slice.ensures.items
