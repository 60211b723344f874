-- What comes before the title, the title, and what comes after it.
use Rattle.std.proofs.Common.{codes}
use Rattle.ssim_page.specs.Page.{shown_title, title}
use Rattle.ssim_page.proofs.Joining.{three_joined}
use Rattle.ssim_page.proofs.page.push_shown_title.Goals as goal

pub returns : goal.returns
unfolding shown_title
returns c =
    three_joined c.args.page.now.items (codes "</head>\n<body>\n<header><h1>") (title c.args.heading.now) (codes "</h1>\n")
    c.in_ok-extend_from_slice.ensures.items c.in_ok-push_title.ensures
    c.in_ok-extend_from_slice-2.ensures.items
