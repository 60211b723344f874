-- The articles so far, and those of the messages that are left, are the articles of all.
use Rattle.std.proofs.Common.{◌≡◌, ◌++◌, drop}
use Rattle.ssim_program.specs.print.Page.{message_articles}
use Rattle.ssim_program.proofs.print.message_articles.push_articles.Given as goal

abbrev pub invariant-loop-message : goal.invariant-loop-message
invariant-loop-message l =
    l.articles.items ++ message_articles (drop l.message-index l.held) l.left ≡
    l.initial.articles.items ++ message_articles l.held l.findings
