-- The article of the next message is the first of those that were left.
use Rattle.std.proofs.Common.{◌≡◌, ◌∙◌, ◌+◌, ◌++◌, ◌∷◌, List, ℕ, [], append-nil, append_assoc, drop}
use Rattle.std.proofs.Common.{length, sym, ap}
use Rattle.std.proofs.lemmas.List.{drop_all, drop_more}
use Rattle.ssim_desk.specs.declared.finding_line.FindingLine.{FindingLine}
use Rattle.ssim_held.specs.Entries.{Entry}
use Rattle.ssim_page.specs.Messages.{message_article}
use Rattle.ssim_text.specs.Canonical.{canonical}
use Rattle.ssim_program.specs.print.Page.{message_articles, sub_lines}
use Rattle.ssim_program.proofs.print.message_articles.push_articles.Goals as goal

pub loop-message-preserved : goal.loop-message-preserved
loop-message-preserved c =
    let i = c.loop-message.message-index in let held =
    c.args.held.now in let e = c.message-item.result in
    let left = c.loop-message.left.now in let so_far = c.loop-message.articles.items in
    let rest = drop (i + 1) held in
    let article = message_article e.reference (sub_lines e.dates left) (canonical e.message) in
    let next : drop i held ≡ e ∷ rest =
    drop_more held i e c.loop-message-test.true
    ∙ ap (λ (x : Entry). x ∷ rest) (sym c.message-item.is) in
    let left_is =
    c.after-left.ensures ∙ ap (λ (dates : List _). drop (length dates) left) c.dates.ensures.value
    in
    ap (λ (found : List FindingLine). c.push_article.new.articles.items ++ message_articles rest found)
    left_is
    ∙ (ap (λ (bytes : List ℕ). bytes ++ message_articles rest (drop (length e.dates) left))
    c.in_ok-push_article.ensures
    ∙ (append_assoc so_far article (message_articles rest (drop (length e.dates) left))
    ∙ (ap (λ (es : List Entry). so_far ++ message_articles es left) (sym next)
    ∙ c.loop-message.invariant)))

pub returns : goal.returns
returns c =
    let none : drop c.loop-message.message-index c.args.held.now ≡ [] =
    drop_all c.loop-message.message-index c.args.held.now c.loop-message-test.false in
    sym (append-nil c.loop-message.articles.items)
    ∙ (ap (λ (es : List Entry). c.loop-message.articles.items
    ++ message_articles es c.loop-message.left.now) (sym none) ∙ c.loop-message.invariant)
