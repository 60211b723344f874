-- The text spells a heading exactly if the word is a reference line.
use Rattle.std.proofs.Common.{sym, ◌∙◌}
use Rattle.ssim_outbox.proofs.Headings.{false_true, plain_cancels, plain_named, plain_no_line, plain_refused}
use Rattle.ssim_outbox.proofs.heading.plain_heading.Goals as goal

pub returns-then-not-is_text_line-clause-err : goal.returns-then-not-is_text_line-clause-err
returns-then-not-is_text_line-clause-err c =
    plain_no_line c.args.carrier.now.time_mode c.args.word.now c.requires
    (λ line. false_true (sym c.if-not-is_text_line.true ∙ c.is_text_line.ensures.only line))

pub returns-clause-named : goal.returns-clause-named
returns-clause-named c =
    plain_named c.args.carrier.now.time_mode c.args.carrier.now.airline c.heading_after.ensures.code
    c.heading_after.result c.new-text.result.items c.args.word.now (c.is_text_line.ensures.yes c.if-not-is_text_line.false)
    c.new-text.ensures.items c.heading_after.ensures.ok

pub returns-clause-subs : goal.returns-clause-subs
returns-clause-subs c =
    plain_cancels c.args.carrier.now.time_mode c.args.carrier.now.airline c.heading_after.ensures.code
    c.heading_after.result c.new-text.result.items c.args.word.now (c.is_text_line.ensures.yes c.if-not-is_text_line.false)
    c.new-text.ensures.items c.heading_after.ensures.ok

pub returns-clause-err : goal.returns-clause-err
returns-clause-err c =
    plain_refused c.args.carrier.now.time_mode c.args.carrier.now.airline c.heading_after.ensures.code
    c.heading_after.result c.new-text.result.items c.args.word.now (c.is_text_line.ensures.yes c.if-not-is_text_line.false)
    c.new-text.ensures.items c.requires c.heading_after.ensures.err
