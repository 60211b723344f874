-- The text spells a heading exactly if what follows the solidus is a reference line.
use Rattle.std.proofs.Common.{ℕ, List, [], ◌∷◌, ◌++◌, ap, sym, ◌∙◌}
use Rattle.ssim_text.proofs.HeadingAgain.{address_complete}
use Rattle.ssim_outbox.proofs.Headings.{false_true, originated_cancels, originated_named}
use Rattle.ssim_outbox.proofs.Headings.{originated_no_address, originated_no_line, originated_refused}
use Rattle.ssim_outbox.proofs.heading.originated_heading.Goals as goal

pub returns-then-not-are_alphanumeric-clause-err : goal.returns-then-not-are_alphanumeric-clause-err
returns-then-not-are_alphanumeric-clause-err c = λ word is.
    originated_no_address c.args.carrier.now.time_mode word c.args.address.now c.args.line.now c.requires is
    (sym c.are_alphanumeric.ensures ∙ c.if-not-are_alphanumeric.true)

pub returns-then-not-is_text_line-clause-err : goal.returns-then-not-is_text_line-clause-err
returns-then-not-is_text_line-clause-err c = λ word is.
    originated_no_line c.args.carrier.now.time_mode word c.args.address.now c.args.line.now c.requires is
    (λ line. false_true (sym c.if-not-is_text_line.true ∙ c.is_text_line.ensures.only line))

pub returns-clause-named : goal.returns-clause-named
returns-clause-named c = λ word is.
    originated_named c.args.carrier.now.time_mode c.args.carrier.now.airline c.heading_after.ensures.code
    c.heading_after.result c.push_originator_line.new.text.items c.args.line.now
    (c.is_text_line.ensures.yes c.if-not-is_text_line.false) c.args.address.now c.requires
    (address_complete c.args.address.now c.requires (sym c.are_alphanumeric.ensures ∙ c.if-not-are_alphanumeric.false))
    (c.in_ok-push_originator_line.ensures ∙ ap (λ (t : List ℕ). t ++ ((46 ∷ c.args.address.now) ++ 10 ∷ [])) c.new-text.ensures.items) word is
    c.heading_after.ensures.ok

pub returns-clause-subs : goal.returns-clause-subs
returns-clause-subs c =
    originated_cancels c.args.carrier.now.time_mode c.args.carrier.now.airline c.heading_after.ensures.code
    c.heading_after.result c.push_originator_line.new.text.items c.args.line.now
    (c.is_text_line.ensures.yes c.if-not-is_text_line.false) c.args.address.now c.requires
    (address_complete c.args.address.now c.requires (sym c.are_alphanumeric.ensures ∙ c.if-not-are_alphanumeric.false))
    (c.in_ok-push_originator_line.ensures ∙ ap (λ (t : List ℕ). t ++ ((46 ∷ c.args.address.now) ++ 10 ∷ [])) c.new-text.ensures.items)
    c.heading_after.ensures.ok

pub returns-clause-err : goal.returns-clause-err
returns-clause-err c = λ word is.
    originated_refused c.args.carrier.now.time_mode c.args.carrier.now.airline c.heading_after.ensures.code
    c.heading_after.result c.push_originator_line.new.text.items c.args.line.now
    (c.is_text_line.ensures.yes c.if-not-is_text_line.false) c.args.address.now c.requires
    (address_complete c.args.address.now c.requires (sym c.are_alphanumeric.ensures ∙ c.if-not-are_alphanumeric.false))
    (c.in_ok-push_originator_line.ensures ∙ ap (λ (t : List ℕ). t ++ ((46 ∷ c.args.address.now) ++ 10 ∷ [])) c.new-text.ensures.items) word is
    c.heading_after.ensures.err
