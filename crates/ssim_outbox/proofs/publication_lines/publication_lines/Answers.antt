-- The lines of the messages, then those of what is unsaid, then the last one.
use Rattle.std.proofs.Common.{◌∙◌, ◌++◌, List, ℕ, ap, append_assoc, length}
use Rattle.ssim_difference.specs.Differences.{date_count}
use Rattle.ssim_outbox.specs.Publication.{last_line, text_lines}
use Rattle.ssim_outbox.specs.Unsaid.{unsaid_lines}
use Rattle.ssim_outbox.proofs.publication_lines.publication_lines.Goals as goal

pub returns : goal.returns
returns c = λ after new is.
    let texts = text_lines c.args.reference.now c.args.messages.now in
    let unsaid = unsaid_lines c.args.airline c.args.rows.now after new in
    let count = length c.args.messages.now in
    let last = last_line count c.args.subs (date_count after new) in
    c.in_ok-push_last.ensures
    ∙ ap (λ (n : ℕ). c.extend_from_slice.new.self.items ++ last_line count c.args.subs n)
    (c.in_ok-dates.ensures after new is)
    ∙ ap (λ (bs : List ℕ). bs ++ last)
    (c.in_ok-extend_from_slice.ensures.items
    ∙ ap (λ (bs : List ℕ). bs ++ c.deref.result.now)
    (c.in_ok-push_each.ensures ∙ ap (λ (bs : List ℕ). bs ++ texts) c.new-lines.ensures.items)
    ∙ ap (λ (bs : List ℕ). texts ++ bs)
    (c.deref.ensures.value ∙ c.in_ok-unsaid_text.ensures after new is))
    ∙ append_assoc texts unsaid last
