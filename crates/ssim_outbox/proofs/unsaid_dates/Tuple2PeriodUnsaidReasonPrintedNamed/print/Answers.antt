-- The words one after another.
use Rattle.std.proofs.Common.{◌∙◌, ◌++◌, ◌∷◌, [], ℕ, List, ap, codes}
use Rattle.ssim_listing.specs.Lines.{period_text}
use Rattle.ssim_outbox.proofs.JoinedLines.{unsaid_joined}
use Rattle.ssim_outbox.specs.Unsaid.{unsaid_line}
use Rattle.ssim_outbox.proofs.unsaid_dates.Tuple2PeriodUnsaidReasonPrintedNamed.print.Goals as goal

pub returns : goal.returns
returns c =
    let old = c.args.lines.now.items in let piece = c.args.self.now in
    let name = c.args.named.now.name.now in let words = c.words.result.now in
    let dates = name ++ 32 ∷ period_text piece.0 in
    let begun = c.in_ok-push_name.ensures
    ∙ ap (λ (x : List ℕ). x ++ dates) c.in_ok-extend_from_slice.ensures.items in
    let text = c.in_ok-extend_from_slice-2.ensures.items ∙ ap (λ (x : List ℕ). x ++ words) begun in
    c.in_ok-push.ensures.items
    ∙ ap (λ (x : List ℕ). x ++ 10 ∷ []) text
    ∙ unsaid_joined old (codes "unsaid ") name (period_text piece.0) words
    ∙ ap (λ (said : List ℕ). old ++ unsaid_line name (piece.0, said)) c.words.ensures
