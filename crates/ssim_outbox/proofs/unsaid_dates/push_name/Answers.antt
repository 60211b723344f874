-- The line of the name and the period, without its end.
use Rattle.std.proofs.Common.{◌≡◌, ◌∙◌, ◌-◌, ◌++◌, ◌∷◌, [], List, ℕ, length, take, sym, ap, append_assoc}
use Rattle.ssim_listing.specs.Lines.{period_text}
use Rattle.ssim_outbox.proofs.JoinedLines.{without_last}
use Rattle.ssim_outbox.proofs.unsaid_dates.push_name.Goals as goal

pub returns : goal.returns
returns c =
    let old = c.args.lines.now.items in
    let text = c.args.name.now ++ 32 ∷ period_text c.args.period in
    let lines = c.push_period.new.lines in
    let whole : lines.items ≡ (old ++ text) ++ 10 ∷ [] =
    c.in_ok-push_period.ensures ∙ sym (append_assoc old text (10 ∷ [])) in
    let count = lines.ok in
    c.pop.ensures.rest
    ∙ ap (λ (bytes : List ℕ). take (lines.len - 1) bytes) whole
    ∙ without_last (old ++ text) lines.len (count.0 ∙ ap length whole)
