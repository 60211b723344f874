-- The flights that differ, and the number of their dates.
use Rattle.std.proofs.Common.{◌∙◌, ◌++◌, ℕ, List, ap₂}
use Rattle.ssim_base.proofs.Results.{on_ok}
use Rattle.ssim_difference.specs.Differences.{Compared}
use Rattle.ssim_difference.specs.Lines.{last_line}
use Rattle.ssim_program.proofs.effects.push_last.Goals as goal

pub returns : goal.returns
returns c = λ before after old new.
    let found = c.in_ok-flights.ensures before after old new in
    let dates = c.in_ok-dates.ensures before after (c.deref.ensures.value ∙ found) in
    on_ok c.push_count.result
    (λ is. is ∙ ap₂ (λ (fs : List Compared) (n : ℕ). c.args.lines.now.items ++ last_line fs n) (c.deref-2.ensures.value ∙ found) dates)
    c.push_count.ensures
