-- A line can spell the leg line exactly if its date variations are within their bounds.
use Rattle.std.proofs.Common.{sym, ◌∙◌}
use Rattle.ssim_text.proofs.MadeLines.{leg_line, leg_variations}
use Rattle.ssim_text.proofs.Runs.{false_true}
use Rattle.ssim_text.proofs.leg.LegLine.new.Goals as goal

pub returns-then-is_bounded-clause-some : goal.returns-then-is_bounded-clause-some
returns-then-is_bounded-clause-some c = leg_line _ (c.is_bounded.ensures.yes c.if-is_bounded.true)

pub returns-else-is_bounded-clause-none : goal.returns-else-is_bounded-clause-none
returns-else-is_bounded-clause-none c = λ is.
    let few = leg_variations _ is in
    false_true (sym c.if-is_bounded.false ∙ c.is_bounded.ensures.only few.0 few.1)
