-- A byte that is dropped at the end changes nothing, another ends the line.
use Rattle.std.proofs.Common.{sym, ◌∙◌}
use Rattle.ssim_text.proofs.LeftLemmas.{trim_last, trim_none}
use Rattle.ssim_text.proofs.lines.without_end.Goals as goal

pub returns-then-not-is_dropped : goal.returns-then-not-is_dropped
returns-then-not-is_dropped c =
    sym (trim_none c.loop-line.line.now c.in-len1-up.len_at_least (sym c.is_dropped.ensures ∙ c.if-not-is_dropped.true)) ∙ c.loop-line.invariant

pub loop-line-preserved : goal.loop-line-preserved
loop-line-preserved c =
    trim_last c.loop-line.line.now c.in-len1-up.len_at_least (sym c.is_dropped.ensures ∙ c.if-not-is_dropped.false) ∙ c.loop-line.invariant
