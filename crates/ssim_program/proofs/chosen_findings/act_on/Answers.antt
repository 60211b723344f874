-- A period without chosen dates finds nothing.
use Rattle.std.proofs.Common.{sym}
use Rattle.ssim_periods.specs.Days.{each_day}
use Rattle.ssim_program.specs.internal.Spans.{part_of}
use Rattle.ssim_program.proofs.SpanParts.{finding_none}
use Rattle.ssim_program.proofs.chosen_findings.act_on.Goals as goal

pub returns-in-None-clause-found : goal.returns-in-None-clause-found
returns-in-None-clause-found c = λ before shows.
    sym (finding_none c.args.rows.now c.args.sub.now.action
    (part_of c.args.choice.now c.args.dated.now.period)
    (each_day (before c.args.dated.now.flight)) c.in-None.ensures.none)
