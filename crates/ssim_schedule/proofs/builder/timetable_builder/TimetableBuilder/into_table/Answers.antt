-- The legs that waited are put into the table, and then it has the days of the records.
use Rattle.std.proofs.Common.{refl, ◌∙◌}
use Rattle.ssim_schedule.proofs.builder.timetable_builder.TimetableBuilder.into_table.Goals as goal

pub returns-clause-days : goal.returns-clause-days
returns-clause-days c = λ wanted done built g is. c.in_ok-table.ensures.days g ∙ c.in_ok-put_group.ensures.days g ∙ built.days g is

pub returns-clause-cuts : goal.returns-clause-cuts
returns-clause-cuts c = λ done built g is cut has.
    built.cuts refl g is cut (c.in_ok-put_group.ensures.cuts g cut (c.in_ok-table.ensures.cuts g cut has))
