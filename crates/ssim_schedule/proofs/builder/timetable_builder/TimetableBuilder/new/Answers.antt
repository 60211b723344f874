-- Nothing is in the table, and nothing is pending.
use Rattle.std.proofs.Common.{refl}
use Rattle.ssim_schedule.specs.declared.builder.timetable_builder.TimetableBuilder.{TimetableBuilder}
use Rattle.ssim_schedule.proofs.TimetableBuilderLemmas.{none_built}
use Rattle.ssim_schedule.proofs.builder.timetable_builder.TimetableBuilder.new.Goals as goal

pub returns : goal.returns
returns c =
    let b : TimetableBuilder = record { table = c.in_ok-table.table; group = c.new-group.result; waiting = c.new-waiting.result; wanted = c.args.wanted; alloc = c.args.alloc } in
    none_built c.args.wanted b refl c.new-group.ensures c.in_ok-table.ensures c.new-waiting.ensures
