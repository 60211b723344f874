-- The pending legs are put, and no leg of the new group has come yet.
use Rattle.std.proofs.Common.{refl}
use Rattle.ssim_schedule.specs.declared.builder.timetable_builder.TimetableBuilder.{TimetableBuilder}
use Rattle.ssim_schedule.proofs.TimetableBuilderLemmas.{opened}
use Rattle.ssim_schedule.proofs.builder.timetable_builder.TimetableBuilder.open_group.Goals as goal

pub returns : goal.returns
returns c =
    let put : TimetableBuilder = c.put_group.new.self in
    let new : TimetableBuilder = record { table = put.table; group = c.begin.new.self; waiting = put.waiting; wanted = put.wanted; alloc = put.alloc } in
    opened c.args.self.now put new (record { flight = c.args.flight; period = c.args.period }) c.args.sequence c.in_ok-put_group.ensures refl refl refl c.begin.ensures
