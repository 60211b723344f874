-- The flights so far have been converted, and it is known what became of their dates.
use Rattle.std.proofs.Common.{◌≡◌, map, take}
use Rattle.ssim_schedule.specs.clauses.Schedule.{days_in}
use Rattle.ssim_parts.proofs.NewTimetable.{AreConverted, flight_fate, names}
use Rattle.ssim_parts.proofs.converted.convert.Given as goal

abbrev pub invariant-loop-one : goal.invariant-loop-one
invariant-loop-one l = record {
  converted : AreConverted l.rows l.wanted l.old (take l.one-index (names l.one-items)) l.schedule;
  fates : l.fates.items
      ≡ map (flight_fate l.rows l.wanted (days_in l.old)) (take l.one-index l.one-items);
}
