-- What the sub-messages so far leave, from which those that are left lead to what all of them
-- leave; and the cuts that they add.
use Rattle.std.proofs.Common.{◌≡◌, ℕ, List, ◌++◌, drop}
use Rattle.ssim_schedule.specs.clauses.Schedule.{Flown, cuts_in}
use Rattle.ssim_base.specs.Stations.{Row}
use Rattle.ssim_schedule.specs.declared.finding.Finding.{Finding}
use Rattle.ssim_held.specs.Entries.{Entry}
use Rattle.ssim_desk.specs.internal.Changes.{AddsSubPoints, Shows}
use Rattle.ssim_desk.specs.Meaning.{Timetable, after_subs, subs_findings}
use Rattle.ssim_values.specs.Flight.{FlightNumber, IsFlight}
use Rattle.ssim_desk.proofs.message_effect.act.Given as goal

pub record Left (rows : List Row) (e : Entry) (place : ℕ) (before : Timetable) (now : Flown) (found : List Finding) : Type 0 where
  pub between : Timetable
  pub shows : Shows now between
  pub leads : after_subs rows (drop place e.message.subs) (drop place e.dates) between ≡ after_subs rows e.message.subs e.dates before
  pub finds : found ++ subs_findings rows (drop place e.message.subs) (drop place e.dates) between ≡ subs_findings rows e.message.subs e.dates before

abbrev pub invariant-loop-place : goal.invariant-loop-place
invariant-loop-place l = record {
  left : (before : Timetable) → Shows l.initial.schedule before → Left l.rows l.held l.place before l.schedule l.found.items;
  cuts : (g : FlightNumber) → IsFlight g → AddsSubPoints l.rows l.held.dates g (cuts_in l.initial.schedule g) (cuts_in l.schedule g);
}
