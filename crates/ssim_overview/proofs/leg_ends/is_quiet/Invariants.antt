-- No row so far has a day of the period.
use Rattle.std.proofs.Common.{◌≡◌, drop}
use Rattle.ssim_overview.specs.internal.StationNotes.{is_quiet}
use Rattle.ssim_overview.proofs.leg_ends.is_quiet.Given as goal

abbrev pub invariant-loop-row : goal.invariant-loop-row
invariant-loop-row l =
    is_quiet (drop l.row-index l.rows) l.end.0 l.end.1 ≡ is_quiet l.rows l.end.0 l.end.1
