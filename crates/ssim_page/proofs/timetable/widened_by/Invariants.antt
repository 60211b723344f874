-- The days after the pieces so far.
use Rattle.std.proofs.Common.{◌≡◌, take}
use Rattle.ssim_page.specs.Timetable.{widened_by}
use Rattle.ssim_page.proofs.timetable.widened_by.Given as goal

abbrev pub invariant-loop-piece : goal.invariant-loop-piece
invariant-loop-piece l = l.days ≡ widened_by l.initial.days (take l.piece-index l.pieces)
