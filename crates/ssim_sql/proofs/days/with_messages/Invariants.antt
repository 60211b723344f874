-- The days after the values so far.
use Rattle.std.proofs.Common.{◌≡◌, take}
use Rattle.ssim_sql.specs.DayRows.{with_messages}
use Rattle.ssim_sql.proofs.days.with_messages.Given as goal

abbrev pub invariant-loop-message : goal.invariant-loop-message
invariant-loop-message l = l.days ≡ with_messages l.initial.days (take l.message-index l.held)
