-- The rows so far, and those of the sub-messages that are left, are those of the message.
use Rattle.std.proofs.Common.{◌≡◌, ◌+◌, ◌++◌, drop}
use Rattle.ssim_program.specs.Messages.{message_rows, sub_rows}
use Rattle.ssim_program.proofs.print.sub_rows.push_subs.Given as goal

abbrev pub invariant-loop-place : goal.invariant-loop-place
invariant-loop-place l =
    l.rows.items ++ sub_rows l.chosen.has_span l.chosen.choice.now l.held.reference (l.place + 1)
    (drop l.place l.held.message.subs) (drop l.place l.held.dates)
    ≡ l.initial.rows.items ++ message_rows l.chosen.has_span l.chosen.choice.now l.held
