-- The steps so far, and those that the messages that are left will add, are those of all messages.
use Rattle.std.proofs.Common.{◌≡◌, ◌++◌, drop}
use Rattle.ssim_desk.specs.DateSteps.{entry_steps}
use Rattle.ssim_desk.proofs.date_step.push_messages.Given as goal

abbrev pub invariant-loop-held : goal.invariant-loop-held
invariant-loop-held l =
    (l.date.day ≡ l.initial.date.day)
    × (l.steps.items ++ entry_steps l.rows l.flight l.initial.date.day (drop l.held-index l.messages) l.date.legs
    ≡ l.initial.steps.items ++ entry_steps l.rows l.flight l.initial.date.day l.messages l.initial.date.legs)
