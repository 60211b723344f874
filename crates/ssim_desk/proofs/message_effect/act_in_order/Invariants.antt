-- The schedule is the one after the messages so far.
use Rattle.std.proofs.Common.{take}
use Rattle.ssim_desk.specs.Meaning.{Timetable, after_entries}
use Rattle.ssim_desk.specs.internal.Changes.{Shows}
use Rattle.ssim_desk.proofs.message_effect.act_in_order.Given as goal

abbrev pub invariant-loop-held : goal.invariant-loop-held
invariant-loop-held l = (before : Timetable) → Shows l.initial.schedule before → Shows l.schedule (after_entries l.rows (take l.held-index l.messages) before)
