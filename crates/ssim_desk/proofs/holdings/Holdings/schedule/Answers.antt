-- The messages have acted on the timetable of the base.
use Rattle.std.proofs.Common.{subst}
use Rattle.ssim_base.specs.Timetable.{itinerary}
use Rattle.ssim_held.specs.Entries.{DeskSeen}
use Rattle.ssim_desk.specs.Desk.{timetable_of}
use Rattle.ssim_desk.specs.internal.Changes.{Shows}
use Rattle.ssim_desk.proofs.Exports.{left}
use Rattle.ssim_desk.proofs.holdings.Holdings.schedule.Goals as goal

pub returns : goal.returns
returns c =
    let i = c.self.inside in
    let schedule = c.act_in_order.new.schedule in
    subst (λ (d : DeskSeen). Shows schedule (timetable_of d)) c.self.view_is
    (left i.base i.held.items c.rows.result.now c.deref.result.now schedule c.rows.ensures c.deref.ensures.value
    (c.in_ok-act_in_order.ensures (itinerary i.base.records) c.in_ok-schedule.ensures.days))
