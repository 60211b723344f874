-- The messages have acted on the timetable of the data set, and the export stands in its frame.
use Rattle.std.proofs.Common.{◌≡◌, subst}
use Rattle.ssim_base.specs.BaseSeen.{base_with}
use Rattle.ssim_schedule.specs.clauses.ExportResult.{ReadsBackBase, RefusesBase, WritesBase}
use Rattle.ssim_schedule.specs.clauses.Schedule.{days_in}
use Rattle.ssim_base.specs.Timetable.{itinerary}
use Rattle.ssim_base.proofs.Results.{if_fault, on_ok}
use Rattle.ssim_held.specs.Entries.{AreEntries, DeskSeen}
use Rattle.ssim_desk.specs.Desk.{days_of_desk}
use Rattle.ssim_desk.specs.Meaning.{left_by}
use Rattle.ssim_desk.specs.internal.Changes.{Shows}
use Rattle.ssim_desk.proofs.Exports.{desk_with, left, reads_back, refuses, taken_apart, writes}
use Rattle.ssim_desk.proofs.Meant.{writes_desk}
use Rattle.ssim_desk.proofs.holdings.Holdings.export.Given as given
use Rattle.ssim_desk.proofs.holdings.Holdings.export.Goals.{After-export_in}
use Rattle.ssim_desk.proofs.holdings.Holdings.export.Goals as goal

-- the desk is one with the parts of its base
apart : (g : given.Over) (c : After-export_in g)
    → desk_with c.into_parts-data_set.result.0 c.into_parts-data_set.result.1
    c.self.inside.held.items
    ≡ c.args.self
apart g c =
    let parts = c.into_parts-data_set.result in
    taken_apart parts.0 parts.1 c.self.inside.held.items _ c.args.self c.into_parts-data_set.ensures
    c.self.view_is

-- the schedule has the timetable that the messages leave
shown : (g : given.Over) (c : After-export_in g)
    → Shows c.act_in_order.new.schedule
    (left_by (base_with c.into_parts-data_set.result.0 c.into_parts-data_set.result.1)
    c.self.inside.held.items)
shown g c =
    let parts = c.into_parts-data_set.result in
    left (base_with parts.0 parts.1) c.self.inside.held.items c.rows.result.now c.deref.result.now
    c.act_in_order.new.schedule c.rows.ensures c.deref.ensures.value
    (c.in_ok-act_in_order.ensures (itinerary parts.0) c.in_ok-schedule.ensures.days)

pub returns-clause-ok : goal.returns-clause-ok
returns-clause-ok g c =
    let parts = c.into_parts-data_set.result in
    let desk = desk_with parts.0 parts.1 c.self.inside.held.items in
    let at = (goal.at.returns-clause-ok g c).After-export_in in
    let old = g.W.Sink.state c.args.out.now in
    let new = g.W.Sink.state c.export_in.new.out in
    on_ok c.export_in.result
    (λ wrote. subst (λ (d : DeskSeen). WritesBase d.base.records (days_of_desk d) old new)
    (apart g at)
    (writes (days_in c.act_in_order.new.schedule) (days_of_desk desk) (shown g at) parts.0 old new
    (c.in_ok-schedule.frame, c.in_ok-schedule.ensures.frame, wrote)))
    c.export_in.ensures.ok

pub returns-clause-err : goal.returns-clause-err
returns-clause-err g c =
    let parts = c.into_parts-data_set.result in
    let desk = desk_with parts.0 parts.1 c.self.inside.held.items in
    let at = (goal.at.returns-clause-err g c).After-export_in in
    if_fault c.export_in.result
    (λ fault refused. subst (λ (d : DeskSeen). RefusesBase g.W.Sink.state d.base.records
    (days_of_desk d) c.args.out.now c.export_in.new.out fault) (apart g at)
    (refuses (days_in c.act_in_order.new.schedule) (days_of_desk desk) (shown g at) parts.0
    g.W.Sink.state c.args.out.now c.export_in.new.out fault
    (c.in_ok-schedule.frame, c.in_ok-schedule.ensures.frame, refused)))
    c.export_in.ensures.err

pub returns-clause-reads_back : goal.returns-clause-reads_back
returns-clause-reads_back g c =
    let parts = c.into_parts-data_set.result in
    let desk = desk_with parts.0 parts.1 c.self.inside.held.items in
    let at = (goal.at.returns-clause-reads_back g c).After-export_in in
    let old = g.W.Sink.state c.args.out.now in
    let new = g.W.Sink.state c.export_in.new.out in
    on_ok c.export_in.result
    (λ back. subst (λ (d : DeskSeen). ReadsBackBase d.base.records (days_of_desk d) old new)
    (apart g at)
    (reads_back (days_in c.act_in_order.new.schedule) (days_of_desk desk) (shown g at) parts.0 old
    new
    (c.in_ok-schedule.frame, c.in_ok-schedule.ensures.frame, back.0, back.1, back.2)))
    c.export_in.ensures.reads_back

pub returns-clause-exports : goal.returns-clause-exports
returns-clause-exports g c =
    let entries =
    subst (λ (d : DeskSeen). AreEntries d.base.records d.held) c.self.view_is c.self.invariant in
    writes_desk g.W.Sink.state c.args.self c.args.out.now c.export_in.new.out c.export_in.result
    entries (returns-clause-ok g c) (returns-clause-err g c)
