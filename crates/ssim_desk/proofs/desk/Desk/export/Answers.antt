-- The schedule of the desk shows its timetable, and the export of that is written.
use Rattle.std.proofs.Common.{subst}
use Rattle.ssim_base.specs.BaseSeen.{BaseSeen}
use Rattle.ssim_base.proofs.Results.{if_fault, on_ok}
use Rattle.ssim_schedule.specs.clauses.ExportResult.{RefusesBase, WritesBase}
use Rattle.ssim_schedule.specs.clauses.Schedule.{days_in}
use Rattle.ssim_held.specs.Entries.{AreEntries}
use Rattle.ssim_desk.specs.clauses.Desk.{ScheduledDesk}
use Rattle.ssim_desk.specs.Desk.{days_of_desk}
use Rattle.ssim_desk.proofs.Exports.{refuses, writes}
use Rattle.ssim_desk.proofs.Meant.{writes_desk}
use Rattle.ssim_desk.proofs.desk.Desk.export.Goals as goal

pub returns-clause-ok : goal.returns-clause-ok
returns-clause-ok g c =
    let t = c.self.inside.holdings in
    let days = days_in c.self.inside.schedules.latest in
    let old = g.W.Sink.state c.args.out.now in
    let new = g.W.Sink.state c.export.new.out in
    on_ok c.export.result
    (λ w. subst (λ (d : ScheduledDesk). WritesBase d.seen.base.records (days_of_desk d.seen) old new)
    c.self.view_is
    (writes days (days_of_desk t) c.self.invariant.latest_is.shows t.base.records old new
    (subst (λ (b : BaseSeen). WritesBase b.records days old new) c.base.ensures w)))
    c.export.ensures.ok

pub returns-clause-err : goal.returns-clause-err
returns-clause-err g c =
    let t = c.self.inside.holdings in
    let days = days_in c.self.inside.schedules.latest in
    let old = c.args.out.now in
    let new = c.export.new.out in
    if_fault c.export.result
    (λ fault r. subst (λ (d : ScheduledDesk). RefusesBase g.W.Sink.state d.seen.base.records
    (days_of_desk d.seen) old new fault) c.self.view_is
    (refuses days (days_of_desk t) c.self.invariant.latest_is.shows t.base.records g.W.Sink.state old
    new fault
    (subst (λ (b : BaseSeen). let records = b.records in
    RefusesBase g.W.Sink.state records days old new fault) c.base.ensures r)))
    c.export.ensures.err

pub returns-clause-exports : goal.returns-clause-exports
returns-clause-exports g c =
    let entries = subst (λ (d : ScheduledDesk). AreEntries d.seen.base.records d.seen.held)
    c.self.view_is c.held.ensures.kept in
    writes_desk g.W.Sink.state c.args.self.now.seen c.args.out.now c.export.new.out c.export.result
    entries (returns-clause-ok g c) (returns-clause-err g c)
