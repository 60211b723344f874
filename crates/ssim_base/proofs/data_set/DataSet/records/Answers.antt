-- Each leg record of a base has its end, and its timetable can be exported.
use Rattle.std.proofs.Common.{List, sym, subst}
use Rattle.std.specs.List.{All}
use Rattle.ssim_records.specs.declared.record.Record.{Record}
use Rattle.ssim_base.specs.clauses.Closed.{IsClosed}
use Rattle.ssim_base.specs.ReadBack.{AreInOrder}
use Rattle.ssim_base.specs.SavedBase.{IsBaseRecords}
use Rattle.ssim_base.specs.Timetable.{days_of}
use Rattle.ssim_base.proofs.FrameLemmas.{closed-records, exportable}
use Rattle.ssim_base.proofs.SavedBases.{base-records}
use Rattle.ssim_base.proofs.data_set.DataSet.records.Goals as goal

pub returns-clause-is_base : goal.returns-clause-is_base
returns-clause-is_base c = subst IsBaseRecords (sym c.deref.ensures.value) (base-records c.self.inside.records.items c.self.invariant.0)

pub returns-clause-closed : goal.returns-clause-closed
returns-clause-closed c = subst (λ (rs : List Record). All IsClosed rs) (sym c.deref.ensures.value) (closed-records c.self.inside.records.items c.self.invariant.0)

pub returns-clause-in_order : goal.returns-clause-in_order
returns-clause-in_order c = subst (λ (rs : List Record). AreInOrder (days_of rs)) (sym c.deref.ensures.value) (exportable c.self.inside.records.items c.self.invariant.0).timetable.rising
