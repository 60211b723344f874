-- The changes from the next one on make of the values what all of them make of the old ones.
use Rattle.std.proofs.Common.{◌≡◌, ℕ, ◌++◌, drop}
use Rattle.std.specs.List.{Contains}
use Rattle.ssim_periods.specs.clauses.Days.{changed_by_each, ends_of}
use Rattle.ssim_periods.proofs.periods.Periods.replace_each.Given as goal

abbrev pub invariant-loop-change : goal.invariant-loop-change
invariant-loop-change g l = record {
  days : changed_by_each g.C.Change.outcome (drop l.change-index l.changes) l.self.days ≡ changed_by_each g.C.Change.outcome l.changes l.fn.self.days;
  cuts : (cut : ℕ) → Contains (ends_of (drop l.change-index l.changes) ++ l.self.cuts) cut → Contains (ends_of l.changes ++ l.fn.self.cuts) cut;
}
