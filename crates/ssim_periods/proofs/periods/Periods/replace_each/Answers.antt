-- A change is the first of those that are left. In the end none is left.
use Rattle.std.proofs.Common.{◌++◌, ap, subst, sym, ◌∙◌, arith}
use Rattle.std.specs.List.{Contains}
use Rattle.std.proofs.lemmas.List.Elements.{Contains-append_left}
use Rattle.ssim_periods.specs.clauses.Days.{changed_by_each, ends_of}
use Rattle.ssim_periods.proofs.EachLemmas.{changed-rest, ends-rest}
use Rattle.ssim_periods.proofs.GatherLemmas.{drop-all}
use Rattle.ssim_periods.proofs.periods.Periods.replace_each.Goals as goal

pub returns-then-branch-clause-cuts : goal.returns-then-branch-clause-cuts
returns-then-branch-clause-cuts g c cut has =
    Contains-append_left (ends_of c.args.changes.now) c.args.self.now.cuts cut (c.in_ok-begin.ensures.cuts c.if-branch.true cut has)

pub loop-change-init : goal.loop-change-init
loop-change-init g c =
    let xs = c.args.changes.now in
    let same = c.in_ok-begin.ensures.other c.if-branch.false in
    record {
      days = ap (λ s. changed_by_each g.C.Change.outcome xs s.days) same;
      cuts = λ cut has. subst (λ s. Contains (ends_of xs ++ s.cuts) cut) same has;
    }

pub loop-change-preserved : goal.loop-change-preserved
loop-change-preserved g c =
    let xs = c.args.changes.now in let i = c.loop-change.change-index in let x = c.change-item.result in
    let whole = changed_by_each g.C.Change.outcome xs c.args.self.now.days in
    record {
      days = changed-rest g.C.Change.outcome xs i x c.loop-change.self.days c.extend.new.self.days whole c.loop-change-test.true c.change-item.is c.in_ok-extend.ensures.days c.loop-change.invariant.days;
      cuts = ends-rest xs i x c.loop-change.self.cuts c.extend.new.self.cuts (ends_of xs ++ c.args.self.now.cuts) c.loop-change-test.true c.change-item.is c.in_ok-extend.ensures.cuts c.loop-change.invariant.cuts;
    }

pub returns-clause-days : goal.returns-clause-days
returns-clause-days g c =
    let xs = c.args.changes.now in let i = c.loop-change.change-index in let done = c.loop-change-test.false in
    sym (ap (λ ys. changed_by_each g.C.Change.outcome ys c.loop-change.self.days) (drop-all xs i (omega arith))) ∙ c.loop-change.invariant.days

pub returns-clause-cuts : goal.returns-clause-cuts
returns-clause-cuts g c cut has =
    let xs = c.args.changes.now in let i = c.loop-change.change-index in let done = c.loop-change-test.false in
    c.loop-change.invariant.cuts cut (subst (λ ys. Contains (ends_of ys ++ c.loop-change.self.cuts) cut) (sym (drop-all xs i (omega arith))) has)
