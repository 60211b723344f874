-- A period without a common day with the earlier ones is added with its value, unless that is empty.
use Rattle.std.proofs.Common.{◌++◌, [], Some, subst, sym, ap, ◌∙◌}
use Rattle.ssim_periods.specs.Pieces.{held_on}
use Rattle.ssim_periods.specs.internal.Apart.{AreOutcomes}
use Rattle.ssim_periods.specs.internal.Parts.{with_outcome}
use Rattle.ssim_periods.proofs.EachLemmas.{no-outcomes, outcomes-more}
use Rattle.ssim_periods.proofs.apart_periods.first_entries.outcomes_of.Goals as goal

pub loop-change-init : goal.loop-change-init
loop-change-init g c = subst (AreOutcomes g.V.Value.nothing g.C.Change.outcome []) (sym c.in_ok-entries.ensures.items) (no-outcomes g.V.Value.nothing g.C.Change.outcome)

pub loop-change-preserved : goal.loop-change-preserved
loop-change-preserved g c =
    let alike = g.V.Value.alike in let nothing = g.V.Value.nothing in let after = g.C.Change.outcome in
    let x = c.change-item.result in
    outcomes-more alike nothing g.met.V.Value.exact after c.args.changes.now c.loop-change.change-index x c.loop-change.entries.items c.push_outcome.new.added.items
    c.loop-change-test.true c.change-item.is c.loop-change.invariant (λ n h. ap (λ es. held_on es n) (sym c.deref.ensures.value) ∙ c.meets_none.ensures c.if-not-meets_none.false n h)
    (c.in_ok-push_outcome.ensures ∙ ap (λ v. c.loop-change.entries.items ++ with_outcome alike nothing (Some x.0) (after x.1 v)) c.requires)
