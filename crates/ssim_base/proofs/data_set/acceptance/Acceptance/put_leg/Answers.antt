-- A leg record is allowed if none before it has one of its dates.
use Rattle.std.proofs.Common.{ℕ, refl, ap, ◌∙◌}
use Rattle.ssim_records.specs.Leg.{LegFields}
use Rattle.ssim_records.specs.declared.record.Record.TheVariants.{Leg}
use Rattle.ssim_base.proofs.AcceptanceLemmas.{kept_leg, leg-refused, stood-leg}
use Rattle.ssim_base.proofs.data_set.acceptance.Acceptance.put_leg.Goals as goal

pub returns-then-branch-clause-err : goal.returns-then-branch-clause-err
returns-then-branch-clause-err c = λ earlier is. (
  refl,
  leg-refused c.args.self.now c.args.heading c.args.leg.now c.in_ok-period.period earlier c.requires
      is c.in_ok-period.ensures.ok c.name.ensures c.add.ensures.flight c.in_ok-add.ensures.met
      c.if-branch.true,
)

pub returns-clause-accepts : goal.returns-clause-accepts
returns-clause-accepts c = λ earlier is.
    let old = c.args.self.now in
    let closed =
    ap (λ (l : LegFields). Leg l)
    (c.close.ensures ∙ ap (λ (n : ℕ). kept_leg c.args.leg.now n) c.last.ensures.value) in
    stood-leg old c.args.heading c.args.leg.now c.in_ok-period.period earlier c.requires is
    c.in_ok-period.ensures.ok c.name.ensures c.add.ensures.flight c.in_ok-add.ensures.met
    (record { expected = old.expected; legs = c.add.new.self }) (Leg c.close.new.self)
    c.if-branch.false closed c.requires c.in_ok-add.ensures.ok
