-- A leg record is allowed if none before it has one of its dates.
use Rattle.std.proofs.Common.{refl}
use Rattle.ssim_base.proofs.AcceptanceLemmas.{leg-allowed, leg-refused}
use Rattle.ssim_base.proofs.data_set.acceptance.Acceptance.refuse_overlap.Goals as goal

pub returns-then-meets-clause-err : goal.returns-then-meets-clause-err
returns-then-meets-clause-err c = λ earlier is. (
  refl,
  leg-refused c.args.self.now c.args.heading c.args.leg.now c.in_ok-period.period earlier c.requires
      is c.in_ok-period.ensures.ok c.name.ensures c.meets.ensures.flight c.meets.ensures.value
      c.if-meets.true,
  is,
)

pub returns-clause-ok : goal.returns-clause-ok
returns-clause-ok c = λ earlier is.
    leg-allowed c.args.self.now c.args.heading c.args.leg.now c.in_ok-period.period earlier
    c.requires is c.in_ok-period.ensures.ok c.name.ensures c.meets.ensures.flight
    c.meets.ensures.value c.if-meets.false
