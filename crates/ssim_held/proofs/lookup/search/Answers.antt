use Rattle.std.proofs.Common.{arith}
use Rattle.ssim_held.proofs.Searching.{no_more}
use Rattle.ssim_held.proofs.lookup.search.Goals as goal

pub loop-low-init : goal.loop-low-init
loop-low-init c = record {
  order = omega arith;
  within = omega arith;
  before = λ j lt. absurd (omega (arith, lt));
  after = λ j le. no_more c.args.held.now j _ le;
}

pub returns-clause-absent : goal.returns-clause-absent
returns-clause-absent c =
    let n = c.loop-low.invariant in
    record {
      order = omega arith;
      within = omega (arith, n.order, n.within);
      before = n.before;
      after = λ j le. n.after j (omega (arith, le, n.order, c.loop-low-test.false));
    }
