-- One period more.
use Rattle.std.proofs.Common.{◌∙◌, ◌+◌, ap, arith, max}
use Rattle.ssim_overview.specs.internal.HeldEnds.{first_end}
use Rattle.ssim_overview.proofs.HeldEnds.{latest_more}
use Rattle.ssim_overview.proofs.held_ends.first_ends.Goals as goal

pub loop-saying-preserved : goal.loop-saying-preserved
loop-saying-preserved c =
    let from = c.args.from in let period = c.saying-item.result.0 in
    record {
      len = c.add_period.ensures.len ∙ c.loop-saying.invariant.len;
      each = λ j lt.
          let size = c.loop-saying.invariant.len in
          c.add_period.ensures.each j (omega arith)
          ∙ ap (λ n. max n (first_end from (from + j) period)) (c.loop-saying.invariant.each j lt)
          ∙ latest_more (first_end from (from + j)) c.args.sayings.now c.loop-saying.saying-index
          c.saying-item.result c.loop-saying-test.true c.saying-item.is;
    }
