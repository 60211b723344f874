-- One saying more is within the span, which has its period, too.
use Rattle.std.proofs.Common.{ℕ, ◌≤◌, ◌<◌, ◌+◌, ◌∙◌, List, take, subst, refl, arith}
use Rattle.std.proofs.lemmas.List.{take_all}
use Rattle.ssim_overview.specs.internal.SaidRows.{Dated}
use Rattle.ssim_overview.proofs.SaidSpan.{SaidWithin, within_more}
use Rattle.ssim_overview.proofs.station_rows.span.Goals as goal
use Rattle.ssim_overview.proofs.station_rows.span.Goals.{then-end-last, else-end-last}

pub loop-saying-init : goal.loop-saying-init
loop-saying-init c = record { others = λ n off. refl; within = omega arith }

pub loop-saying-preserved : goal.loop-saying-preserved
loop-saying-preserved c =
    let all = c.args.sayings.now in
    let i = c.loop-saying.saying-index in
    let x = c.saying-item.result in
    let from = c.loop-saying.from in
    let end = c.loop-saying.end in
    let begins = c.number.ensures.value ∙ c.first.ensures.value in
    let less : c.min-from.result ≤ from = omega (arith, c.min-from.ensures) in
    let first : c.min-from.result ≤ x.0.first = omega (arith, c.min-from.ensures, begins) in
    let more : (new : ℕ) → end ≤ new → x.0.last < new
    → SaidWithin (take (i + 1) all) c.min-from.result new =
    λ new up over. within_more all i x from end c.min-from.result new c.loop-saying-test.true
    c.saying-item.is c.loop-saying.invariant.others less first up over in
    let ends = c.number-last.ensures.value ∙ c.last.ensures.value in
    let bound = c.number-last.ensures.bound in
    elim c.if-end-last.branch [
      | then-end-last w ↦ record {
        others = more c.if-end-last.end (omega (arith, w.end-is, w.if-end-last.true))
            (omega (arith, w.end-is, ends));
        within = omega (arith, w.end-is, bound);
      }
      | else-end-last w ↦ record {
        others = more c.if-end-last.end (omega (arith, w.end-is))
            (omega (arith, w.end-is, w.if-end-last.false, ends));
        within = omega (arith, w.end-is, c.loop-saying.invariant.within);
      }
    ]

pub returns : goal.returns
returns c = record {
  others = subst (λ (some : List Dated). SaidWithin some c.loop-saying.from c.loop-saying.end)
      (take_all c.loop-saying.saying-index c.args.sayings.now c.loop-saying-test.false)
      c.loop-saying.invariant.others;
  within = c.loop-saying.invariant.within;
}
