-- One more leg is put, and then its tails.
use Rattle.std.proofs.Common.{◌≡◌, ◌+◌, ◌++◌, ℕ, List, drop, length, refl, ap, subst, ◌∙◌, arith}
use Rattle.std.specs.List.{All}
use Rattle.ssim_records.specs.Leg.{AreLegColumns, exported_leg, written_leg}
use Rattle.ssim_records.specs.Segment.{IsTail}
use Rattle.ssim_base.specs.Export.{line}
use Rattle.ssim_base.specs.ReadBack.{IsWritable}
use Rattle.ssim_base.proofs.Each.{all_done, all_more, item}
use Rattle.ssim_schedule.specs.internal.Plan.{leg_lines, tail_lines}
use Rattle.ssim_schedule.specs.internal.SharedLegs.{legs_count}
use Rattle.ssim_base.proofs.SinkLemmas.{next_fails, next_put}
use Rattle.ssim_schedule.proofs.Puts.{legs-split}
use Rattle.ssim_schedule.proofs.export.lines.put_legs.Given as given
use Rattle.ssim_schedule.proofs.export.lines.put_legs.Goals as goal
use Rattle.ssim_schedule.proofs.export.lines.put_legs.Goals.{After-put_leg}

-- the lines that are left: the leg's, those of its tails, and the others
split : (g : given.Over) (c : After-put_leg g) (tails : List (List ℕ)) (next : ℕ)
    → tails ≡ c.leg-item.result.tails → next ≡ (c.loop-leg.next + 1) + length tails
    → leg_lines c.args.airline c.args.flight c.args.variation c.args.period c.loop-leg.next
    (drop c.loop-leg.leg-index c.args.legs.now)
    ≡ line (written_leg (exported_leg c.new-name.result c.new-dates.result
    c.columns_held-columns.result.now c.loop-leg.next))
    ++ (tail_lines c.new-name.result c.columns_held-columns.result.now (c.loop-leg.next + 1) tails
    ++ leg_lines c.args.airline c.args.flight c.args.variation c.args.period next
    (drop (c.loop-leg.leg-index + 1) c.args.legs.now))
split g c tails next its count =
    legs-split c.args.airline c.args.flight c.args.variation c.loop-leg.next
    (item c.args.legs.now c.loop-leg.leg-index _ c.loop-leg-test.true c.leg-item.is)
    (c.new-name.ensures ∙ c.new.ensures) c.sequence.ensures.value c.new-dates.ensures
    c.columns_held-columns.ensures its count

pub returns-in_err-put_leg-clause-puts : goal.returns-in_err-put_leg-clause-puts
returns-in_err-put_leg-clause-puts g c =
    let at = (goal.at.returns-in_err-put_leg-clause-puts g c).After-put_leg in
    next_fails c.loop-leg.block _ _ (split g at _ _ refl refl) c.loop-leg.invariant.puts
    _ _ c.from_residual.ensures.0 c.in_err-put_leg.ensures.puts

pub returns-in_err-next-clause-puts : goal.returns-in_err-next-clause-puts
returns-in_err-next-clause-puts g c =
    let at = (goal.at.returns-in_err-next-clause-puts g c).After-put_leg in
    let leg_put = next_put c.loop-leg.block _ _ (split g at _ _ c.tails.ensures refl)
    c.loop-leg.invariant.puts c.in_ok-put_leg.ensures.puts in
    next_fails c.put_leg.new.block _ _ refl leg_put _ _ c.from_residual-in_err-next.ensures.0
    c.in_err-next.ensures.puts

pub loop-leg-preserved : goal.loop-leg-preserved
loop-leg-preserved g c =
    let at = (goal.at.loop-leg-preserved g c).After-put_leg in
    let is = item c.args.legs.now c.loop-leg.leg-index _ c.loop-leg-test.true c.leg-item.is in
    let count = c.in_ok-next.ensures.next in
    let leg_put = next_put c.loop-leg.block _ _ (split g at _ _ c.tails.ensures count)
    c.loop-leg.invariant.puts c.in_ok-put_leg.ensures.puts in
    let writable : IsWritable c.leg-item.result = record {
      columns = subst AreLegColumns c.columns_held-columns.ensures c.in_ok-put_leg.ensures.columns;
      tails = subst (λ (ts : List (List ℕ)). All IsTail ts) c.tails.ensures
          c.in_ok-next.ensures.writable;
    } in
    record {
      next = omega (arith, ap legs_count is, ap length c.tails.ensures);
      puts = next_put c.put_leg.new.block _ _ refl leg_put c.in_ok-next.ensures.puts;
      writable = all_more IsWritable c.args.legs.now c.loop-leg.leg-index c.leg-item.result
          c.loop-leg-test.true c.leg-item.is c.loop-leg.invariant.writable writable;
    }

pub returns-clause-writable : goal.returns-clause-writable
returns-clause-writable g c =
    all_done IsWritable c.args.legs.now c.loop-leg.leg-index c.loop-leg-test.false
    c.loop-leg.invariant.writable
