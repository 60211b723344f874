-- The flights' lines, and then the fill.
use Rattle.std.proofs.Common.{◌≡◌, ◌-◌, ◌++◌, Result, Ok, replicate, refl, arith}
use Rattle.std.specs.List.{flat_map}
use Rattle.ssim_records.specs.Frames.{fill}
use Rattle.ssim_base.specs.Export.{line, numbered, section_bytes}
use Rattle.ssim_base.specs.clauses.Sinks.{GrowsUpTo}
use Rattle.ssim_base.proofs.SinkLemmas.{fails, next_fails, next_put, none_put, puts_then}
use Rattle.ssim_schedule.specs.internal.Plan.{plan_count, plan_records}
use Rattle.ssim_schedule.proofs.Puts.{body-split}
use Rattle.ssim_schedule.proofs.export.lines.put_body.Given as given
use Rattle.ssim_schedule.proofs.export.lines.put_body.Goals as goal
use Rattle.ssim_schedule.proofs.export.lines.put_body.Goals.{After-put_fill}

pub returns-in_err-next-clause-puts : goal.returns-in_err-next-clause-puts
returns-in_err-next-clause-puts g c =
    next_fails c.args.block.now _ _ (body-split c.args.airline c.args.plan.items refl)
    (none_put _ _) _ _ c.from_residual.ensures.0 c.in_err-next.ensures.puts

-- the flights' lines are put, and the fill is left
flights_put : (g : given.Over) (c : After-put_fill g)
    → GrowsUpTo
    (c.args.block.now ++ section_bytes (numbered 3 (plan_records c.args.airline c.args.plan.items)))
    (c.put_flights.new.block ++ flat_map line (replicate c.fill_count.result fill))
    (g.W.Sink.state c.args.out.now) (g.W.Sink.state c.put_flights.new.out)
flights_put g c =
    let count : c.in_ok-next.next - 3 ≡ plan_count c.args.plan.items =
    omega (arith, c.in_ok-next.ensures.next) in
    rw c.fill_count.ensures
    (next_put c.args.block.now _ _ (body-split c.args.airline c.args.plan.items count)
    (none_put _ _) c.in_ok-next.ensures.puts)

pub returns-in_err-put_fill-clause-puts : goal.returns-in_err-put_fill-clause-puts
returns-in_err-put_fill-clause-puts g c =
    puts_then _ _ c.put_fill.new.block _ _ _ c.from_residual-in_err-put_fill.result
    (flights_put g (goal.at.returns-in_err-put_fill-clause-puts g c).After-put_fill)
    (fails _ _ _ _ _ c.from_residual-in_err-put_fill.ensures.0 c.in_err-put_fill.ensures)

pub returns-clause-puts : goal.returns-clause-puts
returns-clause-puts g c =
    let done : Result (Unit {0}) (Unit {0}) = Ok tt in
    puts_then _ _ _ _ _ _ done (flights_put g (goal.at.returns-clause-puts g c).After-put_fill)
    c.in_ok-put_fill.ensures
