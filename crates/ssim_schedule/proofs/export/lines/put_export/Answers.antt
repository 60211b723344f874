-- Header, carrier, flights and trailer, one after another, and then what the buffer holds.
use Rattle.std.proofs.Common.{◌++◌, [], refl}
use Rattle.std.proofs.lemmas.List.{append-nil}
use Rattle.ssim_records.specs.declared.record.Record.TheVariants.{Trailer}
use Rattle.ssim_base.specs.clauses.Export.{frame_from}
use Rattle.ssim_base.specs.clauses.Sinks.{GrowsUpTo}
use Rattle.ssim_base.proofs.SinkLemmas.{all_fail, from_empty, if_ok, next_breaks, next_put, puts_all}
use Rattle.ssim_schedule.specs.internal.Plan.{alone_bytes, plan_bytes}
use Rattle.ssim_schedule.proofs.Puts.{four_sections}
use Rattle.ssim_schedule.proofs.export.lines.put_export.Given as given
use Rattle.ssim_schedule.proofs.export.lines.put_export.Goals as goal
use Rattle.ssim_schedule.proofs.export.lines.put_export.Goals.{After-put_alone-3}

pub returns-in_err-put_alone-clause-puts : goal.returns-in_err-put_alone-clause-puts
returns-in_err-put_alone-clause-puts g c =
    let split = four_sections c.args.header.now c.args.carrier.now c.args.trailer.now
    c.args.plan.items c.with_serial.ensures refl refl refl refl in
    let before = from_empty _ (g.W.Sink.state c.args.out.now) c.new-block.ensures in
    all_fail _ _ _ c.from_residual.result c.from_residual.ensures.0
    (next_breaks c.new-block.result _ _ split before c.in_err-put_alone.ensures)

pub returns-in_err-put_alone-2-clause-puts : goal.returns-in_err-put_alone-2-clause-puts
returns-in_err-put_alone-2-clause-puts g c =
    let split = four_sections c.args.header.now c.args.carrier.now c.args.trailer.now
    c.args.plan.items c.with_serial.ensures c.with_serial-2.ensures refl refl refl in
    let before = from_empty _ (g.W.Sink.state c.args.out.now) c.new-block.ensures in
    let first = next_put c.new-block.result _ _ split before c.in_ok-put_alone.ensures in
    all_fail _ _ _ c.from_residual-in_err-put_alone-2.result
    c.from_residual-in_err-put_alone-2.ensures.0
    (next_breaks c.put_alone.new.block _ _ refl first c.in_err-put_alone-2.ensures)

pub returns-in_err-next-clause-puts : goal.returns-in_err-next-clause-puts
returns-in_err-next-clause-puts g c =
    let split = four_sections c.args.header.now c.args.carrier.now c.args.trailer.now
    c.args.plan.items c.with_serial.ensures c.with_serial-2.ensures c.airline.ensures
    refl refl in
    let before = from_empty _ (g.W.Sink.state c.args.out.now) c.new-block.ensures in
    let first = next_put c.new-block.result _ _ split before c.in_ok-put_alone.ensures in
    let second = next_put c.put_alone.new.block _ _ refl first c.in_ok-put_alone-2.ensures in
    all_fail _ _ _ c.from_residual-in_err-next.result c.from_residual-in_err-next.ensures.0
    (next_breaks c.put_alone-2.new.block _ _ refl second c.in_err-next.ensures.puts)

-- the trailer is left
body_put : (g : given.Over) (c : After-put_alone-3 g)
    → GrowsUpTo
    (plan_bytes (frame_from c.args.header.now c.args.carrier.now c.args.trailer.now)
    c.args.plan.items)
    (c.put_body.new.block ++ (alone_bytes (Trailer c.with_serials.result) ++ []))
    (g.W.Sink.state c.args.out.now) (g.W.Sink.state c.put_body.new.out)
body_put g c =
    let split = four_sections c.args.header.now c.args.carrier.now c.args.trailer.now
    c.args.plan.items c.with_serial.ensures c.with_serial-2.ensures c.airline.ensures
    c.in_ok-next.ensures.next c.with_serials.ensures in
    let before = from_empty _ (g.W.Sink.state c.args.out.now) c.new-block.ensures in
    let first = next_put c.new-block.result _ _ split before c.in_ok-put_alone.ensures in
    let second = next_put c.put_alone.new.block _ _ refl first c.in_ok-put_alone-2.ensures in
    next_put c.put_alone-2.new.block _ _ refl second c.in_ok-next.ensures.puts

pub returns-in_err-put_alone-3-clause-puts : goal.returns-in_err-put_alone-3-clause-puts
returns-in_err-put_alone-3-clause-puts g c =
    let at = (goal.at.returns-in_err-put_alone-3-clause-puts g c).After-put_alone-3 in
    all_fail _ _ _ c.from_residual-in_err-put_alone-3.result
    c.from_residual-in_err-put_alone-3.ensures.0
    (next_breaks c.put_body.new.block _ _ refl (body_put g at) c.in_err-put_alone-3.ensures)

pub returns-clause-puts : goal.returns-clause-puts
returns-clause-puts g c =
    let at = (goal.at.returns-clause-puts g c).After-put_alone-3 in
    let held = next_put c.put_body.new.block _ _ refl (body_put g at) c.in_ok-put_alone-3.ensures in
    puts_all _ _ _ _ _ c.flush.result (rw append-nil at held) c.flush.ensures.puts

pub returns-clause-writable : goal.returns-clause-writable
returns-clause-writable g c =
    if_ok c.flush.result (λ _. c.in_ok-next.ensures.writable) c.flush.ensures.empty
