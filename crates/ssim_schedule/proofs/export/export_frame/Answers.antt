-- The plan is the plan of the schedule's flights, so its export is the export.
use Rattle.std.proofs.Common.{◌≡◌, None, Ok, Err, rules, ap, subst, ◌∙◌, arith}
use Rattle.std.specs.List.{All}
use Rattle.ssim_values.specs.Flight.{IsFlight}
use Rattle.ssim_base.specs.Export.{chapter7}
use Rattle.ssim_base.specs.clauses.Export.{frame_from}
use Rattle.ssim_schedule.specs.internal.Plan.{plan_bytes, plan_of, plan_refusal}
use Rattle.ssim_schedule.specs.internal.Table.{Table, table_days}
use Rattle.ssim_schedule.proofs.Planning.{export_is, fits, refusal_is, refuses}
use Rattle.ssim_schedule.proofs.Writable.{readable}
use Rattle.ssim_schedule.proofs.export.export_frame.Given as given
use Rattle.ssim_schedule.proofs.export.export_frame.Goals as goal
use Rattle.ssim_schedule.proofs.export.export_frame.Goals.{After-measure, After-put_export}

-- the plan is that of the table, whose flights exist
planned : (g : given.Over) (c : After-measure g) → c.in_ok-plan.plan.items ≡ plan_of c.args.table
planned g c = c.in_ok-plan.ensures.plan ∙ ap plan_of c.into_blocks.ensures.value

exist : (g : given.Over) (c : After-measure g) → All (λ f. IsFlight f.flight) c.args.table
exist g c =
    subst (λ (xs : Table). All (λ f. IsFlight f.flight) xs) c.into_blocks.ensures.value
    c.in_ok-plan.ensures.flights

pub returns-in_err-measure-clause-err : goal.returns-in_err-measure-clause-err
returns-in_err-measure-clause-err g c =
    let at = (goal.at.returns-in_err-measure-clause-err g c).After-measure in
    let table = c.args.table in
    let frame = frame_from c.args.header.now c.args.carrier.now c.args.trailer.now in
    let plan = c.deref.result.now in
    let k : c.from_residual-in_err-measure.result ≡ Err c.in_err-measure.field-0.0 = search rules in
    rw k (refuses g.W.Sink.state (chapter7 frame (table_days table))
    c.args.out.now (plan_refusal 2 plan) c.in_err-measure.field-0.0 c.in_err-measure.ensures.err
    (λ r some. refusal_is frame table plan r c.into_blocks.ensures.rising (exist g at)
    (c.deref.ensures.value ∙ planned g at) some))

pub put_export-requires : goal.put_export-requires
put_export-requires g c =
    let all = fits c.in_ok-plan.plan.items (rw (← c.deref.ensures.value) c.in_ok-measure.ensures.ok)
    in
    record { few = all.0; room = omega (arith, all.1) }

-- the export is that of the plan
exported : (g : given.Over) (c : After-put_export g)
    → c.in_ok-plan.plan.items ≡ plan_of c.args.table → All (λ f. IsFlight f.flight) c.args.table
    → (let frame = frame_from c.args.header.now c.args.carrier.now c.args.trailer.now
    in chapter7 frame (table_days c.args.table) ≡ Ok (plan_bytes frame c.in_ok-plan.plan.items))
exported g c is all =
    let plan = c.in_ok-plan.plan.items in
    let frame = frame_from c.args.header.now c.args.carrier.now c.args.trailer.now in
    let none : plan_refusal 2 plan ≡ None =
    rw (← c.deref.ensures.value) c.in_ok-measure.ensures.ok in
    export_is frame c.args.table plan c.into_blocks.ensures.rising all is none

pub returns-in-Ok-clause-ok : goal.returns-in-Ok-clause-ok
returns-in-Ok-clause-ok g c =
    let at = goal.at.returns-in-Ok-clause-ok g c in
    let before = at.After-measure in
    let is = exported g at.After-put_export (planned g before) (exist g before) in
    (_, is, c.in-Ok.ensures.puts)

pub returns-in-Err-clause-err : goal.returns-in-Err-clause-err
returns-in-Err-clause-err g c =
    let at = goal.at.returns-in-Err-clause-err g c in
    let before = at.After-measure in
    let is = exported g at.After-put_export (planned g before) (exist g before) in
    (_, is, c.in-Err.ensures.puts)

pub returns-in-Ok-clause-readable : goal.returns-in-Ok-clause-readable
returns-in-Ok-clause-readable g c =
    readable c.args.table c.in_ok-plan.plan.items
    (planned g (goal.at.returns-in-Ok-clause-readable g c).After-measure) c.in-Ok.ensures.writable
