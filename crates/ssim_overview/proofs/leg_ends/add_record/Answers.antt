-- The ends of a leg record.
use Rattle.std.proofs.Common.{map, subst, sym}
use Rattle.std.proofs.lemmas.Result.{on_ok_weaker}
use Rattle.ssim_records.specs.declared.record.Record.{Record}
use Rattle.ssim_overview.specs.internal.StationNotes.{AddsEnds, record_ends}
use Rattle.ssim_overview.proofs.leg_ends.add_record.Goals as goal

pub returns-in-Leg : goal.returns-in-Leg
returns-in-Leg c =
    on_ok_weaker c.add_leg.result (λ adds.
    subst (λ (r : Record). AddsEnds (map (λ list. list.items) c.args.table.now) (record_ends r)
    (map (λ list. list.items) c.args.ends.now.items)
    (map (λ list. list.items) c.add_leg.new.ends.items))
    (sym c.in-Leg.is) adds) c.add_leg.ensures
