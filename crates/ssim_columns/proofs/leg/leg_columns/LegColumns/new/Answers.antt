-- Stations, then times, then equipment: the columns are valid once all three are written.
use Rattle.std.proofs.Common.{◌∙◌, ap}
use Rattle.ssim_columns.specs.Leg.{AreLegColumns}
use Rattle.ssim_columns.specs.clauses.LegParts.{equipment_fields}
use Rattle.ssim_columns.specs.LegParts.{new_leg, with_equipment, with_times}
use Rattle.ssim_columns.proofs.lemmas.LegChanges.{AreBesideTimes, equipment_stands, stations_stand, times_stand}
use Rattle.ssim_columns.proofs.leg.leg_columns.LegColumns.new.Goals as goal

beside : (c : goal.After-put-2) → AreBesideTimes c.columns-bytes.result
beside c =
    let told = c.columns-bytes.ensures in
    rw told.value (stations_stand c.args.stations.now told.departure told.arrival told.departure_variation told.arrival_variation)

pub invariant_of-result : goal.invariant_of-result
invariant_of-result c =
    let timed : AreLegColumns c.put.new.bytes = times_stand c.args.times.now c.columns-bytes.result c.put.new.bytes c.put.ensures.times (beside c) c.put.array_long c.put.ensures.changes in
    equipment_stands (equipment_fields c.args.equipment.now) c.put.new.bytes c.put-2.new.bytes timed c.put-2.array_long c.put-2.ensures.changes

pub returns : goal.returns
unfolding new_leg
returns c =
    c.put-2.ensures.value
    ∙ ap (with_equipment (equipment_fields c.args.equipment.now)) (c.put.ensures.value ∙ ap (with_times c.args.times.now) c.columns-bytes.ensures.value)
