-- The equipment, the leg lines and the segment lines are those of the new legs.
use Rattle.std.proofs.Common.{◌≡◌, ◌∙◌, sym, subst}
use Rattle.ssim_text.specs.Grammar.{IsNewLegs}
use Rattle.ssim_text.specs.declared.action.NewLegs.{NewLegs}
use Rattle.ssim_text.proofs.Runs.{none_some, some_same}
use Rattle.ssim_outbox.specs.internal.ColumnLines.{FirstHas, HasEquipment}
use Rattle.ssim_outbox.proofs.ColumnReads.{made_is}
use Rattle.ssim_outbox.proofs.new_lines.new_legs.Goals as goal

pub returns-in_default-equipment_of-clause-found :
    goal.returns-in_default-equipment_of-clause-found
returns-in_default-equipment_of-clause-found c = λ new are have.
    let first = subst (FirstHas new.equipment) c.in-Some.ensures.cases.0 have.equipment in
    absurd (none_some new.equipment (sym c.in_default-equipment_of.is
    ∙ c.equipment_of.ensures.found new.equipment are.equipment
    (subst (HasEquipment new.equipment) (sym c.columns.ensures) first)))

pub returns-clause-found : goal.returns-clause-found
returns-clause-found c = λ new are have.
    let first = subst (FirstHas new.equipment) c.in-Some.ensures.cases.0 have.equipment in
    let equipment = some_same c.in-Some-equipment_of.equipment new.equipment
    (sym c.in-Some-equipment_of.is ∙ c.equipment_of.ensures.found new.equipment are.equipment
    (subst (HasEquipment new.equipment) (sym c.columns.ensures) first)) in
    let legs = c.deref.ensures.value ∙ c.in_ok-lines.ensures.found new.legs have.lines in
    let segments = c.in_ok-segments.ensures.found have.segments have.tails ∙ sym have.in_order in
    let own : NewLegs = record {
      equipment = c.in-Some-equipment_of.equipment;
      legs = c.deref.result.now;
      segments = c.in_ok-segments.segments.items;
    } in
    let same : own ≡ new =
    λ i. record { equipment = equipment i; legs = legs i; segments = segments i } in
    made_is IsNewLegs c.in_ok-new.field-0 own new c.in_ok-new.ensures.value c.in_ok-new.ensures.none
    same are.allowed
