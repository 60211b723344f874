-- The equipment is that of the first leg, which lines can spell.
use Rattle.std.proofs.Common.{◌≡◌, ◌∙◌, Option, IfSome, [], ◌∷◌, ap, subst, sym}
use Rattle.std.proofs.lemmas.Result.{IfOk-weaker}
use Rattle.ssim_text.specs.Grammar.{IsEquipment}
use Rattle.ssim_text.specs.Values.{EquipmentValue}
use Rattle.ssim_text.specs.declared.action.Action.TheVariants.{Eqt}
use Rattle.ssim_text.proofs.Runs.{none_some, some_same}
use Rattle.ssim_outbox.specs.internal.ColumnLines.{FirstHas, HasEquipment}
use Rattle.ssim_outbox.proofs.SaidActions.{said_if_allowed}
use Rattle.ssim_outbox.proofs.candidates.equipment.Goals as goal

pub only-requires : goal.only-requires
only-requires c =
    said_if_allowed (Eqt c.in-Some-equipment_of.equipment) tt
    (subst (λ (found : Option EquipmentValue). IfSome found IsEquipment) c.in-Some-equipment_of.is
    c.equipment_of.ensures.line)

pub returns-in-None-clause-found : goal.returns-in-None-clause-found
returns-in-None-clause-found c = λ e is has.
    let first = subst (FirstHas e) c.in-Some.ensures.cases.0 has in
    absurd (none_some e (sym c.in-None.is
    ∙ c.equipment_of.ensures.found e is (subst (HasEquipment e) (sym c.columns.ensures) first)))

pub returns-in-Some-equipment_of-clause-found : goal.returns-in-Some-equipment_of-clause-found
returns-in-Some-equipment_of-clause-found c = λ e is has.
    let first = subst (FirstHas e) c.in-Some.ensures.cases.0 has in
    let same = some_same c.in-Some-equipment_of.equipment e (sym c.in-Some-equipment_of.is
    ∙ c.equipment_of.ensures.found e is (subst (HasEquipment e) (sym c.columns.ensures) first)) in
    IfOk-weaker c.only.result (λ actions. actions.items ≡ Eqt c.in-Some-equipment_of.equipment ∷ [])
    (λ actions. actions.items ≡ Eqt e ∷ [])
    (λ actions h. h ∙ ap (λ (x : EquipmentValue). Eqt x ∷ []) same) c.only.ensures.only
