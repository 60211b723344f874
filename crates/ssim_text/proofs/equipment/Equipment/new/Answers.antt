-- What is made of parts has them, and is within its bounds.
use Rattle.std.proofs.lemmas.Option.{IfSome_then}
use Rattle.ssim_text.proofs.EquipmentAgain.{made_equipment, no_equipment}
use Rattle.ssim_text.proofs.MadeLines.{equipment_line, none_then}
use Rattle.ssim_text.proofs.equipment.Equipment.new.Goals as goal

pub returns-clause-value : goal.returns-clause-value
returns-clause-value c =
    IfSome_then c.of_parts.result c.of_parts.ensures.some (λ e h.
    (made_equipment c.args.service c.args.aircraft c.args.designators.now c.args.configuration.now e h).same)

pub returns-clause-some : goal.returns-clause-some
returns-clause-some c =
    IfSome_then c.of_parts.result c.of_parts.ensures.some (λ e h. equipment_line e
    (made_equipment c.args.service c.args.aircraft c.args.designators.now c.args.configuration.now e h).bounded)

pub returns-clause-none : goal.returns-clause-none
returns-clause-none c =
    none_then c.of_parts.result _ _ (no_equipment (record {
      service = c.args.service;
      aircraft = c.args.aircraft;
      designators = c.args.designators.now;
      configuration = c.args.configuration.now;
    })) c.of_parts.ensures.none
