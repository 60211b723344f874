-- A record is valid, or refuses the section; or the section is refused.
use Rattle.std.proofs.Common.{List, subst, ℕ}
use Rattle.ssim_records.specs.declared.record.Record.{Record}
use Rattle.ssim_base.specs.clauses.Building.{HasBuilt, IsRefusedAt}
use Rattle.ssim_base.specs.declared.fault.BaseFault.{BaseFault}
use Rattle.ssim_parts.proofs.SectionItems.{add-refused, add-to-refused, add-valid}
use Rattle.ssim_parts.proofs.section_builder.SectionBuilder.add.Goals as goal

pub returns-in-Some : goal.returns-in-Some
returns-in-Some c =
    add-to-refused c.args.self.now c.name_airline.new.self c.args.number c.args.record.now
    c.serial-self.result
    c.serial-self.ensures.value c.name_airline.ensures c.in-Some.field-0 c.in-Some.is

pub returns-in-Ok : goal.returns-in-Ok
returns-in-Ok c =
    add-valid c.args.self.now c.name_airline.new.self c.args.number c.args.record.now
    c.serial-self.result
    c.serial-self.ensures.value c.name_airline.ensures c.add.new.self c.in_default.is
    c.in-Ok.ensures.built
    c.in-Ok.ensures.notes c.in-Ok.ensures.previous

pub returns-in-Err-Refused : goal.returns-in-Err-Refused
returns-in-Err-Refused c =
    add-refused c.args.self.now c.name_airline.new.self c.args.number c.args.record.now
    c.serial-self.result
    c.serial-self.ensures.value c.name_airline.ensures c.add.new.self c.in-Err-Refused.number
    c.in-Err-Refused.refusal c.in_default.is
    (subst
    (λ (f : BaseFault). (done : List (ℕ × Record)) → HasBuilt c.name_airline.new.self.builder done
    → IsRefusedAt done (c.args.number, c.args.record.now) f) c.in-Err-Refused.field-0-is
    c.in-Err-Refused.ensures.err)
