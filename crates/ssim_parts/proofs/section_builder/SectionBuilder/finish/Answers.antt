-- A section is refused, or is what its builder has.
use Rattle.std.proofs.Common.{List, ℕ, subst}
use Rattle.ssim_records.specs.declared.record.Record.{Record}
use Rattle.ssim_base.specs.Base.{Done}
use Rattle.ssim_base.specs.clauses.Building.{HasBuilt, IsRefusedAtEnd}
use Rattle.ssim_base.specs.declared.fault.BaseFault.{BaseFault}
use Rattle.ssim_parts.proofs.SectionItems.{refused-at-end, refused-section, whole-section}
use Rattle.ssim_parts.proofs.section_builder.SectionBuilder.finish.Goals as goal

pub returns-in-Some : goal.returns-in-Some
returns-in-Some c before blocks read =
    refused-section before blocks (Done c.args.number) c.args.followed c.args.self c.in-Some.fault read
    c.in-Some.is

pub returns-in-Ok : goal.returns-in-Ok
returns-in-Ok c before blocks read =
    whole-section before blocks c.args.number c.args.followed c.args.self c.in-Ok.data_set
    c.in-Ok.notes.items
    c.code_note.result read c.in_default.is c.in-Ok.ensures.read c.in-Ok.ensures.notes
    c.code_note.ensures

pub returns-in-Err-Refused : goal.returns-in-Err-Refused
returns-in-Err-Refused c before blocks read =
    refused-at-end before blocks c.args.number c.args.followed c.args.self c.in-Err-Refused.number
    c.in-Err-Refused.refusal read c.in_default.is
    (subst (λ (f : BaseFault). (done : List (ℕ × Record)) → HasBuilt c.args.self.builder done
    → IsRefusedAtEnd (Done c.args.number) done f) c.in-Err-Refused.field-0-is
    c.in-Err-Refused.ensures.err)
