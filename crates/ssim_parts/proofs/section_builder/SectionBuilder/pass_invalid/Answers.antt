-- The block refuses the section, unless it is refused already.
use Rattle.ssim_parts.proofs.SectionItems.{pass-again, pass-first}
use Rattle.ssim_parts.proofs.section_builder.SectionBuilder.pass_invalid.Goals as goal

pub returns-in-None : goal.returns-in-None
returns-in-None c = pass-first c.args.self.now c.args.number c.args.fault c.in-None.is

pub returns-in_default : goal.returns-in_default
returns-in_default c =
    pass-again c.args.self.now c.args.number c.args.fault c.in_default.field-0 c.in_default.is
