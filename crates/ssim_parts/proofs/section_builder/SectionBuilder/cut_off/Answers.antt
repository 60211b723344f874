-- A section is refused, or is cut off.
use Rattle.std.specs.Prelude.{false}
use Rattle.ssim_records.specs.declared.fault.RecordFault.TheVariants.{Short}
use Rattle.ssim_base.specs.Base.{Broken}
use Rattle.ssim_parts.proofs.SectionItems.{cut-section, refused-section}
use Rattle.ssim_parts.proofs.section_builder.SectionBuilder.cut_off.Goals as goal

pub returns-in-Some : goal.returns-in-Some
returns-in-Some c before blocks read =
    refused-section before blocks (Broken (Short c.args.number)) false c.args.self c.in-Some.fault read
    c.in-Some.is

pub returns : goal.returns
returns c before blocks read =
    cut-section before blocks false c.args.self (Short c.args.number) read c.in-None.is
