-- The name is the file's, as it is printed.
use Rattle.std.proofs.Common.{Some, ap, inr}
use Rattle.ssim_program.specs.print.Names.{printed_name}
use Rattle.ssim_program.specs.declared.refusal.Refusal.TheVariants as refused
use Rattle.ssim_program.proofs.RefusalTexts.{named_file}
use Rattle.ssim_program.proofs.refusal.Refusal.busy.Goals as goal

pub returns-in-Ok : goal.returns-in-Ok
returns-in-Ok c = inr (named_file (refused.Busy c.in-Ok.name) (printed_name c.args.name.now) (ap Some c.in-Ok.ensures))
