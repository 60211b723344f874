-- If memory ran out, the line of 90 is printed, and `out` is as it was.
use Rattle.std.proofs.Common.{inl, inr, refl}
use Rattle.ssim_program.specs.declared.refusal.Refusal.TheVariants as refused
use Rattle.ssim_program.proofs.Printers.{nothing}
use Rattle.ssim_program.proofs.program.show.Goals as goal

pub returns-then-is_err-clause-help : goal.returns-then-is_err-clause-help
returns-then-is_err-clause-help g c asked =
    inr (c.refuse.ensures.status, (refused.Memory, inl (refl, nothing c.args.out.now), c.refuse.ensures.printed))
