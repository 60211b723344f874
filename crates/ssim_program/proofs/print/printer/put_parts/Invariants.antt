-- What is put of the parts that are left is put of them all.
use Rattle.std.proofs.Common.{drop, Result}
use Rattle.std.specs.List.{flat_map}
use Rattle.ssim_program.specs.print.Paper.{Paper}
use Rattle.ssim_program.specs.internal.Print.{PrintsPart}
use Rattle.ssim_program.specs.declared.refusal.Refusal.{Refusal}
use Rattle.ssim_program.proofs.print.printer.put_parts.Given as goal

abbrev pub invariant-loop-part : goal.invariant-loop-part
invariant-loop-part g l =
    (after : Paper) (result : Result (Unit {0}) Refusal) → PrintsPart (flat_map (λ part. part.now) (drop l.part-index l.parts)) l.out after result
    → PrintsPart (flat_map (λ part. part.now) l.parts) l.fn.out after result
