-- The desks of the steps are those of the script.
use Rattle.std.proofs.Common.{rules, ◌≡◌, All, sym, subst}
use Rattle.ssim_program.specs.internal.Rehearse.{as_written, IsStepOf}
use Rattle.ssim_program.proofs.Scripted.{loaded_in_range}
use Rattle.ssim_program.proofs.rehearse.texts.load_steps.Goals as goal

pub returns-clause-in_range : goal.returns-clause-in_range
returns-clause-in_range g c =
    let same : c.deref-2.result.now ≡ c.in_ok-read.read.steps.items = search rules in
    loaded_in_range as_written _ c.in_ok-read.read.count c.deref-2.result.now
    c.in_ok-steps.steps.items c.in_ok-steps.ensures.ok
    (subst (λ steps. All (λ step. IsStepOf c.in_ok-read.read.count (as_written step)) steps)
    (sym same) c.in_ok-read.ensures.below)
