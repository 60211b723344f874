-- The base is refused, or the steps are.
use Rattle.std.proofs.Common.{◌≡◌, Err, Option, inl, inr, rules, subst}
use Rattle.ssim_base.specs.BaseSeen.{base_with}
use Rattle.ssim_program.specs.Files.{Files}
use Rattle.ssim_program.specs.rehearse.Rehearsal.{RefusesSteps}
use Rattle.ssim_program.proofs.rehearse.rehearse.Goals as goal

pub returns-in_err-data_set-clause-answer : goal.returns-in_err-data_set-clause-answer
returns-in_err-data_set-clause-answer g c =
    let is : c.from_residual.result ≡ Err c.in_err-data_set.field-0.0 = search rules in
    rw is (inr (inl c.in_err-data_set.ensures.refused))

pub returns-in_err-count-clause-answer : goal.returns-in_err-count-clause-answer
returns-in_err-count-clause-answer g c =
    let why = c.in_err-count.field-0.0 in
    let is : c.from_residual-in_err-count.result ≡ Err why = search rules in
    rw is (inr (inr (
      base_with c.in_ok-data_set.data_set c.in_ok-data_set.stations,
      c.in_ok-data_set.ensures.read,
      subst (λ (files : Option Files). RefusesSteps files c.args.script.now why) c.load_base.ensures.same c.in_err-count.ensures.err,
    )))
