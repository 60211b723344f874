-- The data sets are of one airline and one time mode, or not.
use Rattle.std.proofs.Common.{◌≡◌, Err, inl, inr, refl, rules}
use Rattle.ssim_program.specs.declared.refusal.Refusal.TheVariants as refused
use Rattle.ssim_program.proofs.command.page.changed_page.Goals as goal

pub returns-in_err-compare : goal.returns-in_err-compare
returns-in_err-compare c before has =
    let fault = c.in_err-compare.field-0.0 in
    let is : c.from_residual.result ≡ Err (refused.Publication fault) = search rules in
    rw is (inr (
      c.args.old.carrier,
      has.has_carrier,
      inr (
        c.carrier_of-carrier.result,
        c.carrier_of-carrier.ensures,
        inl
            (fault, c.in_err-compare.ensures.err, refl),
      ),
    ))
