-- The time mode is another one.
use Rattle.std.proofs.Common.{◌≡◌, rules}
use Rattle.ssim_base.proofs.Results.{if_ok}
use Rattle.ssim_program.proofs.Converting.{other_between}
use Rattle.ssim_program.proofs.command.convert.converted.Goals as goal

pub returns-else-eq-clause-ok : goal.returns-else-eq-clause-ok
returns-else-eq-clause-ok c =
    let differ : c.carrier_of.result.time_mode ≡ c.args.mode → ⊥ = search rules in
    if_ok c.in_other_mode.result (λ made is. (
      c.carrier_of.result,
      c.carrier_of.ensures,
      other_between c.carrier_of.result.time_mode c.args.mode c.args.desk _ differ is,
    ))
    c.in_other_mode.ensures.ok
