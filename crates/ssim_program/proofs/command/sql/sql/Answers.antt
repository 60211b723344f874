-- The file's kind and its desk, its carrier record, and the script of these.
use Rattle.std.proofs.Common.{◌∙◌, Bool, ap}
use Rattle.ssim_sql.specs.Script.{script_of}
use Rattle.ssim_program.proofs.command.sql.sql.Goals as goal

pub returns-clause-answer : goal.returns-clause-answer
returns-clause-answer g c =
    let desk = c.in_ok-kind.desk in
    let carrier = c.carrier_of-carrier.result in (
      (c.in_ok-kind.kind, desk),
      c.in_ok-kind.ensures.answer,
      (
        carrier,
        c.carrier_of-carrier.ensures,
        c.in_ok-script.ensures ∙ ap (λ (b : Bool). script_of carrier b desk) c.is_desk.ensures,
      ),
    )
