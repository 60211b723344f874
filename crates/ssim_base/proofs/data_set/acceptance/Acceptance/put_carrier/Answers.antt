-- After the header alone a carrier is allowed.
use Rattle.std.proofs.Common.{refl, ap}
use Rattle.ssim_records.specs.Carrier.{CarrierFields}
use Rattle.ssim_records.specs.declared.record.Record.TheVariants.{Carrier}
use Rattle.ssim_base.specs.declared.data_set.acceptance.Acceptance.{Acceptance}
use Rattle.ssim_base.specs.declared.data_set.acceptance.CarrierTerms.{CarrierTerms}
use Rattle.ssim_base.specs.declared.data_set.acceptance.Expected.TheVariants as expected
use Rattle.ssim_base.proofs.AcceptanceLemmas.{stood-carrier}
use Rattle.ssim_base.proofs.data_set.acceptance.Acceptance.put_carrier.Goals as goal

pub returns-in-Carrier-clause-accepts : goal.returns-in-Carrier-clause-accepts
returns-in-Carrier-clause-accepts c = λ earlier is.
    let old = c.args.self.now in
    let heading : CarrierTerms = record { airline = c.airline.result; end = c.validity_end.result } in
    let new : Acceptance = record { expected = expected.Legs heading; legs = old.legs } in
    rw c.in-Carrier.is (stood-carrier old new heading
    c.in-Carrier.carrier (Carrier c.with_serial.result) earlier c.requires is
    (ap (λ (r : CarrierFields). Carrier r) c.with_serial.ensures) refl (cc) (cc) refl)
