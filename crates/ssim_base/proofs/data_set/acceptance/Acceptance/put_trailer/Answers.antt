-- A trailer that ends the data set is allowed.
use Rattle.std.proofs.Common.{rules, refl, ap}
use Rattle.ssim_records.specs.Trailer.{TrailerFields}
use Rattle.ssim_records.specs.declared.record.Record.TheVariants.{Trailer}
use Rattle.ssim_base.specs.declared.data_set.acceptance.Expected.TheVariants as expected
use Rattle.ssim_base.proofs.AcceptanceLemmas.{stood-trailer}
use Rattle.ssim_base.proofs.data_set.acceptance.Acceptance.put_trailer.Goals as goal

pub returns-in-End-clause-accepts : goal.returns-in-End-clause-accepts
returns-in-End-clause-accepts c = λ earlier is.
    let old = c.args.self.now in
    stood-trailer old (record { expected = expected.End; legs = old.legs }) c.args.heading
    c.args.trailer.now (Trailer c.with_serials.result) earlier c.requires is
    (ap (λ (r : TrailerFields). Trailer r) c.with_serials.ensures) refl refl
    (search rules) (search rules)
