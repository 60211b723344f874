-- The flight exists, and is the one of the list.
use Rattle.std.proofs.Common.{◌≤◌, subst}
use Rattle.std.specs.Prelude.{IsTrue}
use Rattle.ssim_values.specs.Flight.{IsFlight, is_suffix}
use Rattle.ssim_base.proofs.Results.{if_ok}
use Rattle.ssim_desk.proofs.SomeFlights.{is_among_one}
use Rattle.ssim_desk.proofs.flights.schedule_after.Goals as goal

pub returns : goal.returns
returns c =
    let g = c.args.flight.now in
    let exists : IsFlight g = record {
      number_to = subst (λ n. n ≤ 9999) c.number.ensures.value c.number.ensures.bound;
      suffixed = subst (λ s. IsTrue (is_suffix s)) c.suffix.ensures.value c.suffix.ensures.suffix;
    } in
    if_ok c.schedule_of.result (λ schedule shows. shows g exists (is_among_one g)) c.schedule_of.ensures
