-- Each value is that of the leg.
use Rattle.std.proofs.Common.{◌∙◌, ◌∷◌, [], None, ap, sym}
use Rattle.std.specs.Fmt.{decimal}
use Rattle.std.specs.Prelude.{unwrap_or}
use Rattle.ssim_sql.specs.LegRows.{clock_or_null, flag}
use Rattle.ssim_sql.proofs.leg_rows.leg_values.Goals as goal

pub returns : goal.returns
returns c =
    let doubtful = c.flag.ensures ∙ ap flag c.is_uncertain.ensures in
    let leaves = c.passenger.ensures
    ∙ (λ i. clock_or_null (unwrap_or (sym c.passenger_departure_time.ensures i) None)) in
    let lands = c.passenger-2.ensures
    ∙ (λ i. clock_or_null (unwrap_or (sym c.passenger_arrival_time.ensures i) None)) in
    λ k. decimal c.args.sequence
    ∷ c.text.ensures k ∷ c.local_clock.ensures k ∷ c.local_day.ensures k
    ∷ c.utc_clock.ensures k ∷ c.utc_day.ensures k
    ∷ leaves k ∷ c.text-2.ensures k
    ∷ c.text-3.ensures k ∷ c.local_clock-2.ensures k ∷ c.local_day-2.ensures k
    ∷ c.utc_clock-2.ensures k ∷ c.utc_day-2.ensures k
    ∷ lands k ∷ c.text-4.ensures k
    ∷ c.text-5.ensures k ∷ c.text-6.ensures k ∷ c.text-7.ensures k ∷ c.text-8.ensures k
    ∷ c.text_in_place.ensures k ∷ c.text_in_place-2.ensures k ∷ doubtful k ∷ []
