-- Each field is that of the leg.
use Rattle.std.proofs.Common.{◌≡◌, ◌∙◌, ◌++◌, ◌∷◌, [], List, ℕ, ap, drop, length, map, take, arith}
use Rattle.std.proofs.lemmas.Result.{on_ok_weaker}
use Rattle.ssim_values.specs.Characters.{two_digits}
use Rattle.ssim_records.specs.Leg.{leg_columns}
use Rattle.ssim_listing.specs.Rows.{row, time_field}
use Rattle.ssim_listing.proofs.leg_row.push_leg_row.Goals as goal

pub returns : goal.returns
returns c =
    let own = c.columns-columns.ensures in
    let head = map (λ f. f.now) c.args.head.now in
    let sequence = c.write_two_digits-sequence.ensures ∙ ap two_digits c.sequence.ensures.value in
    let both = c.text.ensures.value ∙ ap (leg_columns 193 194) own in
    let departs = c.split_at.ensures.front ∙ ap (take 1) both in
    let arrives = c.split_at.ensures.back ∙ ap (drop 1) both in
    let from = c.text-2.ensures.value ∙ ap (leg_columns 37 39) own in
    let passenger_departure = c.time_of-passenger_departure.ensures ∙ ap (time_field 40 43) own in
    let departure = c.time_of-departure.ensures ∙ ap (time_field 44 47) own in
    let departure_variation = c.text-3.ensures.value ∙ ap (leg_columns 48 52) own in
    let to = c.text-4.ensures.value ∙ ap (leg_columns 55 57) own in
    let arrival = c.time_of-arrival.ensures ∙ ap (time_field 58 61) own in
    let passenger_arrival = c.time_of-passenger_arrival.ensures ∙ ap (time_field 62 65) own in
    let arrival_variation = c.text-5.ensures.value ∙ ap (leg_columns 66 70) own in
    let service = c.text-6.ensures.value ∙ ap (leg_columns 14 14) own in
    let aircraft = c.text-7.ensures.value ∙ ap (leg_columns 73 75) own in
    let bookings = c.text-8.ensures.value ∙ ap (leg_columns 76 95) own in
    let configuration = c.text-9.ensures.value ∙ ap (leg_columns 173 192) own in
    let departure_terminal = c.text-10.ensures.value ∙ ap (leg_columns 53 54) own in
    let arrival_terminal = c.text-11.ensures.value ∙ ap (leg_columns 71 72) own in
    on_ok_weaker c.push.result
    (λ added. added ∙ (λ k. c.args.rows.now ++ row (head ++ sequence k ∷ from k ∷ passenger_departure k ∷ departure k ∷ departure_variation k
    ∷ to k ∷ arrival k ∷ passenger_arrival k ∷ arrival_variation k ∷ departs k ∷ arrives k ∷ service k
    ∷ aircraft k ∷ bookings k ∷ configuration k ∷ departure_terminal k ∷ arrival_terminal k ∷ [])))
    c.push.ensures
