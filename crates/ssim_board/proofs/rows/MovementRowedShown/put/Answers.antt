-- Each field is that of the movement.
use Rattle.std.proofs.Common.{◌∙◌, ◌++◌, ◌∷◌, [], List, ℕ, ap}
use Rattle.std.proofs.lemmas.Result.{on_ok_weaker}
use Rattle.ssim_values.specs.Characters.{two_digits}
use Rattle.ssim_listing.specs.Rows.{iso_time, row}
use Rattle.ssim_board.proofs.rows.MovementRowedShown.put.Goals as goal

pub returns : goal.returns
returns c =
    let movement = c.args.self.now in
    let station = c.write-station.ensures.value in
    let date = c.iso_date-date.ensures in
    let time = c.iso_time-time.ensures ∙ ap iso_time c.write.ensures in
    let kind = c.kind_text-kind.ensures in
    let name = c.as_slice.ensures.value ∙ c.name_of-name.ensures in
    let origin = c.iso_date-origin.ensures in
    let sequence = c.deref.ensures.value ∙ c.in_ok-push_sequence.ensures
    ∙ ap (λ (bytes : List ℕ). bytes ++ two_digits movement.sequence) c.new-sequence.ensures.items in
    let other_station = c.write-other_station.ensures.value in
    let other_time = c.iso_time-other_time.ensures ∙ ap iso_time c.write-2.ensures in
    let other_days = c.deref-2.ensures.value ∙ c.in_ok-other_days.ensures in
    let warning = c.warning_field-warning.ensures in
    on_ok_weaker c.push.result
    (λ added. added
    ∙ (λ k. c.args.rows.now ++ row (station k ∷ date k ∷ time k ∷ kind k ∷ name k ∷ origin k
    ∷ sequence k ∷ movement.aircraft_type ∷ other_station k ∷ other_time k ∷ other_days k
    ∷ warning k ∷ [])))
    c.push.ensures
