-- The dates on one more day. No other day has one.
use Rattle.std.proofs.Common.{◌≡◌, ◌∙◌, ◌+◌, ◌-◌, ◌++◌, ◌∷◌, [], ℕ, ap, ap₂, arith}
use Rattle.std.specs.List.{flat_map, range_with_len}
use Rattle.ssim_listing.specs.Dates.{dates_on}
use Rattle.ssim_listing.specs.internal.FlightDates.{seen_dates}
use Rattle.ssim_listing.proofs.Dating.{piece_dates}
use Rattle.ssim_listing.proofs.Ranges.{added_next}
use Rattle.ssim_listing.proofs.dates.add_dates.Goals as goal

pub loop-number-preserved : goal.loop-number-preserved
loop-number-preserved g c =
    added_next (dates_on (c.args.piece.now ∷ [])) (seen_dates c.args.dates.now.items)
    (seen_dates c.loop-number.dates.items) (seen_dates c.add_date.new.dates.items) c.number-first.result
    c.loop-number.number c.loop-number.auto.number c.loop-number.invariant c.in_ok-add_date.ensures

pub returns : goal.returns
returns g c =
    let piece = c.args.piece.now in let period = c.first.ensures.period in
    let first = c.number-first.ensures.value ∙ c.first.ensures.value in
    let last = c.number-last.ensures.value ∙ c.last.ensures.value in
    let days = λ (a b : ℕ). flat_map (dates_on (piece ∷ [])) (range_with_len a (b - a)) in
    let end : c.loop-number.number ≡ piece.0.last + 1 = omega arith in
    c.loop-number.invariant
    ∙ ap (λ dates. seen_dates c.args.dates.now.items ++ dates)
    (ap₂ days first end ∙ piece_dates piece period.in_calendar)
