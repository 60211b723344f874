-- The lines of the flights, and then the last one.
use Rattle.std.proofs.Common.{◌≡◌, ◌∙◌, ◌++◌, Bool, List, ap, ap₂, false, refl, ℕ}
use Rattle.std.specs.List.{flat_map}
use Rattle.ssim_parts.specs.ConversionLines.{flight_dates_with, is_kept, is_left, is_moved}
use Rattle.ssim_parts.specs.ConversionLines.{last_line, left_lines}
use Rattle.ssim_parts.specs.FlightFates.{FlightFate, fates_of}
use Rattle.ssim_parts.specs.declared.fate.Fate.{Fate}
use Rattle.ssim_parts.specs.declared.fate.Fate.TheVariants.{Absent}
use Rattle.ssim_parts.specs.internal.Counted.{all_dates, capped}
use Rattle.ssim_parts.proofs.CountedDates.{fates_counted}
use Rattle.ssim_parts.proofs.left_lines.conversion_lines.Goals as goal

pub returns : goal.returns
returns c rows wanted days are =
    let airline = c.args.airline in
    let counts = c.of_flights-counts.result in
    let dates : (test : Fate → Bool) → test Absent ≡ false
    → capped (all_dates test c.args.fates.now) ≡ flight_dates_with test rows wanted days =
    λ test absent. ap (λ (fates : List FlightFate). capped (all_dates test fates)) are
    ∙ fates_counted test absent rows wanted days in
    c.in_ok-push_last.ensures
    ∙ ap (λ (bs : List ℕ). bs ++ last_line counts.kept counts.moved counts.left)
    (c.in_ok-push_each.ensures
    ∙ ap (λ (bs : List ℕ). bs ++ flat_map (left_lines airline) c.args.fates.now)
    c.new-lines.ensures.items
    ∙ ap (flat_map (left_lines airline)) are)
    ∙ ap (λ (bs : List ℕ). flat_map (left_lines airline)
    (fates_of rows wanted days) ++ bs)
    (ap (λ (n : ℕ). last_line n counts.moved counts.left)
    (c.of_flights-counts.ensures.kept ∙ dates is_kept refl)
    ∙ ap₂ (last_line (flight_dates_with is_kept rows wanted days))
    (c.of_flights-counts.ensures.moved ∙ dates is_moved refl)
    (c.of_flights-counts.ensures.left ∙ dates is_left refl))
