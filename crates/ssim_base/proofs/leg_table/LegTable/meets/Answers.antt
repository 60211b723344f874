-- A flight number without a leg record uses no date.
use Rattle.ssim_periods.specs.CommonDays.{have_common_date}
use Rattle.std.proofs.Common.{◌≡◌, ◌≤◌, ◌/◌, ◌%◌, ℕ, false, nat_lt, List, [], length, slice_get, sym, ap, ◌∙◌, arith}
use Rattle.std.proofs.lemmas.Bool.Decides.{nat_tests}
use Rattle.std.proofs.lemmas.Option.{slice_get_past}
use Rattle.std.specs.List.{range_with_len}
use Rattle.ssim_values.specs.Flight.{FlightNumber}
use Rattle.ssim_periods.specs.Calendar.{day_count, holds}
use Rattle.ssim_base.specs.internal.LegTable.{flights_of, legs_at, legs_in, uses_date}
use Rattle.ssim_base.specs.ReadBack.{place_of}
use Rattle.ssim_base.specs.declared.leg_table.leg_sequence.LegSequence.{LegSequence}
use Rattle.ssim_base.proofs.DateLemmas.{any-none}
use Rattle.ssim_base.proofs.leg_table.LegTable.meets.Goals as goal

pub returns-else-number-len-clause-value : goal.returns-else-number-len-clause-value
returns-else-number-len-clause-value c =
    let p = c.args.period.now in
    let name = c.args.name in
    let table = c.args.self.now in
    let numbers = table.numbers.items in
    let past : length numbers ≤ c.indexes-number.result.0 = omega arith in
    let number : c.indexes-number.result.0 ≡ place_of name.flight / 27 = c.indexes-number.ensures.number ∙ ap (λ (f : FlightNumber). place_of f / 27) c.flight.ensures in
    let none : legs_at table (place_of name.flight) ≡ [] =
    ap (λ (n : ℕ). legs_in (flights_of (slice_get numbers n)) (place_of name.flight % 27)) (sym number)
    ∙ ap (λ o. legs_in (flights_of o) (place_of name.flight % 27)) (slice_get_past numbers c.indexes-number.result.0 past) in
    let no : nat_lt c.indexes-number.result.0 c.len.result ≡ false = grind (arith, nat_tests) in
    no ∙ sym (any-none (holds p) (range_with_len 0 day_count)) ∙ ap (λ (es : List LegSequence). have_common_date (holds p) (uses_date es name.sequence)) (sym none)
