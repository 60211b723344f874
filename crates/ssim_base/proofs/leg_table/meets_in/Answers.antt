-- A flight without a leg record uses no date.
use Rattle.ssim_periods.specs.CommonDays.{have_common_date}
use Rattle.std.proofs.Common.{◌≡◌, ◌≤◌, false, nat_lt, List, [], length, sym, ap, ◌∙◌, arith}
use Rattle.std.proofs.lemmas.Bool.Decides.{nat_tests}
use Rattle.std.proofs.lemmas.Option.{slice_get_past}
use Rattle.std.specs.List.{range_with_len}
use Rattle.ssim_periods.specs.Calendar.{day_count, holds}
use Rattle.ssim_base.specs.internal.LegTable.{entries_of, legs_in, uses_date}
use Rattle.ssim_base.specs.declared.leg_table.leg_sequence.LegSequence.{LegSequence}
use Rattle.ssim_base.proofs.DateLemmas.{any-none}
use Rattle.ssim_base.proofs.leg_table.meets_in.Goals as goal

pub returns-else-suffix-flights : goal.returns-else-suffix-flights
returns-else-suffix-flights c =
    let p = c.args.period.now in
    let flights = c.args.flights.now in
    let past : length flights ≤ c.args.suffix = omega arith in
    let none : legs_in flights c.args.suffix ≡ [] = ap entries_of (slice_get_past flights c.args.suffix past) in
    let no : nat_lt c.args.suffix (length flights) ≡ false = grind (arith, nat_tests) in
    no ∙ sym (any-none (holds p) (range_with_len 0 day_count)) ∙ ap (λ (es : List LegSequence). have_common_date (holds p) (uses_date es c.args.name.sequence)) (sym none)
