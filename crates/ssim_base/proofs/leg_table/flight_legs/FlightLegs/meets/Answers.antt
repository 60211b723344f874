-- A leg sequence without a leg record uses no date.
use Rattle.ssim_periods.specs.CommonDays.{have_common_date}
use Rattle.std.proofs.Common.{◌≡◌, ◌≤◌, false, nat_lt, Option, None, length, slice_get, sym, ap, ◌∙◌, arith}
use Rattle.std.proofs.lemmas.Bool.Decides.{nat_tests}
use Rattle.std.proofs.lemmas.Option.{slice_get_past}
use Rattle.std.specs.List.{range_with_len}
use Rattle.ssim_periods.specs.Calendar.{day_count, holds}
use Rattle.ssim_base.specs.internal.LegTable.{entry_of, used_of}
use Rattle.ssim_base.specs.declared.leg_table.leg_sequence.LegSequence.{LegSequence}
use Rattle.ssim_base.proofs.DateLemmas.{any-none}
use Rattle.ssim_base.proofs.leg_table.flight_legs.FlightLegs.meets.Goals as goal

pub returns-else-index-len : goal.returns-else-index-len
returns-else-index-len c =
    let p = c.args.period.now in
    let entries = c.args.self.now.entries.items in
    let past : length entries ≤ c.index_of-index.result = omega arith in
    let none : entry_of entries c.args.sequence ≡ None = ap (slice_get entries) (sym c.index_of-index.ensures) ∙ slice_get_past entries c.index_of-index.result past in
    let no : nat_lt c.index_of-index.result c.len.result ≡ false = grind (arith, nat_tests) in
    no ∙ sym (any-none (holds p) (range_with_len 0 day_count)) ∙ ap (λ (o : Option LegSequence). have_common_date (holds p) (used_of o)) (sym none)
