-- The flight of the name has one more leg record.
use Rattle.ssim_periods.specs.CommonDays.{have_common_date}
use Rattle.std.proofs.Common.{◌≡◌, ◌/◌, ◌%◌, ℕ, List, slice_get, refl, sym, ap, ◌∙◌}
use Rattle.std.proofs.lemmas.Option.{slice_get_read}
use Rattle.std.proofs.lemmas.Result.{IfOk-weaker}
use Rattle.std.specs.Vec.{with_item}
use Rattle.ssim_values.specs.Flight.{FlightNumber}
use Rattle.ssim_periods.specs.Calendar.{holds}
use Rattle.ssim_base.specs.internal.LegTable.{flights_of, legs_at, legs_in, uses_date}
use Rattle.ssim_base.specs.ReadBack.{place_of}
use Rattle.ssim_base.specs.declared.leg_table.flight_legs.FlightLegs.{FlightLegs}
use Rattle.ssim_base.specs.declared.leg_table.leg_sequence.LegSequence.{LegSequence}
use Rattle.ssim_base.proofs.LegSequences.{on-both}
use Rattle.ssim_base.proofs.LegTables.{adds-in}
use Rattle.ssim_base.proofs.leg_table.LegTable.add.Goals.{After-add_to}
use Rattle.ssim_base.proofs.leg_table.LegTable.add.Goals as goal

-- the indexes are those of the flight's place
number_is : (c : After-add_to) → c.indexes-number.result.0 ≡ place_of c.args.name.flight / 27
number_is c =
    c.indexes-number.ensures.number
    ∙ ap (λ (f : FlightNumber). place_of f / 27) c.flight.ensures

suffix_is : (c : After-add_to) → c.indexes-number.result.1 ≡ place_of c.args.name.flight % 27
suffix_is c =
    c.indexes-number.ensures.suffix
    ∙ ap (λ (f : FlightNumber). place_of f % 27) c.flight.ensures

-- and the row is that of its number
row_is : (c : After-add_to)
    → flights_of (slice_get c.grow_numbers.new.numbers.items c.indexes-number.result.0)
    ≡ c.index_mut.result.now.items
row_is c =
    ap flights_of (slice_get_read c.grow_numbers.new.numbers.items _ c.indexes-number.result.0
    c.index_mut.result.now refl c.in_ok-grow_numbers.ensures.there c.index_mut.ensures.value)

pub returns-clause-ok : goal.returns-clause-ok
returns-clause-ok c =
    let at = (goal.at.returns-clause-ok c).After-add_to in
    let old = c.args.self.now in
    let grown = c.grow_numbers.new.numbers in
    let number = c.indexes-number.result.0 in
    let suffix = c.indexes-number.result.1 in
    let more = c.add_to.new.flights in
    let name = c.args.name in
    let grew = c.in_ok-grow_numbers.ensures in
    on-both c.add_to.result (λ adds others.
    adds-in old (record { numbers = with_item grown number more; alloc = old.alloc }) grown.items
    c.index_mut.result.now more (place_of name.flight) number suffix name.sequence name.variation
    c.args.period.now (number_is at) (suffix_is at) grew.same grew.there (row_is at) refl adds others)
    c.add_to.ensures.ok c.add_to.ensures.others

pub returns-clause-met : goal.returns-clause-met
returns-clause-met c =
    let at = (goal.at.returns-clause-met c).After-add_to in
    let rows = c.args.self.now.numbers.items in
    let number = c.indexes-number.result.0 in
    let suffix = c.indexes-number.result.1 in
    let place = place_of c.args.name.flight in
    let legs : legs_in c.index_mut.result.now.items suffix ≡ legs_at c.args.self.now place =
    ap (λ (fs : List FlightLegs). legs_in fs suffix)
    (sym (row_is at) ∙ c.in_ok-grow_numbers.ensures.same number)
    ∙ ap (λ (n : ℕ). legs_in (flights_of (slice_get rows n)) suffix) (number_is at)
    ∙ ap (λ (n : ℕ). legs_in (flights_of (slice_get rows (place / 27))) n) (suffix_is at) in
    IfOk-weaker c.add_to.result _ _ (λ met is.
    is ∙ ap (λ (es : List LegSequence). have_common_date (holds c.args.period.now)
    (uses_date es c.args.name.sequence)) legs) c.add_to.ensures.met
