-- The flight is changed among the blocks, or becomes the current one and is changed there.
use Rattle.std.proofs.Common.{ℕ, ◌+◌, nat_eq, if◌then◌else◌, List, Option, Some, sym, ap, subst}
use Rattle.std.proofs.Common.{◌∙◌}
use Rattle.ssim_values.specs.Flight.{FlightNumber}
use Rattle.ssim_values.specs.Period.{DayRange}
use Rattle.ssim_periods.specs.Calendar.{holds}
use Rattle.ssim_periods.specs.clauses.Days.{AddsOnly, Seen}
use Rattle.ssim_periods.specs.Days.{changed_on}
use Rattle.ssim_base.proofs.Results.{on_ok}
use Rattle.ssim_base.specs.ReadBack.{place_of}
use Rattle.ssim_base.specs.Timetable.{Days, Legs}
use Rattle.ssim_schedule.specs.clauses.PlacedLegs.{placed_each}
use Rattle.ssim_schedule.specs.internal.Runs.{Run, with_runs}
use Rattle.ssim_schedule.specs.internal.Table.{AddsOnlyAt, Table, table_cuts}
use Rattle.ssim_schedule.specs.internal.TableBuilder.{table_of, with_current}
use Rattle.ssim_schedule.proofs.TableBuilderLemmas.{adds-from, cuts-before, days-before}
use Rattle.ssim_schedule.proofs.builder.table_builder.TableBuilder.put_other.Goals as goal

pub returns-then-not-is_empty-clause-cuts : goal.returns-then-not-is_empty-clause-cuts
returns-then-not-is_empty-clause-cuts c = λ g.
    let q = c.args.flight in
    let p : DayRange = c.args.period.now in
    let b = c.put_back.new.self in
    let before : List ℕ = table_cuts b.blocks g in
    let own : Seen Legs = with_runs b.runs.items b.periods in
    let cuts : Option FlightNumber → List ℕ =
    λ o. table_cuts (with_current o own c.change.new.self) g in
    adds-from p q g (table_cuts (table_of c.args.self.now) g) before (cuts b.current)
    (c.in_ok-put_back.ensures.cuts g)
    (subst (λ (o : Option FlightNumber). AddsOnlyAt q p g before (cuts o))
    (sym c.in_ok-put_back.ensures.current) (c.in_ok-change.ensures.cuts g))

pub returns-clause-days : goal.returns-clause-days
returns-clause-days c =
    let q = c.args.flight in
    let s = holds c.args.period.now in
    let after = placed_each c.args.group.now.legs in
    let blocks : Table = c.put_back.new.self.blocks in
    let old : Seen Legs = c.in_ok-self.field-0 in
    let new : Seen Legs = with_runs c.add_to_runs.new.runs.items c.add_to_runs.new.periods in
    on_ok c.add_to_runs.result (λ made g.
    days-before s after q blocks old new c.in_ok-self.ensures.days
    (made
    ∙ ap (λ (rs : List Run). changed_on s after 0 (with_runs rs old).days) c.clear.ensures.items) g
    ∙ ap (λ (ds : Days). if nat_eq (place_of q) (place_of g) then changed_on s after 0 ds else ds)
    (c.in_ok-put_back.ensures.days g)) c.add_to_runs.ensures.days

pub returns-clause-cuts : goal.returns-clause-cuts
returns-clause-cuts c =
    let q = c.args.flight in
    let p : DayRange = c.args.period.now in
    let blocks : Table = c.put_back.new.self.blocks in
    let old : Seen Legs = c.in_ok-self.field-0 in
    let new : Seen Legs = with_runs c.add_to_runs.new.runs.items c.add_to_runs.new.periods in
    on_ok c.add_to_runs.result (λ adds g.
    let only : AddsOnly old.cuts new.cuts p.first (p.last + 1) =
    subst (λ (rs : List Run). AddsOnly (with_runs rs old).cuts new.cuts p.first (p.last + 1))
    c.clear.ensures.items adds in
    adds-from p q g (table_cuts (table_of c.args.self.now) g) (table_cuts blocks g)
    (table_cuts (with_current (Some q) new blocks) g) (c.in_ok-put_back.ensures.cuts g)
    (cuts-before p q blocks old new c.in_ok-self.ensures.cuts only g)) c.add_to_runs.ensures.cuts
