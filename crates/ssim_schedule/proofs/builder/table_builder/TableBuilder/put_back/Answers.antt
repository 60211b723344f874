-- The entry of the current flight is put into the others.
use Rattle.std.proofs.Common.{◌≡◌, ℕ, Bool, List, Contains, Option, Some, nat_eq, sym, subst, ◌∙◌}
use Rattle.ssim_values.specs.Flight.{FlightNumber}
use Rattle.ssim_periods.specs.clauses.Days.{Seen}
use Rattle.ssim_base.proofs.Results.{on_ok}
use Rattle.ssim_base.specs.ReadBack.{place_of}
use Rattle.ssim_base.specs.Timetable.{Legs}
use Rattle.ssim_schedule.specs.internal.Runs.{Run, with_runs}
use Rattle.ssim_schedule.specs.internal.TableBuilder.{with_current}
use Rattle.ssim_schedule.specs.internal.Table.{Table, table_cuts}
use Rattle.ssim_schedule.proofs.TableBuilderLemmas.{cuts-back}
use Rattle.ssim_schedule.proofs.builder.table_builder.TableBuilder.put_back.Goals as goal

pub returns-clause-cuts : goal.returns-clause-cuts
returns-clause-cuts c =
    let old = c.args.self.now in
    let runs : List Run = old.runs.items in
    let own : Seen Legs = with_runs runs old.periods in
    let taken : Seen Legs = c.replace-periods.result in
    let cuts : List ℕ = c.settle.new.self.cuts in
    let flight : FlightNumber = c.in-Some.flight in
    let is_at : FlightNumber → Bool = λ g. nat_eq (place_of flight) (place_of g) in
    let table : Option FlightNumber → Table = λ o. with_current o own old.blocks in
    let was : Some flight ≡ old.current = sym c.in-Some.is ∙ c.take.ensures.value in
    let kept : (cut : ℕ) → Contains cuts cut → Contains own.cuts cut = λ cut has.
    subst (λ (ps : Seen Legs). Contains (with_runs runs ps).cuts cut)
    c.replace-periods.ensures.value
    (subst (λ (rs : List Run). Contains (with_runs rs taken).cuts cut) c.deref.ensures.value
    (c.in_ok-replace_each.ensures.cuts cut (c.in_ok-settle.ensures.cuts cut has))) in
    on_ok c.put.result (λ put g cut has.
    subst (λ (o : Option FlightNumber). Contains (table_cuts (table o) g) cut) was
    (cuts-back (is_at g) cuts own.cuts (table_cuts old.blocks g) kept cut
    (subst (λ (cs : List ℕ). Contains cs cut) (put g) has))) c.put.ensures.cuts
