-- The flight's entry is changed, or a new one is put into its gap, in the flight's block.
use Rattle.std.proofs.Common.{◌≡◌, ℕ, ◌+◌, List, get_or, set, refl, sym, ap, subst, ◌∙◌}
use Rattle.std.proofs.lemmas.List.{get_or_default}
use Rattle.ssim_periods.specs.Calendar.{holds}
use Rattle.ssim_periods.specs.clauses.Days.{AddsOnly, Seen}
use Rattle.ssim_periods.specs.Days.{changed_on, counts_on}
use Rattle.ssim_base.specs.Timetable.{Legs}
use Rattle.ssim_base.specs.ReadBack.{place_of}
use Rattle.ssim_base.proofs.Results.{if_ok, on_ok}
use Rattle.ssim_values.specs.Flight.{FlightNumber}
use Rattle.ssim_schedule.specs.internal.Blocks.{IsBlock}
use Rattle.ssim_schedule.specs.declared.timetable.flight_table.FlightPeriods.{FlightPeriods}
use Rattle.ssim_schedule.specs.internal.Table.{AreRising, IsAt, Table, no_entry}
use Rattle.ssim_schedule.proofs.BlockLemmas.{IsIn, added_in, changed_in, has, insert_block, is_block}
use Rattle.ssim_schedule.proofs.BlockLemmas.{is_in, set_block, with_block}
use Rattle.ssim_schedule.proofs.ChangeLemmas.{cuts-insert, cuts-set, days-insert, days-set, days_at}
use Rattle.ssim_schedule.proofs.ChangeLemmas.{no_days}
use Rattle.ssim_schedule.proofs.TableLemmas.{entry_has, found_in_gap, is_at, is_gap}
use Rattle.ssim_schedule.proofs.timetable.flight_table.FlightTable.change.Given as given
use Rattle.ssim_schedule.proofs.timetable.flight_table.FlightTable.change.Goals.{After-block}
use Rattle.ssim_schedule.proofs.timetable.flight_table.FlightTable.change.Goals.{in-Ok+in_ok-own-in-Ok}
use Rattle.ssim_schedule.proofs.timetable.flight_table.FlightTable.change.Goals.{in-Err+in_ok-counts-in-Err+in_ok-periods-in-Err+in_ok-insert-in-Err}
use Rattle.ssim_schedule.proofs.timetable.flight_table.FlightTable.change.Goals as goal

here : (g : given.Over) (c : After-block g) → IsIn c.self.inside.blocks.items
    c.block_number.result c.block.inside.flights.items c.args.self.now c.args.flight
here g c =
    is_in c.self.invariant c.self.view_is c.block_number.ensures.value c.block_number.ensures.small
    c.index_mut.ensures.value (c.block.view_is ∙ c.in_ok-block.ensures.value)

pub search-requires : goal.search-requires
search-requires g c =
    subst (λ (t : Table). AreRising t) c.block.view_is
    (is_block (here g (goal.at.search-requires g c).After-block)).rising

-- ---- the entry that the search found

module _ {blocks : List Table} {n : ℕ} {table now : Table} {flight : FlightNumber}
    (b : IsIn blocks n table now flight) (i : ℕ) (at : IsAt table flight i) (f : FlightPeriods)
    (is : f ≡ get_or table i f)
  where
    entry : f ≡ get_or table i no_entry
    entry = is ∙ get_or_default table i f no_entry at.in_range

    changed : (p : Seen Legs)
        → IsBlock n (set table i (record { flight = f.flight; periods = p }))
    changed p =
        set_block b i (record { flight = f.flight; periods = p }) at
        (ap (λ (e : FlightPeriods). place_of e.flight) entry ∙ at.its)

pub invariant_of-self-2 : goal.invariant_of-self-2
invariant_of-self-2 g c =
    let b = here g (goal.at.invariant_of-self-2 g c).After-block in
    elim c.match-search.branch [
      | in-Ok+in_ok-own-in-Ok w ↦
          rw w.self-inside-is (with_block b _ (changed b w.in-Ok.place
          (is_at c.block.view_is w.in-Ok.ensures.found) w.index_mut-in-Ok.result.now
          w.index_mut-in-Ok.ensures.value w.apply.new.self))
      | in-Err+in_ok-counts-in-Err+in_ok-periods-in-Err+in_ok-insert-in-Err w ↦
          rw (w.self-inside-is, w.in_ok-insert-in-Err.ensures.items)
          (with_block b _ (insert_block b w.in-Err.gap _ (is_gap c.block.view_is w.in-Err.ensures.absent)))
    ]

pub returns-clause-days : goal.returns-clause-days
returns-clause-days g c =
    let b = here g (goal.at.returns-clause-days g c).After-block in
    let rising = (is_block b).rising in
    let flight = c.args.flight in
    let on = holds c.args.period.now in
    let outcome = g.C.Change.outcome c.args.change.now in
    elim c.match-search.branch [
      | in-Ok+in_ok-own-in-Ok w ↦
          let at = is_at c.block.view_is w.in-Ok.ensures.found in
          let f = w.index_mut-in-Ok.result.now in
          let is = w.index_mut-in-Ok.ensures.value in
          let own_days = ap (λ (p : Seen Legs). changed_on on outcome 0 p.days) w.in_ok-own-in-Ok.ensures.value in
          rw (w.result-is, w.self-inside-is) (on_ok w.apply.result (λ made.
          changed_in b _ (changed b w.in-Ok.place at f is w.apply.new.self) days_at no_days
          (changed_on on outcome 0)
          (days-set on outcome _ rising flight w.in-Ok.place f w.apply.new.self at
          (entry b w.in-Ok.place at f is) (made ∙ own_days))) w.apply.ensures.days)
      | in-Err+in_ok-counts-in-Err+in_ok-periods-in-Err+in_ok-insert-in-Err w ↦
          let gap = is_gap c.block.view_is w.in-Err.ensures.absent in
          let p = w.in_ok-periods-in-Err.periods in
          let made : p.days ≡ changed_on on outcome 0 no_days =
          ap (λ (p : Seen Legs). p.days) w.in_ok-periods-in-Err.ensures
          ∙ w.in_ok-counts-in-Err.ensures.days
          ∙ ap (changed_on on outcome 0) w.new-periods.ensures.days in
          rw (w.result-is, w.self-inside-is, w.in_ok-insert-in-Err.ensures.items)
          (changed_in b _ (insert_block b w.in-Err.gap p gap) days_at no_days
          (changed_on on outcome 0) (days-insert on outcome _ flight w.in-Err.gap p gap made))
    ]

pub returns-clause-cuts : goal.returns-clause-cuts
returns-clause-cuts g c =
    let b = here g (goal.at.returns-clause-cuts g c).After-block in
    let rising = (is_block b).rising in
    let flight = c.args.flight in
    let period = c.args.period.now in
    elim c.match-search.branch [
      | in-Ok+in_ok-own-in-Ok w ↦
          let at = is_at c.block.view_is w.in-Ok.ensures.found in
          let f = w.index_mut-in-Ok.result.now in
          let is = w.index_mut-in-Ok.ensures.value in
          let applied = w.apply.new.self in
          rw (w.result-is, w.self-inside-is) (on_ok w.apply.result (λ only.
          added_in b _ (changed b w.in-Ok.place at f is applied) period
          (cuts-set period _ rising flight w.in-Ok.place f applied at
          (entry b w.in-Ok.place at f is)
          (subst (λ (p : Seen Legs). AddsOnly p.cuts applied.cuts period.first (period.last + 1))
          w.in_ok-own-in-Ok.ensures.value only))) w.apply.ensures.cuts)
      | in-Err+in_ok-counts-in-Err+in_ok-periods-in-Err+in_ok-insert-in-Err w ↦
          let gap = is_gap c.block.view_is w.in-Err.ensures.absent in
          let p = w.in_ok-periods-in-Err.periods in
          let unused = w.new-periods.result.cuts in
          let adds =
          subst (λ (p : Seen Legs). AddsOnly unused p.cuts period.first (period.last + 1))
          (sym w.in_ok-periods-in-Err.ensures) w.in_ok-counts-in-Err.ensures.cuts in
          rw (w.result-is, w.self-inside-is, w.in_ok-insert-in-Err.ensures.items)
          (added_in b _ (insert_block b w.in-Err.gap p gap) period
          (cuts-insert period _ flight w.in-Err.gap p unused gap w.new-periods.ensures.cuts adds))
    ]

pub returns-clause-counts : goal.returns-clause-counts
returns-clause-counts g c =
    let b = here g (goal.at.returns-clause-counts g c).After-block in
    let counted = counts_on (holds c.args.period.now) (g.C.Change.class_of c.args.change.now) in
    elim c.match-search.branch [
      | in-Ok+in_ok-own-in-Ok w ↦
          let its = entry_has days_at no_days refl w.index_mut-in-Ok.result.now (is_block b).rising
          (is_at c.block.view_is w.in-Ok.ensures.found) w.index_mut-in-Ok.ensures.value in
          rw w.result-is (if_ok w.apply.result (λ counts e. e
          ∙ ap (λ (p : Seen Legs). counted p.days) w.in_ok-own-in-Ok.ensures.value
          ∙ ap counted (its ∙ has b days_at no_days)) w.apply.ensures.counts)
      | in-Err+in_ok-counts-in-Err+in_ok-periods-in-Err+in_ok-insert-in-Err w ↦
          let gap = is_gap c.block.view_is w.in-Err.ensures.absent in
          rw w.result-is (w.in_ok-counts-in-Err.ensures.counts
          ∙ ap counted (w.new-periods.ensures.days
          ∙ sym (found_in_gap days_at no_days _ _ w.in-Err.gap gap) ∙ has b days_at no_days))
    ]
