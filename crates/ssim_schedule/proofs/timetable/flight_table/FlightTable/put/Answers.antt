-- The flight's entry is written over, or put into its gap, in the flight's block.
use Rattle.std.proofs.Common.{◌≡◌, nat_eq, if◌then◌else◌, [], OnOk, refl, ap, subst, ◌∙◌}
use Rattle.ssim_periods.specs.clauses.Days.{Seen}
use Rattle.ssim_base.specs.Timetable.{Legs}
use Rattle.ssim_base.specs.ReadBack.{place_of}
use Rattle.ssim_values.specs.Flight.{FlightNumber}
use Rattle.ssim_schedule.specs.internal.Blocks.{all_entries}
use Rattle.ssim_schedule.specs.internal.Table.{AreRising, Table, found}
use Rattle.ssim_schedule.specs.declared.timetable.flight_table.FlightPeriods.{FlightPeriods}
use Rattle.ssim_schedule.proofs.BlockLemmas.{IsIn, changed_in, insert_block, is_block, is_in}
use Rattle.ssim_schedule.proofs.BlockLemmas.{set_block, with_block}
use Rattle.ssim_schedule.proofs.ChangeLemmas.{cuts_at, days_at, no_days}
use Rattle.ssim_schedule.proofs.TableLemmas.{insert_has, is_at, is_gap, set_has}
use Rattle.ssim_schedule.proofs.timetable.flight_table.FlightTable.put.Goals.{After-block, in-Ok}
use Rattle.ssim_schedule.proofs.timetable.flight_table.FlightTable.put.Goals.{in-Err+in_ok-insert-in-Err}
use Rattle.ssim_schedule.proofs.timetable.flight_table.FlightTable.put.Goals as goal

here : (c : After-block) → IsIn c.self.inside.blocks.items c.block_number.result
    c.block.inside.flights.items c.args.self.now c.args.flight
here c =
    is_in c.self.invariant c.self.view_is c.block_number.ensures.value c.block_number.ensures.small
    c.index_mut.ensures.value (c.block.view_is ∙ c.in_ok-block.ensures.value)

pub search-requires : goal.search-requires
search-requires c =
    subst (λ (t : Table). AreRising t) c.block.view_is
    (is_block (here (goal.at.search-requires c).After-block)).rising

pub invariant_of-self-2 : goal.invariant_of-self-2
invariant_of-self-2 c =
    let b = here (goal.at.invariant_of-self-2 c).After-block in
    elim c.match-search.branch [
      | in-Ok w ↦ rw w.self-inside-is (with_block b _ (set_block b w.in-Ok.place _ (is_at c.block.view_is w.in-Ok.ensures.found) refl))
      | in-Err+in_ok-insert-in-Err w ↦
          rw (w.self-inside-is, w.in_ok-insert-in-Err.ensures.items)
          (with_block b _ (insert_block b w.in-Err.gap _ (is_gap c.block.view_is w.in-Err.ensures.absent)))
    ]

-- the flight has what is put, and each other flight what it had
put_has : {X : Type 0} (field : FlightPeriods → X) (other : X) (c : goal.Joined-search)
    → IsIn c.self.inside.blocks.items c.block_number.result c.block.inside.flights.items
    c.args.self.now c.args.flight
    → (x : X) → field (record { flight = c.args.flight; periods = c.in_ok-periods.periods }) ≡ x
    → OnOk c.match-search.result ((q : FlightNumber)
    → found field other (all_entries c.match-search.self-inside.blocks.items) q
    ≡ (if nat_eq (place_of c.args.flight) (place_of q) then x else found field other c.args.self.now q))
put_has field other c b x same =
    let p = c.in_ok-periods.periods in
    elim c.match-search.branch [
      | in-Ok w ↦
          let at = is_at c.block.view_is w.in-Ok.ensures.found in
          rw (w.result-is, w.self-inside-is)
          (changed_in b _ (set_block b w.in-Ok.place _ at refl) field other (λ _. x)
          (set_has field other refl p (is_block b).rising at same))
      | in-Err+in_ok-insert-in-Err w ↦
          let gap = is_gap c.block.view_is w.in-Err.ensures.absent in
          rw (w.result-is, w.self-inside-is, w.in_ok-insert-in-Err.ensures.items)
          (changed_in b _ (insert_block b w.in-Err.gap p gap) field other (λ _. x)
          (insert_has field other refl p refl gap same))
    ]

pub returns-clause-days : goal.returns-clause-days
returns-clause-days c =
    put_has days_at no_days c (here (goal.at.returns-clause-days c).After-block) c.args.periods.days
    (ap (λ (p : Seen Legs). p.days) c.in_ok-periods.ensures)

pub returns-clause-cuts : goal.returns-clause-cuts
returns-clause-cuts c =
    put_has cuts_at [] c (here (goal.at.returns-clause-cuts c).After-block) c.args.periods.cuts
    (ap (λ (p : Seen Legs). p.cuts) c.in_ok-periods.ensures)
