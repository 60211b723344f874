-- What a flight has is in its block, in the entry that the search finds there.
use Rattle.std.proofs.Common.{[], sym, ap, subst, ◌∙◌}
use Rattle.ssim_periods.specs.clauses.Days.{Seen}
use Rattle.ssim_base.specs.Timetable.{Legs}
use Rattle.ssim_schedule.specs.internal.Table.{AreRising, Table}
use Rattle.ssim_schedule.proofs.BlockLemmas.{IsIn, has, is_block, is_in}
use Rattle.ssim_schedule.proofs.ChangeLemmas.{cuts_at, days_at, no_days}
use Rattle.ssim_schedule.proofs.TableLemmas.{entry_has, found_in_gap}
use Rattle.ssim_schedule.proofs.timetable.flight_table.FlightTable.find.Goals.{After-get-block}
use Rattle.ssim_schedule.proofs.timetable.flight_table.FlightTable.find.Goals as goal

here : (c : After-get-block) → IsIn c.self.inside.blocks.items c.block_number.result
    c.get-block.result.now c.args.self.now c.args.flight
here c =
    is_in c.self.invariant c.self.view_is c.block_number.ensures.value c.block_number.ensures.small
    c.index.ensures c.get-block.ensures

pub search-requires : goal.search-requires
search-requires c = (is_block (here (goal.at.search-requires c).After-get-block)).rising

pub returns-in-Ok-clause-some : goal.returns-in-Ok-clause-some
returns-in-Ok-clause-some c =
    let b = here (goal.at.returns-in-Ok-clause-some c).After-get-block in
    let rising = subst (λ (t : Table). AreRising t) (sym c.block.view_is) (is_block b).rising in
    let entry = c.index-in-Ok.result.now in (
      ap (λ (p : Seen Legs). p.days) c.get.ensures
          ∙ entry_has days_at no_days c.block.view_is entry rising c.in-Ok.ensures.found c.index-in-Ok.ensures
          ∙ has b days_at no_days,
      ap (λ (p : Seen Legs). p.cuts) c.get.ensures
          ∙ entry_has cuts_at [] c.block.view_is entry rising c.in-Ok.ensures.found c.index-in-Ok.ensures
          ∙ has b cuts_at [],
    )

pub returns-in-Err-clause-none : goal.returns-in-Err-clause-none
returns-in-Err-clause-none c =
    let b = here (goal.at.returns-in-Err-clause-none c).After-get-block in
    let block = c.get-block.result.now in (
      sym (has b days_at no_days)
          ∙ found_in_gap days_at no_days block c.args.flight c.in-Err.field-0 c.in-Err.ensures.absent,
      sym (has b cuts_at [])
          ∙ found_in_gap cuts_at [] block c.args.flight c.in-Err.field-0 c.in-Err.ensures.absent,
    )
