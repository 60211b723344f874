-- A quiet end is kept nowhere, and another one at the rank of its station.
use Rattle.std.proofs.Common.{◌≡◌, ◌<◌, ◌∙◌, ◌++◌, ◌∷◌, [], List, true, nat_le, map, slice_index_or}
use Rattle.std.proofs.Common.{slice_set, length}
use Rattle.std.proofs.Common.{ap, ap₂, sym, arith}
use Rattle.std.proofs.lemmas.Bool.Decides.{nat_tests}
use Rattle.std.proofs.lemmas.List.{length-map}
use Rattle.ssim_base.specs.Stations.{Row}
use Rattle.ssim_overview.specs.StationNotes.{leg_end}
use Rattle.ssim_overview.specs.internal.StationNotes.{DatedEnd, is_quiet}
use Rattle.ssim_overview.specs.declared.leg_ends.LegEnd.{LegEnd}
use Rattle.ssim_overview.proofs.NoteEnds.{loud_end, quiet_end}
use Rattle.ssim_overview.proofs.Ranks.{at_map, pushed}
use Rattle.ssim_overview.proofs.leg_ends.add_end.Goals as goal
use Rattle.ssim_overview.proofs.leg_ends.add_end.Goals.{After-is_quiet}

ordered : (c : After-is_quiet) → nat_le c.args.period.first c.args.period.last ≡ true
ordered c = let is = c.first.ensures.period in let le = is.ordered in grind (arith, nat_tests)

-- the rows at the rank
quiet_is : (c : After-is_quiet)
    → is_quiet
    (slice_index_or (map (λ list. list.items) c.args.table.now) c.number_of-rank.result [])
    c.args.period (leg_end c.args.station c.args.variation c.args.date_variation)
    ≡ c.is_quiet.result
quiet_is c =
    let table = c.args.table.now in let n = c.number_of-rank.result in
    let bound = c.number_of-rank.ensures.bound in let size = c.requires.table in
    let within : n < length table = omega arith in
    ap₂ (λ (rows : List Row) (end : LegEnd). is_quiet rows c.args.period end)
    (at_map (λ list. list.items) table n c.index-table-rank.result within
    ∙ ap (λ list. list.items) (sym c.index-table-rank.is) ∙ sym c.deref.ensures.value)
    (sym c.leg_end.ensures)
    ∙ sym c.is_quiet.ensures

pub returns-then-is_quiet-clause-adds : goal.returns-then-is_quiet-clause-adds
returns-then-is_quiet-clause-adds c =
    quiet_end (map (λ list. list.items) c.args.table.now) c.number_of-rank.result
    (c.args.period, leg_end c.args.station c.args.variation c.args.date_variation)
    (ordered (goal.at.returns-then-is_quiet-clause-adds c).After-is_quiet)
    c.number_of-rank.ensures.only
    (quiet_is (goal.at.returns-then-is_quiet-clause-adds c).After-is_quiet ∙ c.if-is_quiet.true)
    (map (λ list. list.items) c.args.ends.now.items)

pub returns-clause-adds : goal.returns-clause-adds
returns-clause-adds c =
    let ends = c.args.ends.now.items in let n = c.number_of-rank.result in
    let bound = c.number_of-rank.ensures.bound in let size = c.requires.ends in
    let within : n < length ends = omega arith in
    let end : DatedEnd =
    (c.args.period, leg_end c.args.station c.args.variation c.args.date_variation) in
    loud_end (map (λ list. list.items) c.args.table.now) n end
    (ordered (goal.at.returns-clause-adds c).After-is_quiet) c.number_of-rank.ensures.only
    (quiet_is (goal.at.returns-clause-adds c).After-is_quiet ∙ c.if-is_quiet.false)
    (map (λ list. list.items) ends) (map (λ list. list.items) (slice_set ends n c.push.new.self))
    (length-map ends (λ list. list.items) ∙ c.requires.ends) bound
    (pushed (λ list. list.items) ends n c.index_mut.result.now c.push.new.self end within
    c.index_mut.ensures.value
    (c.in_ok-push.ensures.items
    ∙ ap (λ (e : LegEnd). c.index_mut.result.now.items ++ (c.args.period, e) ∷ [])
    c.leg_end.ensures))
