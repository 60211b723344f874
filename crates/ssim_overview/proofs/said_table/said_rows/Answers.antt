-- The rows of one rank more, and in the end those of all stations.
use Rattle.std.proofs.Common.{◌≡◌, ◌<◌, ◌∙◌, ◌++◌, List, [], map, length, ap, sym, refl, arith}
use Rattle.std.proofs.lemmas.List.{length-map}
use Rattle.ssim_overview.specs.Totals.{station_at}
use Rattle.ssim_overview.specs.internal.SaidRows.{Dated, dates_said, flights_say, grown, rank_rows}
use Rattle.ssim_overview.proofs.Ranks.{at_map, rank_more}
use Rattle.ssim_overview.proofs.SaidFlights.{table_is}
use Rattle.ssim_overview.proofs.SaidStations.{rows_are}
use Rattle.ssim_overview.proofs.said_table.said_rows.Goals as goal

pub loop-rank-preserved : goal.loop-rank-preserved
loop-rank-preserved c =
    let sayings = c.in_ok-sayings.sayings.items in let k = c.loop-rank.rank in
    let below = c.loop-rank-test.true in
    let len : length sayings ≡ 17576 = sym (length-map sayings (λ list. list.items))
    ∙ c.in_ok-sayings.ensures.len in
    let inside : k < length sayings = omega arith in
    rank_more (rank_rows (map (λ list. list.items) sayings)) k c.loop-rank.rows.items
    c.push_station.new.rows.items c.loop-rank.invariant
    (c.in_ok-push_station.ensures
    ∙ ap (λ (s : List Dated).
    c.loop-rank.rows.items ++ grown (station_at k) [] (dates_said s 0 36525))
    (c.deref.ensures.value ∙ ap (λ list. list.items) c.index.ensures
    ∙ sym (at_map (λ list. list.items) sayings k c.index.result.now inside)))

pub returns : goal.returns
returns c = λ legs_on are.
    let over = c.loop-rank-test.false in let to = c.loop-rank.auto.rank-end in
    let done : c.loop-rank.rank ≡ 17576 = omega arith in
    table_is legs_on c.args.flights.now (flights_say c.args.flights.now) c.loop-rank.rows.items are
    refl
    (rows_are (flights_say c.args.flights.now)
    (map (λ list. list.items) c.in_ok-sayings.sayings.items) c.loop-rank.rows.items c.loop-rank.rank
    c.in_ok-sayings.ensures done c.loop-rank.invariant)
