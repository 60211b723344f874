-- One row more, at the rank of its station.
use Rattle.std.proofs.Common.{◌<◌, ◌∙◌, ◌++◌, ◌∷◌, [], List, ℕ, map, slice_set, length, ap, arith}
use Rattle.std.specs.Str.{bytes_eq}
use Rattle.std.proofs.lemmas.List.{length-map}
use Rattle.ssim_base.specs.Stations.{Row}
use Rattle.ssim_overview.specs.Totals.{station_at}
use Rattle.ssim_overview.proofs.NoteEnds.{row_more}
use Rattle.ssim_overview.proofs.Ranks.{pushed}
use Rattle.ssim_overview.proofs.leg_ends.rows_by_station.Goals as goal

pub loop-row-preserved : goal.loop-row-preserved
loop-row-preserved c =
    let rows = c.args.rows.now in let i = c.loop-row.row-index in let row = c.row-item.result in
    let table = c.loop-row.table.items in let n = c.number_of.result in
    let size = c.loop-row.invariant.len in let same = length-map table (λ list. list.items) in
    let bound = c.number_of.ensures.bound in
    let within : n < length table = omega arith in
    row_more rows i row n (map (λ list. list.items) table)
    (map (λ list. list.items) (slice_set table n c.push.new.self))
    c.loop-row-test.true c.row-item.is bound
    (λ k lt. c.number_of.ensures.only k lt
    ∙ ap (λ (s : List ℕ). bytes_eq s (station_at k)) c.station.ensures)
    (pushed (λ list. list.items) table n c.index_mut.result.now c.push.new.self row within
    c.index_mut.ensures.value
    (c.in_ok-push.ensures.items
    ∙ ap (λ (r : Row). c.index_mut.result.now.items ++ r ∷ []) c.of.ensures))
    c.loop-row.invariant
