-- The ends of one record more.
use Rattle.std.proofs.Common.{map, arith}
use Rattle.std.proofs.lemmas.List.{length-map}
use Rattle.ssim_overview.proofs.NoteEnds.{no_end, record_more}
use Rattle.ssim_overview.proofs.leg_ends.ends_by_station.Goals as goal

pub loop-record-init : goal.loop-record-init
loop-record-init c =
    let ends = c.in_ok-ends.ends.items in let same = length-map ends (λ list. list.items) in
    let size = c.in_ok-ends.ensures.len in
    no_end (map (λ list. list.items) c.args.table.now) (map (λ list. list.items) ends) (omega arith)
    c.in_ok-ends.ensures.none

pub add_record-requires-clause-ends : goal.add_record-requires-clause-ends
add_record-requires-clause-ends c =
    let same = length-map c.loop-record.ends.items (λ list. list.items) in
    let size = c.loop-record.invariant.len in omega arith

pub loop-record-preserved : goal.loop-record-preserved
loop-record-preserved c =
    record_more (map (λ list. list.items) c.args.table.now) c.args.records.now
    c.loop-record.record-index
    c.record-item.result (map (λ list. list.items) c.loop-record.ends.items)
    (map (λ list. list.items) c.add_record.new.ends.items) c.loop-record-test.true c.record-item.is
    c.loop-record.invariant c.in_ok-add_record.ensures
