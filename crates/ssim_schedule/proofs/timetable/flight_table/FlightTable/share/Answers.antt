-- The entries of a block rise.
use Rattle.ssim_schedule.proofs.BlockLemmas.{IsIn, is_block, is_in}
use Rattle.ssim_schedule.proofs.timetable.flight_table.FlightTable.share.Goals as goal

pub search-requires : goal.search-requires
search-requires c =
    let b : IsIn c.self.inside.blocks.items c.block_number.result c.in-Some.block.now
    c.args.self.now c.args.flight = is_in c.self.invariant c.self.view_is
    c.block_number.ensures.value c.block_number.ensures.small c.index_mut.ensures.value
    c.in-Some.ensures.value in
    (is_block b).rising
