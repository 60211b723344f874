-- All blocks are there, and empty.
use Rattle.std.proofs.Common.{List, [], length, sym, ap, subst, ◌∙◌}
use Rattle.std.proofs.lemmas.List.{length-replicate}
use Rattle.ssim_schedule.specs.internal.Blocks.{AreBlocks}
use Rattle.ssim_schedule.specs.internal.Table.{Table}
use Rattle.ssim_schedule.proofs.BlockLemmas.{blocks_empty}
use Rattle.ssim_schedule.proofs.timetable.flight_table.FlightTable.new.Goals as goal

pub invariant_of-result : goal.invariant_of-result
invariant_of-result c =
    let empty = c.in_ok-empty_blocks.ensures in
    (subst (λ (blocks : List Table). AreBlocks 0 blocks) (sym empty) (blocks_empty 264), ap (λ (blocks : List Table). length blocks) empty ∙ length-replicate {A = Table} 264 [])
