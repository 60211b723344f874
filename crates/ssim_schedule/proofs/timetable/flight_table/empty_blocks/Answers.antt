-- One more empty block.
use Rattle.std.proofs.Common.{List, [], ◌∷◌, ◌++◌, replicate, ap, ◌∙◌}
use Rattle.std.proofs.lemmas.List.{replicate-append-replicate}
use Rattle.ssim_schedule.specs.internal.Table.{Table}
use Rattle.ssim_schedule.proofs.timetable.flight_table.empty_blocks.Goals as goal

pub loop-preserved : goal.loop-preserved
loop-preserved c =
    c.in_ok-push.ensures.items ∙ ap (λ (blocks : List Table). blocks ++ c.in_ok-of.field-0 ∷ []) c.loop.invariant
    ∙ ap (λ (t : Table). replicate c.loop.counter [] ++ t ∷ []) (c.in_ok-of.ensures ∙ c.new-flights.ensures.items) ∙ replicate-append-replicate {A = Table} c.loop.counter 1 []
