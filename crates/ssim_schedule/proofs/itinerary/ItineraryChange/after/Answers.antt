-- If there are no legs, those of the itinerary are unchanged.
use Rattle.std.proofs.Common.{◌≡◌, [], sym, ap, ◌∙◌}
use Rattle.ssim_schedule.specs.clauses.PlacedLegs.{placed_each}
use Rattle.ssim_base.specs.Timetable.{Legs}
use Rattle.ssim_base.proofs.Results.{if_ok}
use Rattle.ssim_schedule.proofs.PlacedLegLemmas.{placed_alone}
use Rattle.ssim_schedule.proofs.itinerary.ItineraryChange.after.Goals as goal

pub returns-then-is_empty : goal.returns-then-is_empty
returns-then-is_empty c =
    let own : Legs = c.args.self.now in
    let none : c.args.old.now ≡ [] = c.is_empty.ensures.0 c.if-is_empty.true in
    let alone : placed_each own c.args.old.now ≡ own =
    ap (placed_each own) none ∙ placed_alone own in
    if_ok c.copy.result (λ new same. same ∙ sym alone) c.copy.ensures
