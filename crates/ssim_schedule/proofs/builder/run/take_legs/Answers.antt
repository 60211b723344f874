-- A run has these legs, if the test of equal itineraries passes.
use Rattle.std.proofs.Common.{sym, ◌∙◌}
use Rattle.ssim_base.proofs.Results.{if_ok}
use Rattle.ssim_base.specs.clauses.ItineraryLaws.{exact_itinerary}
use Rattle.ssim_schedule.proofs.builder.run.take_legs.Goals as goal

pub returns-then-is_of : goal.returns-then-is_of
returns-then-is_of c =
    if_ok c.copy.result (λ copy same. same ∙ sym c.legs.ensures ∙ sym ((exact_itinerary c.args.group.now.legs c.legs.result.now).0 (sym c.is_of.ensures ∙ c.if-is_of.true))) c.copy.ensures
