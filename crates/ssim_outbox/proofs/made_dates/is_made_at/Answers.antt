-- The itineraries of the day are compared.
use Rattle.std.proofs.Common.{◌∙◌, not, ℕ, refl, sym, ap, subst}
use Rattle.ssim_schedule.specs.clauses.Schedule.{days_in}
use Rattle.ssim_outbox.specs.internal.Drafts.{IsMadeOn}
use Rattle.ssim_outbox.proofs.Settling.{itinerary_at, made_at}
use Rattle.ssim_outbox.proofs.made_dates.is_made_at.Goals as goal

pub returns-then-same_legs : goal.returns-then-same_legs
returns-then-same_legs c other _ =
    let made = days_in c.args.made.now c.args.change.now.flight in
    let before = days_in c.args.before.now c.args.change.now.flight in
    let new = c.args.change.now.new.days in let day = c.in-Some.day in
    subst (λ (n : ℕ). IsMadeOn made before new n) c.in-Some.ensures.value
    (made_at made before new day c.itinerary.result.now c.itinerary-then-same_legs.result.now
    c.legs-wanted.result.now c.itinerary.ensures.value c.itinerary-then-same_legs.ensures.value
    (c.legs-wanted.ensures ∙ itinerary_at new new day c.at.result.now refl c.at.ensures)
    (sym c.same_legs.ensures ∙ c.if-same_legs.true)
    (ap not (sym c.same_legs-then-same_legs.ensures) ∙ other))
