-- Equal itineraries need no action. Others that messages reach are made by one of the candidates.
use Rattle.std.proofs.Common.{◌≡◌, ◌∙◌, List, [], sym, subst}
use Rattle.ssim_text.specs.declared.action.Action.{Action}
use Rattle.ssim_base.specs.clauses.ItineraryLaws.{exact_itinerary}
use Rattle.ssim_outbox.specs.Reach.{Leads}
use Rattle.ssim_outbox.specs.Sayable.{HaveColumns}
use Rattle.ssim_outbox.specs.Route.{same_route}
use Rattle.ssim_outbox.proofs.Found.{change_found, new_found, none_tested}
use Rattle.ssim_outbox.proofs.Found.{route_found}
use Rattle.ssim_outbox.proofs.date_actions.say.Goals as goal

pub returns-then-same-clause-said : goal.returns-then-same-clause-said
returns-then-same-clause-said c =
    let rows = c.args.rows.now in let day = c.args.day in
    let old = c.args.old.now in let new = c.args.new.now in
    let none : Leads rows day [] old new = record {
      said = tt;
      result = (exact_itinerary old new).0 (sym c.same.ensures ∙ c.if-same.true);
    } in
    subst (λ (actions : List Action). Leads rows day actions old new) (sym c.new.ensures.items)
    none

pub returns-then-is_empty-2-clause-finds : goal.returns-then-is_empty-2-clause-finds
returns-then-is_empty-2-clause-finds c = λ reach.
    let long = subst HaveColumns c.legs.ensures c.have_columns.ensures in
    c.first_that_leads.ensures.found long
    (new_found c.args.rows.now c.args.day c.args.old.now c.args.new.now long reach
    (c.is_empty-2.ensures.0 c.if-is_empty-2.true)
    (none_tested c.is_empty.result (c.args.new.now ≡ []) c.is_empty.ensures.1 c.if-is_empty.false))

pub returns-then-not-have_same_route-clause-finds :
    goal.returns-then-not-have_same_route-clause-finds
returns-then-not-have_same_route-clause-finds c = λ reach.
    let long = subst HaveColumns c.legs.ensures c.have_columns.ensures in
    let tested = c.have_same_route.ensures
    ∙ (λ i. same_route (c.legs-2.ensures i) (c.legs-3.ensures i)) in
    c.first_that_leads-then-not-have_same_route.ensures.found long
    (route_found c.args.rows.now c.args.day c.args.old.now c.args.new.now long reach
    (none_tested c.is_empty-2.result (c.args.old.now ≡ []) c.is_empty-2.ensures.1
    c.if-is_empty-2.false)
    (none_tested c.is_empty.result (c.args.new.now ≡ []) c.is_empty.ensures.1 c.if-is_empty.false)
    (sym tested ∙ c.if-not-have_same_route.true))

pub returns-clause-finds : goal.returns-clause-finds
returns-clause-finds c = λ reach.
    let long = subst HaveColumns c.legs.ensures c.have_columns.ensures in
    c.first_that_leads-2.ensures.found long
    (change_found c.args.rows.now c.args.day c.args.old.now c.args.new.now long reach
    (none_tested c.is_empty-2.result (c.args.old.now ≡ []) c.is_empty-2.ensures.1
    c.if-is_empty-2.false)
    (none_tested c.is_empty.result (c.args.new.now ≡ []) c.is_empty.ensures.1 c.if-is_empty.false))
