-- Each candidate makes what is said of it.
use Rattle.std.proofs.Common.{◌≡◌, ◌∙◌, [], ◌∷◌, List, ap, subst}
use Rattle.std.proofs.lemmas.Result.{IfOk-weaker}
use Rattle.ssim_text.specs.declared.action.Action.{Action}
use Rattle.ssim_text.specs.declared.action.Action.TheVariants.{Eqt, New, Rpl}
use Rattle.ssim_outbox.specs.Reach.{after_all}
use Rattle.ssim_outbox.specs.declared.candidates.Candidate.{Candidate}
use Rattle.ssim_outbox.specs.internal.Candidates.{AddsTimes, Makes}
use Rattle.ssim_outbox.proofs.Tried.{both_make, times_make}
use Rattle.ssim_outbox.proofs.WholeLegs.{new_make, rpl_make}
use Rattle.ssim_outbox.proofs.candidates.actions_of.Goals as goal

pub returns-in-NewFlight-clause-found : goal.returns-in-NewFlight-clause-found
returns-in-NewFlight-clause-found c = λ rows day long m.
    let old = c.args.old.now in
    let new = c.args.new.now in
    let by = λ (k : Candidate). Makes rows day k old new in
    let k = new_make rows day old new (subst by c.in-NewFlight.is m) in
    IfOk-weaker c.new_flight.result (λ actions. actions.items ≡ New k.new ∷ [])
    (λ actions. after_all rows day actions.items old ≡ new)
    (λ actions h. ap (λ (all : List Action). after_all rows day all old) h ∙ k.made)
    (c.new_flight.ensures.found k.new k.are k.have)

pub returns-in-Times-clause-found : goal.returns-in-Times-clause-found
returns-in-Times-clause-found c = λ rows day long m.
    let old = c.args.old.now in
    let new = c.args.new.now in
    let by = λ (k : Candidate). Makes rows day k old new in
    let k = times_make rows day old new long (subst by c.in-Times.is m) in
    IfOk-weaker c.with_times.result (λ more. AddsTimes k.lines c.new.result.items more.items)
    (λ more. after_all rows day more.items old ≡ new)
    (λ more adds. k.make more.items (subst (λ (before : List Action).
    AddsTimes k.lines before more.items) c.new.ensures.items adds))
    (c.with_times.ensures.found k.lines k.have)

pub returns-in-Replacement-clause-found : goal.returns-in-Replacement-clause-found
returns-in-Replacement-clause-found c = λ rows day long m.
    let old = c.args.old.now in
    let new = c.args.new.now in
    let by = λ (k : Candidate). Makes rows day k old new in
    let k = rpl_make rows day old new (subst by c.in-Replacement.is m) in
    IfOk-weaker c.replacement.result (λ actions. actions.items ≡ Rpl k.new ∷ [])
    (λ actions. after_all rows day actions.items old ≡ new)
    (λ actions h. ap (λ (all : List Action). after_all rows day all old) h ∙ k.made)
    (c.replacement.ensures.found k.new k.are k.have)

pub returns-in_ok-actions-in-EquipmentAndTimes-clause-found :
    goal.returns-in_ok-actions-in-EquipmentAndTimes-clause-found
returns-in_ok-actions-in-EquipmentAndTimes-clause-found c = λ rows day long m.
    let old = c.args.old.now in
    let new = c.args.new.now in
    let by = λ (k : Candidate). Makes rows day k old new in
    let k = both_make rows day old new long (subst by c.in-EquipmentAndTimes.is m) in
    let both = c.in_ok-actions-in-EquipmentAndTimes in
    let first : both.actions.items ≡ Eqt k.equipment ∷ [] =
    both.ensures.found k.equipment k.is_equipment k.has in
    let times = k.times in
    IfOk-weaker c.with_times-in-EquipmentAndTimes.result
    (λ more. AddsTimes times.lines both.actions.items more.items)
    (λ more. after_all rows day more.items old ≡ new)
    (λ more adds. times.make more.items
    (subst (λ (before : List Action). AddsTimes times.lines before more.items) first adds))
    (c.with_times-in-EquipmentAndTimes.ensures.found times.lines times.have)
