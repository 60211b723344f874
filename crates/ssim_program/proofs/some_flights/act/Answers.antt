-- Each sub-message leads one step further.
use Rattle.std.proofs.Common.{◌≡◌, ◌<◌, List, [], drop, length, refl, sym, ap, subst, ◌∙◌}
use Rattle.std.proofs.lemmas.List.{drop_all}
use Rattle.ssim_text.specs.Message.{MessageValue}
use Rattle.ssim_text.specs.declared.action.Sub.{Sub}
use Rattle.ssim_desk.specs.Meaning.{after_one, after_subs}
use Rattle.ssim_desk.proofs.Shown.{leads_on, splits}
use Rattle.ssim_program.specs.internal.SomeFlights.{Shows}
use Rattle.ssim_program.proofs.some_flights.act.Goals as goal

pub loop-place-init : goal.loop-place-init
loop-place-init c = λ before shows. record { between = before; shows = shows; leads = refl }

pub loop-place-preserved : goal.loop-place-preserved
loop-place-preserved c = λ before shows.
    let held = c.args.held.now in
    let rows = c.args.rows.now in
    let place = c.loop-place.place in
    let are : c.subs-sub-items.result.now ≡ held.message.subs =
    c.subs-sub-items.ensures.value ∙ ap (λ (m : MessageValue). m.subs) c.message.ensures in
    let within : place < length c.dates.result.now =
    subst (λ n. place < n) (ap length are ∙ sym c.dates.ensures.each) c.loop-place-test.true in
    let subs = splits c.subs-sub-items.result.now held.message.subs place c.sub-item.result are
    c.loop-place-test.true c.sub-item.is in
    let dates = splits c.dates.result.now held.dates place c.index-dates-place.result
    c.dates.ensures.value within c.index-dates-place.is in
    let l = c.loop-place.invariant before shows in
    record {
      between = after_one rows c.sub-item.result.action c.index-dates-place.result l.between;
      shows = c.in_ok-act_one.ensures.shows l.between l.shows;
      leads = leads_on rows _ _ _ _ c.sub-item.result c.index-dates-place.result l.between subs dates
          ∙ l.leads;
    }

pub returns : goal.returns
returns c = λ before shows.
    let l = c.loop-place.invariant before shows in
    let held = c.args.held.now in
    let are : c.subs-sub-items.result.now ≡ held.message.subs =
    c.subs-sub-items.ensures.value ∙ ap (λ (m : MessageValue). m.subs) c.message.ensures in
    let none : drop c.loop-place.place held.message.subs ≡ [] =
    subst (λ (subs : List Sub). drop c.loop-place.place subs ≡ []) are
    (drop_all c.loop-place.place c.subs-sub-items.result.now c.loop-place-test.false) in
    subst (Shows c.loop-place.schedule) (sym (ap (λ subs. after_subs c.args.rows.now subs
    (drop c.loop-place.place held.dates) l.between) none) ∙ l.leads) l.shows
