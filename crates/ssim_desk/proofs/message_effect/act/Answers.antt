-- Each sub-message leads one step further.
use Rattle.std.proofs.Common.{◌≡◌, ◌+◌, ◌<◌, List, [], ◌∷◌, ◌++◌, drop, get_or, length, refl, sym, ap, subst, ◌∙◌, append_assoc}
use Rattle.std.proofs.lemmas.List.{append-nil, drop_all}
use Rattle.ssim_schedule.specs.clauses.Schedule.{cuts_in}
use Rattle.ssim_schedule.specs.declared.finding.Finding.{Finding}
use Rattle.ssim_text.specs.Message.{MessageValue}
use Rattle.ssim_text.specs.declared.action.Sub.{Sub}
use Rattle.ssim_desk.specs.internal.Changes.{Shows}
use Rattle.ssim_desk.specs.Meaning.{after_one, after_subs, subs_findings}
use Rattle.ssim_desk.proofs.Points.{adds_next, adds_none}
use Rattle.ssim_desk.proofs.Shown.{finds_on, leads_on, splits}
use Rattle.ssim_desk.proofs.message_effect.act.Goals as goal

pub loop-place-init : goal.loop-place-init
loop-place-init c = record {
  left = λ before shows. record { between = before; shows = shows; leads = refl; finds = ap (λ found. found ++ subs_findings c.args.rows.now c.args.held.now.message.subs c.args.held.now.dates before) c.new-found.ensures.items };
  cuts = λ g is. adds_none c.args.rows.now c.args.held.now.dates g (cuts_in c.args.schedule.now g);
}

pub loop-place-preserved : goal.loop-place-preserved
loop-place-preserved c =
    let held = c.args.held.now in let rows = c.args.rows.now in let place = c.loop-place.place in
    let are : c.subs-sub-items.result.now ≡ held.message.subs = c.subs-sub-items.ensures.value ∙ ap (λ (m : MessageValue). m.subs) c.message.ensures in
    let within : place < length c.dates.result.now = subst (λ n. place < n) (ap length are ∙ sym c.dates.ensures.each) c.loop-place-test.true in
    let subs = splits c.subs-sub-items.result.now held.message.subs place c.sub-item.result are c.loop-place-test.true c.sub-item.is in
    let dates = splits c.dates.result.now held.dates place c.index-dates-place.result c.dates.ensures.value within c.index-dates-place.is in
    record {
      left = λ before shows.
          let l = c.loop-place.invariant.left before shows in
          let next = after_one rows c.sub-item.result.action c.index-dates-place.result l.between in
          let rest = subs_findings rows (drop (place + 1) held.message.subs) (drop (place + 1) held.dates) next in
          record {
            between = next;
            shows = c.in_ok-act_one.ensures.shows l.between l.shows;
            leads = leads_on rows _ _ _ _ c.sub-item.result c.index-dates-place.result l.between subs dates ∙ l.leads;
            finds =
                ap (λ found. found ++ rest) c.in_ok-push.ensures.items
                ∙ append_assoc c.loop-place.found.items (c.in_ok-act_one.field-0 ∷ []) rest
                ∙ ap (λ (f : Finding). c.loop-place.found.items ++ f ∷ rest) (c.in_ok-act_one.ensures.found l.between l.shows)
                ∙ ap (λ found. c.loop-place.found.items ++ found) (finds_on rows _ _ _ _ c.sub-item.result c.index-dates-place.result l.between subs dates)
                ∙ l.finds;
          };
      cuts = λ g is. adds_next rows held.dates c.index-dates-place.result g place (cuts_in c.args.schedule.now g) (cuts_in c.loop-place.schedule g) (cuts_in c.act_one.new.schedule g)
          (subst (λ n. place < n) (ap length c.dates.ensures.value) within)
          (subst (λ ds. c.index-dates-place.result ≡ get_or ds place c.index-dates-place.result) c.dates.ensures.value c.index-dates-place.is)
          (c.loop-place.invariant.cuts g is) (c.in_ok-act_one.ensures.cuts g is);
    }

none_left : (c : goal.After-loop-place) → drop c.loop-place.place c.args.held.now.message.subs ≡ []
none_left c =
    let are : c.subs-sub-items.result.now ≡ c.args.held.now.message.subs = c.subs-sub-items.ensures.value ∙ ap (λ (m : MessageValue). m.subs) c.message.ensures in
    subst (λ (subs : List Sub). drop c.loop-place.place subs ≡ []) are (drop_all c.loop-place.place c.subs-sub-items.result.now c.loop-place-test.false)

pub returns-clause-shows : goal.returns-clause-shows
returns-clause-shows c before shows =
    let l = c.loop-place.invariant.left before shows in
    subst (Shows c.loop-place.schedule) (sym (ap (λ subs. after_subs c.args.rows.now subs (drop c.loop-place.place c.args.held.now.dates) l.between) (none_left c)) ∙ l.leads) l.shows

pub returns-clause-found : goal.returns-clause-found
returns-clause-found c before shows =
    let l = c.loop-place.invariant.left before shows in
    sym (append-nil c.loop-place.found.items)
    ∙ sym (ap (λ subs. c.loop-place.found.items ++ subs_findings c.args.rows.now subs (drop c.loop-place.place c.args.held.now.dates) l.between) (none_left c)) ∙ l.finds
