-- A sub-message acts, and then those after it.
use Rattle.std.proofs.Common.{◌≡◌, ◌∙◌, ◌++◌, ◌∷◌, [], List, append_assoc, ap, map, rules, subst, sym}
use Rattle.ssim_base.proofs.Results.{on_ok}
use Rattle.ssim_schedule.specs.declared.finding.Finding.{Finding}
use Rattle.ssim_desk.specs.Meaning.{after_one, after_subs, subs_findings}
use Rattle.ssim_program.specs.internal.SomeFlights.{Shows}
use Rattle.ssim_program.specs.internal.Spans.{part_sub}
use Rattle.ssim_program.proofs.chosen_findings.+act_each.Goals as goal

pub returns-in_ok-push-in-Some-Some-clause-shows :
    goal.returns-in_ok-push-in-Some-Some-clause-shows
returns-in_ok-push-in-Some-Some-clause-shows t c =
    let here = c.in-Some-Some in
    let rows = c.args.rows.now in
    let choice = c.args.choice.now in
    let subs : c.args.subs.now ≡ here.sub.now ∷ here.subs.now = search rules in
    let dates : c.args.dates.now ≡ here.dated.now ∷ here.dates.now = search rules in
    on_ok c.act_each.result
    (λ next before shows. subst (Shows c.act_each.new.schedule)
    (λ i. after_subs rows (sym subs i) (map (part_sub choice) (sym dates i)) before)
    (next (after_one rows here.sub.now.action (part_sub choice here.dated.now) before)
    (c.in_ok-finding-in-Some-Some.ensures.shows before shows)))
    c.act_each.ensures.shows

pub returns-in_ok-push-in-Some-Some-clause-found :
    goal.returns-in_ok-push-in-Some-Some-clause-found
returns-in_ok-push-in-Some-Some-clause-found t c =
    let here = c.in-Some-Some in
    let rows = c.args.rows.now in
    let choice = c.args.choice.now in
    let subs : c.args.subs.now ≡ here.sub.now ∷ here.subs.now = search rules in
    let dates : c.args.dates.now ≡ here.dated.now ∷ here.dates.now = search rules in
    let found = c.in_ok-finding-in-Some-Some in
    let so_far = c.args.found.now.items in
    on_ok c.act_each.result
    (λ next before shows.
    let after = after_one rows here.sub.now.action (part_sub choice here.dated.now) before in
    let rest = subs_findings rows here.subs.now (map (part_sub choice) here.dates.now) after in
    next after (found.ensures.shows before shows)
    ∙ ap (λ (fs : List Finding). fs ++ rest) c.in_ok-push-in-Some-Some.ensures.items
    ∙ append_assoc so_far (found.finding ∷ []) rest
    ∙ ap (λ (f : Finding). so_far ++ f ∷ rest) (found.ensures.found before shows)
    ∙ (λ i. so_far ++ subs_findings rows (sym subs i) (map (part_sub choice) (sym dates i)) before))
    c.act_each.ensures.found
