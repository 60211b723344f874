-- One action more, which acts: it comes to those before.
use Rattle.std.proofs.Common.{◌≡◌, ◌∙◌, ℕ, List, [], ◌∷◌, sym, ap, subst, rules}
use Rattle.std.specs.List.{AllByRecursion}
use Rattle.std.specs.Vec.Iter.{into_iter_items}
use Rattle.ssim_text.specs.declared.action.Action.{Action}
use Rattle.ssim_text.proofs.ReadsBack.{all_both}
use Rattle.ssim_schedule.specs.Acts.{after_on}
use Rattle.ssim_outbox.specs.clauses.Acting.{ActEach}
use Rattle.ssim_outbox.specs.Acting.{DoesAct}
use Rattle.ssim_outbox.specs.Reach.{IsSaid, after_all}
use Rattle.ssim_outbox.proofs.Acting.{each_both}
use Rattle.ssim_outbox.proofs.Tried.{after_both}
use Rattle.ssim_outbox.proofs.trial.act.Goals as goal

pub loop-action-preserved-in-Continue-branch-2 : goal.loop-action-preserved-in-Continue-branch-2
loop-action-preserved-in-Continue-branch-2 c =
    let rows = c.args.rows.now in let day = c.args.date.now.day in
    let old = c.args.date.now.legs in let before = c.loop-action.date.legs in
    let action = c.in-Some.action in let so_far = c.loop-action.acting.items in
    let rest = into_iter_items c.next.new.self in
    let is = c.loop-action.invariant in
    let made = c.in_ok-does_act.ensures.legs
    ∙ ap (λ (d : ℕ). after_on rows action d before) is.day in
    let left : into_iter_items c.loop-action.action-iterator ≡ action ∷ rest = search rules in
    let to_come : AllByRecursion IsSaid (action ∷ rest) =
    subst (AllByRecursion IsSaid) left is.to_come in
    let acts : DoesAct rows action day (after_all rows day so_far old) =
    subst (DoesAct rows action day) is.same
    (subst (λ (d : ℕ). DoesAct rows action d before) is.day
    (c.in_ok-does_act.ensures.acts c.if-branch.true)) in
    let added = c.in_ok-push.ensures.items in
    record {
      day = c.does_act.ensures.day ∙ is.day;
      legs = ap (after_all rows day rest) made
          ∙ ap (λ (actions : List Action). after_all rows day actions before) (sym left) ∙ is.legs;
      same = made ∙ ap (after_on rows action day) is.same
          ∙ sym (after_both rows day so_far (action ∷ []) old)
          ∙ ap (λ (actions : List Action). after_all rows day actions old) (sym added);
      acts = subst (λ (actions : List Action). ActEach rows day actions old) (sym added)
          (each_both rows day so_far (action ∷ []) old is.acts (acts, tt));
      said = subst (AllByRecursion IsSaid) (sym added)
          (all_both IsSaid so_far (action ∷ []) is.said (to_come.0, tt));
      to_come = to_come.1;
      left = search rules;
    }
