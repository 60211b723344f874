-- One more sub-message of the plan: it resolves to its flight and its period.
use Rattle.std.proofs.Common.{◌≡◌, ◌∙◌, List, [], ◌∷◌, ◌++◌, ap, append_assoc, sym, subst, rules}
use Rattle.std.specs.List.{AllByRecursion}
use Rattle.std.specs.Vec.Iter.{into_iter_items}
use Rattle.ssim_base.specs.Resolve.{AreResolved, IsResolved}
use Rattle.ssim_text.specs.declared.action.Sub.{Sub}
use Rattle.ssim_text.proofs.ReadsBack.{all_both}
use Rattle.ssim_outbox.specs.declared.planned_sub.PlannedSub.{PlannedSub}
use Rattle.ssim_outbox.specs.clauses.Messages.{IsAlone}
use Rattle.ssim_outbox.specs.Publication.{dates_of_plan, subs_of_plan}
use Rattle.ssim_outbox.proofs.plan_subs.subs_of_plan.Goals as goal

pub loop-sub-preserved : goal.loop-sub-preserved
loop-sub-preserved c =
    let sub = c.in-Some.sub in
    let rest = into_iter_items c.next.new.self in
    let so_far = c.loop-sub.subs.items in
    let left : into_iter_items c.loop-sub.sub-iterator ≡ sub ∷ rest = search rules in
    record {
      value = ap (λ (xs : List Sub). xs ++ subs_of_plan c.args.airline rest) c.in_ok-push.ensures.items
          ∙ append_assoc so_far (c.dated_sub.result ∷ []) (subs_of_plan c.args.airline rest)
          ∙ ap (λ (s : Sub). so_far ++ s ∷ subs_of_plan c.args.airline rest) c.dated_sub.ensures.value
          ∙ ap (λ (l : List PlannedSub). so_far ++ subs_of_plan c.args.airline l) (sym left)
          ∙ c.loop-sub.invariant.value;
      said = search rules;
      alone = subst (AllByRecursion (IsAlone c.args.heading.now)) (sym c.in_ok-push.ensures.items)
          (all_both (IsAlone c.args.heading.now) so_far (c.dated_sub.result ∷ []) c.loop-sub.invariant.alone
          (c.dated_sub.ensures.alone, tt));
      resolved = λ carrier is later.
          c.loop-sub.invariant.resolved carrier is
          (subst (λ (l : List PlannedSub). AreResolved carrier (subs_of_plan c.args.airline l) (dates_of_plan l))
          (sym left) (
            subst (λ (s : Sub). IsResolved carrier s (record { flight = sub.flight; period = sub.period }))
                c.dated_sub.ensures.value (c.dated_sub.ensures.resolves carrier is),
            later,
          ));
      left = search rules;
    }
