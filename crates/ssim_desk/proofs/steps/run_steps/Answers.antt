use Rattle.std.proofs.Common.{◌≡◌, ◌+◌, ◌++◌, ◌∷◌, [], All, map, take, subst, sym, ◌∙◌, arith}
use Rattle.std.proofs.lemmas.Grind.{common_steps}
use Rattle.std.proofs.lemmas.List.{length-map, take_all}
use Rattle.ssim_desk.specs.Steps.{IsInRange, Runs}
use Rattle.ssim_desk.specs.clauses.Steps.{IsOwnMerge, LeavesIdle}
use Rattle.ssim_desk.proofs.OneRun.{desks_agree}
use Rattle.ssim_desk.proofs.StepLemmas.{idle_more, one_more, state}
use Rattle.ssim_desk.proofs.steps.run_steps.Goals as goal

pub loop-next-preserved : goal.loop-next-preserved
loop-next-preserved g c =
    let its = state g.D.Holder.seen in
    let i = c.loop-next.next-index in
    let steps = c.args.steps.now in
    let us = c.loop-next.answers.items in
    let s = c.next-item.result in
    let a = c.run_step-answer.result in
    let more : take (i + 1) steps ≡ take i steps ++ s ∷ [] = grind (arith, common_steps) in
    let pushed : c.push.new.self.items ≡ us ++ a ∷ [] = grind (arith, common_steps) in
    record {
      count = grind (arith, common_steps);
      room = omega (arith, c.push.ensures.capacity);
      runs = subst (λ xs. Runs (map its c.args.desks.now) xs c.push.new.self.items (map its c.run_step-answer.new.desks)) (sym more)
          (subst (λ vs. Runs (map its c.args.desks.now) (take i steps ++ s ∷ []) vs (map its c.run_step-answer.new.desks)) (sym pushed)
          (one_more (map its c.args.desks.now) (map its c.loop-next.desks) (map its c.run_step-answer.new.desks) (take i steps) us s a c.loop-next.invariant.runs c.run_step-answer.ensures.acts));
      own = λ all. c.run_step-answer.ensures.own (subst IsOwnMerge (sym c.next-item.is) (all i s (omega arith))) ∙ c.loop-next.invariant.own all;
      idle = subst (λ xs. LeavesIdle c.args.desks.now xs c.push.new.self.items c.run_step-answer.new.desks) (sym more)
          (subst (λ vs. LeavesIdle c.args.desks.now (take i steps ++ s ∷ []) vs c.run_step-answer.new.desks) (sym pushed)
          (idle_more (map its c.args.desks.now) (map its c.loop-next.desks) c.args.desks.now c.loop-next.desks c.run_step-answer.new.desks (take i steps) us s a c.loop-next.invariant.runs
          c.loop-next.invariant.idle c.run_step-answer.ensures.idle));
    }

pub returns-clause-agree : goal.returns-clause-agree
returns-clause-agree g c =
    let its = state g.D.Holder.seen in
    let start = map its c.args.desks.now in
    let steps = c.args.steps.now in
    let us = c.loop-next.answers.items in
    let all : take c.loop-next.next-index steps ≡ steps = take_all c.loop-next.next-index steps c.loop-next-test.false in
    desks_agree c.any_two_desks_agree.ensures start (map its c.loop-next.desks) steps us c.each_is_desk.ensures
    (subst (λ n. All (IsInRange n) steps) (sym (length-map c.args.desks.now its)) c.requires)
    (subst (λ xs. Runs start xs us (map its c.loop-next.desks)) all c.loop-next.invariant.runs)

pub returns-clause-idle : goal.returns-clause-idle
returns-clause-idle g c =
    subst (λ xs. LeavesIdle c.args.desks.now xs c.loop-next.answers.items c.loop-next.desks) (take_all c.loop-next.next-index c.args.steps.now c.loop-next-test.false) c.loop-next.invariant.idle
