-- The next sub-message's lines are the first of those that were left.
use Rattle.std.proofs.Common.{◌≡◌, ◌++◌, ◌∷◌, ◌+◌, ℕ, List, [], drop, refl, sym, ap, ◌∙◌, append_assoc}
use Rattle.std.proofs.lemmas.List.{append-nil, drop_all, drop_more}
use Rattle.ssim_base.specs.Export.{line}
use Rattle.ssim_base.specs.Timetable.{Legs}
use Rattle.ssim_desk.specs.declared.date_step.DateStep.{DateStep}
use Rattle.ssim_program.specs.print.Shown.{legs_after, step_lines, step_text}
use Rattle.ssim_program.proofs.print.step.push_steps.Goals as goal

pub loop-step-init : goal.loop-step-init
loop-step-init c = refl

pub loop-step-preserved : goal.loop-step-preserved
loop-step-preserved c =
    let i = c.loop-step.step-index in let step = c.step-item.result in let before = c.loop-step.before.now in
    let so_far = c.loop-step.lines.items in let text = line (step_text step) in let after = legs_after before step in
    let rest = drop (i + 1) c.args.steps.now in
    let next : drop i c.args.steps.now ≡ step ∷ rest = drop_more c.args.steps.now i step c.loop-step-test.true ∙ ap (λ (x : DateStep). x ∷ rest) (sym c.step-item.is) in
    ap (λ (bytes : List ℕ). bytes ++ step_lines c.legs-before.result.now rest) (c.in_ok-push_step.ensures ∙ append_assoc so_far text after)
    ∙ ap (λ (legs : Legs). (so_far ++ (text ++ after)) ++ step_lines legs rest) c.legs-before.ensures
    ∙ append_assoc so_far (text ++ after) (step_lines step.itinerary rest)
    ∙ ap (λ (steps : List DateStep). so_far ++ step_lines before steps) (sym next)
    ∙ c.loop-step.invariant

pub returns : goal.returns
returns c =
    let none : drop c.loop-step.step-index c.args.steps.now ≡ [] = drop_all c.loop-step.step-index c.args.steps.now c.loop-step-test.false in
    sym (ap (λ (steps : List DateStep). c.loop-step.lines.items ++ step_lines c.loop-step.before.now steps) none ∙ append-nil c.loop-step.lines.items)
    ∙ c.loop-step.invariant
