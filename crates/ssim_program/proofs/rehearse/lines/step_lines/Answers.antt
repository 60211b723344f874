-- The line of the current step.
use Rattle.std.proofs.Common.{◌∙◌, ◌+◌, ◌++◌, ◌∷◌, [], List, ap, sym, take}
use Rattle.ssim_program.specs.rehearse.Rehearsal.{answer_line, step_lines}
use Rattle.ssim_program.specs.declared.rehearse.line.RehearsalLine.{RehearsalLine}
use Rattle.ssim_program.proofs.Rehearsing.{lines_next}
use Rattle.ssim_program.proofs.rehearse.lines.step_lines.Goals as goal

pub loop-place-preserved : goal.loop-place-preserved
loop-place-preserved c =
    let steps = c.args.steps.now in let answers = c.args.answers.now in
    let k = c.loop-place.place in let s = c.index-steps-place.result in
    let a = c.index-answers-place.result in
    c.in_ok-push.ensures.items
    ∙ ap (λ (ls : List RehearsalLine). ls ++ c.answer_line.result ∷ []) c.loop-place.invariant
    ∙ ap (λ (l : RehearsalLine). step_lines (take k steps) (take k answers) ++ l ∷ [])
    (c.answer_line.ensures ∙ ap (λ n. answer_line (n + 1) a) c.desk_of.ensures)
    ∙ sym (lines_next steps answers k s a c.loop-place-test.true c.requires.count
    c.index-steps-place.is c.index-answers-place.is)
