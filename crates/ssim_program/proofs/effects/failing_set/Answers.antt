-- One more sub-message.
use Rattle.std.proofs.Common.{◌≡◌, ◌∙◌, ◌||◌, ◌+◌, ◌++◌, ◌∷◌, [], Bool, List, arith, ap, sym, take}
use Rattle.std.specs.List.{list_any}
use Rattle.std.proofs.lemmas.Grind.{common_steps}
use Rattle.std.proofs.lemmas.List.Folds.{list_any-append}
use Rattle.ssim_desk.specs.declared.finding_line.FindingLine.{FindingLine}
use Rattle.ssim_program.specs.print.Effects.{fails_as}
use Rattle.ssim_program.proofs.LineSets.{or_none}
use Rattle.ssim_program.proofs.effects.failing_set.Goals as goal

pub loop-found-preserved : goal.loop-found-preserved
loop-found-preserved c = λ text.
    let i = c.loop-found.found-index in
    let lines = c.args.lines.now in
    let found = c.found-item.result in
    let more : take (i + 1) lines ≡ take i lines ++ found ∷ [] = grind (arith, common_steps) in
    c.in_ok-add_failing.ensures text
    ∙ ap (λ (b : Bool). b || fails_as text found) (c.loop-found.invariant text)
    ∙ ap (λ (b : Bool). list_any (fails_as text) (take i lines) || b) (sym (or_none (fails_as text found)))
    ∙ sym (list_any-append (fails_as text) (take i lines) (found ∷ []))
    ∙ ap (list_any (fails_as text)) (sym more)
