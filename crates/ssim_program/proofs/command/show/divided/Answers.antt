-- The words after the first are others and a last one.
use Rattle.std.proofs.Common.{◌∙◌, ◌++◌, Bor, List, [], ◌∷◌, ℕ, ap, map, sym}
use Rattle.ssim_program.proofs.WordsOn.{word_at_last, words_before}
use Rattle.ssim_program.proofs.command.show.divided.Goals as goal

pub returns-in_ok-extend_from_slice-in-Some-clause-before :
    goal.returns-in_ok-extend_from_slice-in-Some-clause-before
returns-in_ok-extend_from_slice-in-Some-clause-before c =
    let first = c.args.first in
    let others = c.in-Some.others.now in
    ap (map (λ t. t.now)) (c.in_ok-extend_from_slice-in-Some.ensures.items
    ∙ ap (λ (ws : List (Bor (List ℕ))). ws ++ others) (c.in_ok-push-in-Some.ensures.items
    ∙ ap (λ (ws : List (Bor (List ℕ))). ws ++ first ∷ []) c.in_ok-before.ensures.items))
    ∙ sym (words_before (λ t. t.now) c.args.words.now others c.in-Some.last.now
    c.in-Some.ensures.cases.0 first.now)

pub returns-in_ok-extend_from_slice-in-Some-clause-last :
    goal.returns-in_ok-extend_from_slice-in-Some-clause-last
returns-in_ok-extend_from_slice-in-Some-clause-last c =
    sym (word_at_last (λ t. t.now) c.args.words.now c.in-Some.others.now c.in-Some.last.now
    c.in-Some.ensures.cases.0 c.args.first.now)
