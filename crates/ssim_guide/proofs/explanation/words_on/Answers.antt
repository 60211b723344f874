-- The lines are added one after another to none.
use Rattle.std.proofs.Common.{◌∙◌, ◌++◌, List, ℕ, ap, codes, sym, true≢false}
use Rattle.ssim_guide.specs.Words.{labelled}
use Rattle.ssim_guide.proofs.explanation.words_on.Goals.{in-Some+in_ok-push_line+in_ok-extend_from_slice+in_ok-push_line-2}
use Rattle.ssim_guide.proofs.explanation.words_on.Goals.{in_default}
use Rattle.ssim_guide.proofs.explanation.words_on.Goals as goal

pub returns-clause-words : goal.returns-clause-words
returns-clause-words c some = elim c.match-explanation_of.branch [
  | in-Some+in_ok-push_line+in_ok-extend_from_slice+in_ok-push_line-2 w ↦ (
    w.in-Some.found.meaning.now,
    w.in-Some.found.remedy.now,
    ap (λ lines. lines.items) w.lines-is
        ∙ w.in_ok-push_line-2.ensures
        ∙ ap (λ (x : List ℕ). x ++ labelled (codes "what to do") w.in-Some.found.remedy.now)
        (w.in_ok-extend_from_slice.ensures.items
        ∙ ap (λ (x : List ℕ). x ++ c.args.place.now)
        (w.in_ok-push_line.ensures
        ∙ ap (λ (x : List ℕ). x ++ labelled c.args.name.now w.in-Some.found.meaning.now)
        c.new-lines.ensures.items)),
  )
  | in_default w ↦ absurd (true≢false (sym (w.in_default.ensures.found ∙ some)))
]
