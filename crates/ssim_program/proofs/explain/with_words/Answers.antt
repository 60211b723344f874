-- The words are those on the refusal.
use Rattle.std.proofs.Common.{◌∙◌, ◌++◌, List, ℕ, ap, subst}
use Rattle.ssim_guide.specs.Words.{Explains, is_refusal}
use Rattle.ssim_program.proofs.explain.with_words.Goals as goal

pub returns : goal.returns
returns c = (
  c.in_ok-words.words.items,
  c.in_ok-extend_from_slice.ensures.items
      ∙ ap (λ (y : List ℕ). c.args.line.items ++ y) c.deref.ensures.value,
  λ known. (
    c.args.place.now,
    subst (λ (name : List ℕ). Explains name c.args.place.now c.in_ok-words.words.items) c.name.ensures
        (c.in_ok-words.ensures.words (ap is_refusal c.number.ensures ∙ known)),
  ),
)
