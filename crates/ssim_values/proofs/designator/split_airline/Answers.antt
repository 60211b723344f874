-- The third byte decides how long the airline is.
use Rattle.std.proofs.Common.{sym, ◌∙◌}
use Rattle.ssim_values.proofs.DesignatorLemmas.{only_three, only_two}
use Rattle.ssim_values.proofs.designator.split_airline.Goals as goal

pub returns-in-len3-up-clause-only : goal.returns-in-len3-up-clause-only
returns-in-len3-up-clause-only c = λ columns rest n is d e.
    only_three c.args.text.now columns rest c.in-len3-up.len_at_least (sym c.third_is_letter.ensures.letter ∙ c.if-third_is_letter.true) n d e

pub returns-in-len2-up-clause-only : goal.returns-in-len2-up-clause-only
returns-in-len2-up-clause-only c = λ columns rest n is d e.
    only_two c.args.text.now columns rest c.in-len2-up.len_at_least (sym c.third_is_letter.ensures.letter ∙ c.if-third_is_letter.false) n is e
