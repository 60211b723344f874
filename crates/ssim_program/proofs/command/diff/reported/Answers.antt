-- There are differences exactly if a flight differs, in whatever form they are printed.
use Rattle.std.proofs.Common.{◌∙◌, List, ap, length, nat_lt}
use Rattle.ssim_difference.specs.ChosenDates.{chosen_side}
use Rattle.ssim_difference.specs.Differences.{Compared}
use Rattle.ssim_program.proofs.command.diff.reported.Goals as goal

pub returns-clause-lines : goal.returns-clause-lines
returns-clause-lines c before after is are =
    let choice = c.args.choice.now in
    c.in_ok-lines.ensures (chosen_side choice before after before) (chosen_side choice before after after)
    (c.deref-2.ensures.value ∙ c.in_ok-flights.ensures before after is are)

pub returns-clause-found : goal.returns-clause-found
returns-clause-found c before after is are =
    c.differ-found.ensures
    ∙ ap (λ (fs : List Compared). nat_lt 0 (length fs))
    (c.deref.ensures.value ∙ c.in_ok-flights.ensures before after is are)
