-- What holds of a history with one command holds of each command between those that run at once.
use Rattle.ssim_program.proofs.Turns as turns
use Rattle.ssim_program.proofs.laws.nothing_taken_is_lost.Goals as goal

pub returns : goal.returns
returns c =
    let holds = c.offices_agree.ensures.holds in
    record {
      order = turns.takes_turns;
      holds = turns.holds_what_came_in_turn holds;
      held = turns.nothing_held_is_lost holds;
      taken = turns.nothing_taken_is_lost holds;
    }
