use Rattle.ssim_program.proofs.Events as events
use Rattle.ssim_program.proofs.laws.commands_are_events.Goals as goal

pub returns : goal.returns
returns c = events.commands_are_events
