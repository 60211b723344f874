-- The bit of the itinerary variation is set, and no other one changes.
use Rattle.std.specs.Int.{w128}
use Rattle.std.proofs.lemmas.Result.{on_ok_weaker}
use Rattle.ssim_base.proofs.DateLemmas.{bit-set}
use Rattle.ssim_base.proofs.leg_table.leg_sequence.LegSequence.add.Goals as goal

pub returns-clause-variations : goal.returns-clause-variations
returns-clause-variations c = on_ok_weaker c.take.result (λ days v. bit-set w128 c.args.self.now.variations c.args.variation v c.requires) c.take.ensures.days
