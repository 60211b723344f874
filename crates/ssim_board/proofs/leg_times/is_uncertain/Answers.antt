-- A date variation is unknown, or else a UTC variation may be missing.
use Rattle.std.proofs.Common.{◌∙◌, sym}
use Rattle.ssim_board.proofs.Times.{uncertain_else, uncertain_yes}
use Rattle.ssim_board.proofs.leg_times.is_uncertain.Goals as goal

pub returns-then-has_unknown : goal.returns-then-has_unknown
returns-then-has_unknown c = c.if-has_unknown.true ∙ uncertain_yes c.args.mode c.args.leg.now (sym c.has_unknown.ensures ∙ c.if-has_unknown.true)

pub returns-else-has_unknown : goal.returns-else-has_unknown
returns-else-has_unknown c = c.lacks_variation.ensures ∙ uncertain_else c.args.mode c.args.leg.now (sym c.has_unknown.ensures ∙ c.if-has_unknown.false)
