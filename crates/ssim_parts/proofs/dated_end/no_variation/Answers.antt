-- The text spells a UTC variation of 0.
use Rattle.std.proofs.Common.{refl, lit≤}
use Rattle.ssim_parts.specs.MovedEnds.{no_variation}
use Rattle.ssim_parts.proofs.dated_end.no_variation.Goals as goal

pub unwrap-requires : goal.unwrap-requires
unwrap-requires c =
    c.parse.ensures.accepts.1 (no_variation, record { to = lit≤ tt; spelled = refl })
