-- The columns so far were added.
use Rattle.std.proofs.Common.{◌≡◌, ◌++◌, take}
use Rattle.ssim_listing.specs.LegText.{dotted}
use Rattle.ssim_listing.proofs.leg_text.push_dotted.Given as goal

abbrev pub invariant-loop-byte : goal.invariant-loop-byte
invariant-loop-byte l = l.lines.items ≡ l.initial.lines.items ++ dotted (take l.byte-index l.columns)
