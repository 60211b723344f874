-- The lines so far lead to the state.
use Rattle.ssim_text.specs.Machine.{Reads}
use Rattle.std.proofs.Common.{map, take}
use Rattle.ssim_text.proofs.decoder.read_lines.Given as goal

abbrev pub invariant-loop-index : goal.invariant-loop-index
invariant-loop-index l = Reads l.state (take l.index (map (λ x. x.bytes.now) l.lines))
