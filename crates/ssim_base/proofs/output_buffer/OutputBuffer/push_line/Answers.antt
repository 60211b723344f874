-- The record is copied after what is held, and then LF.
use Rattle.std.proofs.Common.{◌≡◌, ◌≤◌, ◌+◌, ap, length, ◌∙◌, arith}
use Rattle.std.proofs.lemmas.Grind.{common_steps}
use Rattle.ssim_base.proofs.SinkLemmas.{pushed}
use Rattle.ssim_base.proofs.output_buffer.OutputBuffer.push_line.Goals as goal

pub returns : goal.returns
returns c =
    let end = c.self.inside.end in
    let copied = c.copy_from_slice.new.self in
    let after = c.copy_from_slice.ensures.after in
    let len : length copied ≡ 200 = ap length after ∙ c.told-bytes in
    let room : end + 201 ≤ length c.self.inside.bytes =
    grind (
      arith,
      common_steps,
      c.requires,
      c.self.told,
      c.self.invariant,
      ap length c.self.view_is,
    ) in
    pushed c.self.inside.bytes copied end c.self.view_is after len room
