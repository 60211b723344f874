-- The record is written after what is held, and then LF.
use Rattle.std.proofs.Common.{◌≡◌, ◌≤◌, ◌+◌, ap, length, arith}
use Rattle.std.proofs.lemmas.Grind.{common_steps}
use Rattle.ssim_base.proofs.SinkLemmas.{pushed}
use Rattle.ssim_base.proofs.output_buffer.OutputBuffer.push_record.Goals as goal

pub returns : goal.returns
returns c =
    let end = c.self.inside.end in
    let written = c.write_over.new.out in
    let len : length written ≡ 200 = omega (arith, c.write_over.auto.out) in
    let room : end + 201 ≤ length c.self.inside.bytes =
    grind (
      arith,
      common_steps,
      c.requires,
      c.self.told,
      c.self.invariant,
      ap length c.self.view_is,
    ) in
    pushed c.self.inside.bytes written end c.self.view_is c.write_over.ensures.value len room
