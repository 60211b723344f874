-- The record is written after what is held, and then LF.
use Rattle.std.proofs.Common.{◌≡◌, ◌≤◌, ◌+◌, ap, length, arith}
use Rattle.std.proofs.lemmas.Grind.{common_steps}
use Rattle.ssim_base.proofs.SinkLemmas.{pushed}
use Rattle.ssim_base.proofs.output_buffer.OutputBuffer.push_leg.Goals as goal

pub returns-clause-value : goal.returns-clause-value
returns-clause-value c =
    let end = c.self.inside.end in
    let written = c.write_leg.new.out in
    let len : length written ≡ 200 = omega (arith, c.write_leg.auto.out) in
    let room : end + 201 ≤ length c.self.inside.bytes =
    grind (
      arith,
      common_steps,
      c.requires.room,
      c.self.told,
      c.self.invariant,
      ap length c.self.view_is,
    ) in
    pushed c.self.inside.bytes written end c.self.view_is c.write_leg.ensures.value len room
