-- The bytes of a text with the sub-messages so far.
use Rattle.std.proofs.Common.{◌≡◌, ◌≤◌}
use Rattle.ssim_outbox.proofs.FullTexts.{bytes_at}
use Rattle.ssim_outbox.proofs.messages.later_count.Given as goal

abbrev pub invariant-loop-at : goal.invariant-loop-at
invariant-loop-at l = record {
  bytes_are : l.bytes ≡ bytes_at l.heading l.group l.first l.later l.at;
  short : l.bytes ≤ 65536;
  few : l.at ≤ 249;
}
