-- The bytes after the rest have no mark.
use Rattle.std.proofs.Common.{◌≡◌, ◌≤◌, false, length, take, drop}
use Rattle.std.specs.Prelude.{◌==◌}
use Rattle.std.specs.List.{All}
use Rattle.ssim_mailbox.proofs.line.rsplit_once.Given as goal

abbrev pub invariant-loop-rest : goal.invariant-loop-rest
invariant-loop-rest l = record {
  shorter : length l.rest ≤ length l.bytes;
  front : l.rest ≡ take (length l.rest) l.bytes;
  none : All (λ b. (b == l.mark) ≡ false) (drop (length l.rest) l.bytes);
}

abbrev pub decreases-loop-rest : goal.decreases-loop-rest
decreases-loop-rest l = length l.rest
