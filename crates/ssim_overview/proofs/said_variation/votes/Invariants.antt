-- The votes so far.
use Rattle.std.proofs.Common.{◌≡◌, ◌≤◌, take}
use Rattle.ssim_overview.specs.SaidRows.{votes}
use Rattle.ssim_overview.proofs.said_variation.votes.Given as goal

abbrev pub invariant-loop-saying : goal.invariant-loop-saying
invariant-loop-saying l = record {
  few : l.count ≤ l.saying-index;
  counted : l.count ≡ votes (take l.saying-index l.sayings) l.variation;
}
