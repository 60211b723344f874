-- The reference belongs after the first message of page `low`, and before page `high`.
use Rattle.std.proofs.Common.{◌<◌, ◌≤◌, ◌-◌, length}
use Rattle.ssim_held.specs.clauses.Ordered.{Belongs}
use Rattle.ssim_held.specs.clauses.Pages.{all_of, position_on}
use Rattle.ssim_held.proofs.pages.page_of.Given as goal

abbrev pub invariant-loop-high : goal.invariant-loop-high
invariant-loop-high l = record {
  some : l.low < l.high;
  within : l.high ≤ length l.pages;
  belongs : Belongs (all_of l.pages) l.reference (position_on l.pages l.low 0) (position_on l.pages l.high 0);
}

abbrev pub decreases-loop-high : goal.decreases-loop-high
decreases-loop-high l = l.high - l.low
