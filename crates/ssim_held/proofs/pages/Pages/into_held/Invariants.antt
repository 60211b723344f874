-- The messages of the pages so far.
use Rattle.std.proofs.Common.{◌≡◌}
use Rattle.ssim_held.specs.clauses.Pages.{all_of}
use Rattle.ssim_held.proofs.pages.Pages.into_held.Given as goal

abbrev pub invariant-loop-page : goal.invariant-loop-page
invariant-loop-page l = l.held.items ≡ all_of l.yielded
