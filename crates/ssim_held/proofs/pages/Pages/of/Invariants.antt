-- The pages have the messages so far, and each has one.
use Rattle.std.proofs.Common.{◌≡◌, All}
use Rattle.ssim_held.specs.clauses.Pages.{IsFilled, all_of}
use Rattle.ssim_held.proofs.pages.Pages.of.Given as goal

abbrev pub invariant-loop-one : goal.invariant-loop-one
invariant-loop-one l = record {
  all : all_of l.pages.items ≡ l.yielded;
  filled : All IsFilled l.pages.items;
}
