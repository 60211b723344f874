-- The periods have the days of the value's entries from the place on, and these entries are done.
use Rattle.std.proofs.Common.{◌≡◌, ℕ, ◌≤◌, ◌++◌, ◌∷◌, [], length, drop}
use Rattle.ssim_periods.specs.internal.Apart.{given_on, is_held}
use Rattle.ssim_periods.proofs.DoneLemmas.{AreMarked}
use Rattle.ssim_periods.proofs.apart_periods.entries.take_days_of_value.Given as goal

abbrev pub invariant-loop-place : goal.invariant-loop-place
invariant-loop-place g l = record {
  within : l.place ≤ length l.earlier;
  size : length l.done.items ≡ length l.fn.done.items;
  days : (n : ℕ) → is_held l.periods.items n ≡ given_on g.V.Value.alike (drop l.place l.earlier ++ l.entry ∷ []) l.entry.1 n;
  done : AreMarked g.V.Value.alike l.entry.1 l.earlier l.fn.done.items l.done.items l.place;
}

abbrev pub decreases-loop-place : goal.decreases-loop-place
decreases-loop-place g l = l.place
