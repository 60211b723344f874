-- Sub-messages as the code sorts them.
use Rattle.std.specs.Prelude.{◌≡◌, ℕ, ◌+◌, ◌*◌, ◌==◌, List}
use Rattle.std.specs.List.{filter}
use Rattle.std.specs.List.Sorted.{IsNonDecreasingBy, IsPermutation}
use Rattle.ssim_outbox.specs.declared.planned_sub.PlannedSub.{PlannedSub}

-- the rank of a sub-message: by flight number, then by suffix, then by first day
abbrev pub rank : PlannedSub → ℕ
rank sub = (sub.flight.number * 128 + sub.flight.suffix) * 65536 + sub.period.first

-- the same sub-messages by rank, and those of one rank in their old order
pub record AreSorted (subs sorted : List PlannedSub) : Type 0 where
  pub permutation : IsPermutation subs sorted
  pub rising : IsNonDecreasingBy rank sorted
  pub stable : (like : PlannedSub)
      → filter (λ sub. rank sub == rank like) sorted ≡ filter (λ sub. rank sub == rank like) subs
