-- The flights so far and those that are left are all.
use Rattle.std.proofs.Common.{◌≡◌, ℕ, ◌*◌, ◌/◌, ◌%◌, ◌++◌, Bool, slice_get}
use Rattle.ssim_base.specs.internal.LegTable.{flights_left, flights_of, has_legs, legs_in}
use Rattle.ssim_base.proofs.leg_table.push_all.Given as goal

abbrev pub invariant-loop-number : goal.invariant-loop-number
invariant-loop-number l =
    let has : ℕ → Bool = λ place. has_legs (legs_in (flights_of (slice_get l.numbers (place / 27))) (place % 27)) in
    l.all.items ++ flights_left has (27 * l.number) ≡ l.fn.all.items ++ flights_left has 0
