-- A stable sort by day keeps the dates on a day in the order of their pieces.
use Rattle.std.proofs.Common.{◌≡◌, ◌∙◌, ◌<◌, ◌≤◌, length, ap, arith, rules}
use Rattle.std.proofs.lemmas.List.{take_all}
use Rattle.std.proofs.lemmas.List.Elements.{All-from_recursion, recursion_from_All}
use Rattle.std.proofs.lemmas.List.Sorted.{All-permutation, IsNonDecreasingBy-from_sort_by_key}
use Rattle.ssim_periods.specs.Calendar.{day_count}
use Rattle.ssim_listing.specs.internal.FlightDates.{dates_by_piece, seen_dates}
use Rattle.ssim_listing.proofs.Dating.{by_day, each_before_end, number_of}
use Rattle.ssim_listing.proofs.Ranked.{sorted_is, stable_from_sort}
use Rattle.ssim_listing.proofs.dates.dates_of.Goals as goal

pub returns : goal.returns
returns g c =
    let pieces = c.args.pieces.now in
    let dates = c.loop-piece.dates.items in let sorted = c.sort_by_key.new.self.items in
    let done : length pieces ≤ c.loop-piece.piece-index = omega arith in
    let are : seen_dates dates ≡ dates_by_piece pieces =
    c.loop-piece.invariant ∙ ap dates_by_piece (take_all c.loop-piece.piece-index pieces done) in
    let within = All-permutation (λ date. number_of date < day_count) dates sorted c.sort_by_key.ensures.permutation
    (All-from_recursion _ dates (each_before_end pieces dates are)) in
    by_day pieces dates sorted are
    (sorted_is number_of day_count dates sorted (recursion_from_All _ sorted within)
    (IsNonDecreasingBy-from_sort_by_key number_of _ c.in_ok-sort_by_key.ensures.sorted (λ a r q k. search rules))
    (stable_from_sort number_of dates sorted c.sort_by_key.ensures.stable (λ a r q k. search rules)))
