-- A stable sort by rank.
use Rattle.std.proofs.Common.{rules}
use Rattle.std.proofs.lemmas.List.Elements.{recursion_from_All}
use Rattle.std.proofs.lemmas.List.Sorted.{All-permutation, IsNonDecreasingBy-from_sort_by_key}
use Rattle.ssim_board.specs.internal.Ranks.{rank}
use Rattle.ssim_board.proofs.InMinutes.{IsRanked, sorted_by_time}
use Rattle.ssim_board.proofs.Ranked.{stable_from_sort}
use Rattle.ssim_board.proofs.in_order.in_order.Goals as goal

pub returns : goal.returns
returns c =
    let xs = c.args.movements.items in
    let ys = c.sort_by_key.new.self.items in
    sorted_by_time xs ys (recursion_from_All IsRanked ys (All-permutation IsRanked xs ys c.sort_by_key.ensures.permutation c.requires))
    (IsNonDecreasingBy-from_sort_by_key rank _ c.in_ok-sort_by_key.ensures.sorted (λ a r q k. search rules))
    (stable_from_sort rank xs ys c.sort_by_key.ensures.stable (λ a r q k. search rules))
