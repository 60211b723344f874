-- A stable sort by rank.
use Rattle.std.proofs.Common.{rules}
use Rattle.std.proofs.lemmas.List.Sorted.{IsNonDecreasingBy-from_sort_by_key}
use Rattle.ssim_outbox.specs.internal.Sorted.{rank}
use Rattle.ssim_outbox.proofs.Sorted.{stable_ranks}
use Rattle.ssim_outbox.proofs.plan_order.in_order.Goals as goal

pub returns : goal.returns
returns c =
    record {
      permutation = c.sort_by_key.ensures.permutation;
      rising = IsNonDecreasingBy-from_sort_by_key rank _ c.in_ok-sort_by_key.ensures.sorted
          (λ a r q k. search rules);
      stable = stable_ranks c.args.subs.items c.sort_by_key.new.self.items c.sort_by_key.ensures.stable
          (λ a r q k. search rules);
    }
