-- The bytes that a fetch brings were the first of those that were left.
use Rattle.std.proofs.Common.{ℕ, List, subst, arith}
use Rattle.std.proofs.lemmas.Grind.{common_steps}
use Rattle.ssim_records.specs.clauses.Blocks.{SameAhead}
use Rattle.ssim_records.proofs.Framing.{came_fetched, came_twice, left_less}
use Rattle.ssim_records.proofs.blocks.skip_rest.Goals as goal

pub loop-came-preserved : goal.loop-came-preserved
loop-came-preserved g c =
    let i = c.loop-came.invariant in
    record {
      came_fits = grind (arith, common_steps);
      more = grind (arith, common_steps);
      left =
          left_less _ _ _ c.fetch.new.self i.left
          (subst (λ (held : List ℕ). SameAhead held (g.R.Source.state c.loop-came.reader).left c.fetch.new.self (g.R.Source.state c.fetch.new.reader).left) c.clear.ensures c.fetch.ensures.ahead);
      bytes =
          came_twice _ _ _ _ _ _ _ _ _ i.bytes
          (came_fetched c.clear.new.self c.fetch.new.self _ _ _ _ c.loop-came.came c.in-Ok.n
          c.fetch.ensures.ahead c.in-Ok.ensures.ok.1 c.in-Ok.ensures.count);
      no_failure = grind (arith, common_steps);
    }
