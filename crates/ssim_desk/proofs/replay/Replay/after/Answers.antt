use Rattle.std.proofs.Common.{◌/◌, ◌+◌, ◌%◌, ap, sym, subst, arith}
use Rattle.ssim_desk.specs.internal.Changes.{AreCheckpoints, IsAfter}
use Rattle.ssim_desk.proofs.Trails.{nothing_kept}
use Rattle.ssim_desk.proofs.replay.Replay.after.Goals as goal

pub returns-clause-nothing : goal.returns-clause-nothing
returns-clause-nothing c base entries is after =
    let from = c.args.from in
    record {
      within = omega arith;
      latest_is = subst (IsAfter base entries) (sym c.in_ok-copy.ensures) after;
      kept = subst (AreCheckpoints base entries (from / 32 + 1)) (sym c.new.ensures.items) (nothing_kept base entries from is);
      since_is = ap (λ n. n % 32) is;
    }
