-- What follows the first messages is put after what is kept of them.
use Rattle.std.proofs.Common.{◌≡◌, ◌+◌, ◌/◌, ◌++◌, refl, take, arith}
use Rattle.std.proofs.lemmas.Grind.{common_steps}
use Rattle.ssim_desk.proofs.Trails.{put_in_place}
use Rattle.ssim_desk.proofs.schedules.Schedules.put.Goals as goal

pub returns-clause-is : goal.returns-clause-is
returns-clause-is c base held rest at place low history replay =
    let old = c.args.self.now in let r = c.args.replay in
    let checkpoints : c.append.new.self.items
    ≡ take (r.from / 32 + 1) old.checkpoints.items ++ r.checkpoints.items = grind (arith, common_steps) in
    put_in_place base held rest at r old _ place low history replay refl checkpoints
