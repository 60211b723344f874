-- The messages between the checkpoint and the position are applied.
use Rattle.std.proofs.Common.{◌≤◌, List, sym, refl, subst, take, length, arith}
use Rattle.ssim_held.specs.Entries.{Entry}
use Rattle.ssim_desk.specs.internal.Changes.{IsReplay}
use Rattle.ssim_desk.proofs.Trails.{length-front, split}
use Rattle.ssim_desk.proofs.schedules.Schedules.replay_to.Goals as goal

pub schedule-requires-clause-schedules : goal.schedule-requires-clause-schedules
schedule-requires-clause-schedules c = (c.args.base.now, c.args.held.now, c.requires.is, refl)

pub returns-clause-replay : goal.returns-clause-replay
returns-clause-replay c =
    let base = c.args.base.now in let held = c.args.held.now in let at = c.args.at in
    let from = c.start-from.result in
    let low : from ≤ length held = omega (arith, c.start-from.ensures.low, c.requires.within) in
    let begun = c.schedule.ensures base held refl c.requires.is in
    let first = c.in_ok-replay.ensures.nothing base (take from held) (sym (length-front held from low)) begun in
    subst (λ (es : List Entry). IsReplay base es c.apply_all.new.self) (split held from at c.start-from.ensures.low)
    (c.in_ok-apply_all.ensures.applied (take from held) first)
