-- The messages are applied to the base's schedule, which is the first checkpoint.
use Rattle.std.proofs.Common.{◌≡◌, ◌∷◌, [], ◌∙◌, refl, arith}
use Rattle.std.proofs.lemmas.Grind.{common_steps}
use Rattle.ssim_schedule.specs.clauses.Schedule.{cuts_in}
use Rattle.ssim_desk.specs.internal.Changes.{IsAfter}
use Rattle.ssim_desk.proofs.Points.{begun_at}
use Rattle.ssim_desk.proofs.Trails.{made}
use Rattle.ssim_desk.proofs.schedules.Schedules.of.Goals as goal

pub returns-clause-is : goal.returns-clause-is
returns-clause-is c =
    let base = c.args.base.now in let held = c.args.held.now in
    let began = c.in_ok-began.began in let r = c.apply_all.new.self in
    let after : IsAfter base [] began = record { shows = c.in_ok-began.ensures.days; cuts = λ g is. begun_at base g (cuts_in began g) (c.in_ok-began.ensures.cuts g is) } in
    let replay = c.in_ok-apply_all.ensures.applied [] (c.in_ok-replay.ensures.nothing base [] refl after) in
    let checkpoints : c.append.new.self.items ≡ began ∷ r.checkpoints.items = grind (arith, common_steps) in
    made base held began r _ after replay
    (c.in_ok-apply_all.ensures.from ∙ c.in_ok-replay.ensures.from) refl checkpoints
