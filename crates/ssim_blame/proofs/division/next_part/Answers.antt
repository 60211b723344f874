-- No row of a station of the new legs begins or ends within the part.
use Rattle.ssim_schedule.proofs.Acts.{uniform_part}
use Rattle.ssim_blame.proofs.division.next_part.Goals as goal

pub returns-clause-uniform : goal.returns-clause-uniform
returns-clause-uniform c =
    uniform_part c.args.rows.now c.args.action.now c.part_of.result c.args.from
    c.next_point-next.result c.part_of.ensures.first c.part_of.ensures.last
    c.next_point-next.ensures.steady
