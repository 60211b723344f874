-- The legs of the sequence.
use Rattle.std.proofs.Common.{◌∙◌, ◌++◌, Option, ap₂}
use Rattle.std.proofs.lemmas.Result.{on_ok_weaker}
use Rattle.ssim_base.specs.Timetable.{LegValue}
use Rattle.ssim_difference.specs.Rows.{pair_rows}
use Rattle.ssim_difference.specs.internal.RowHeads.{fields_of}
use Rattle.ssim_difference.proofs.rows.RowPairsRowedAt.put_at.Goals as goal

pub returns : goal.returns
returns c =
    let so_far = c.args.rows.now in
    let head = fields_of c.args.self.now.head in
    on_ok_weaker c.push_pair.result
    (λ added. added
    ∙ ap₂ (λ (old new : Option LegValue). so_far ++ pair_rows head old new)
    c.leg_at-old.ensures c.leg_at-new.ensures)
    c.push_pair.ensures
