-- The values are those of the record.
use Rattle.std.proofs.Common.{◌≡◌, ◌∙◌, ◌∷◌, List, ℕ, OnOk, ap, subst}
use Rattle.ssim_sql.specs.SegmentRows.{segment_row, segment_values}
use Rattle.ssim_sql.specs.Statements.{row_of}
use Rattle.ssim_sql.specs.internal.Tables.{script_with}
use Rattle.ssim_sql.proofs.segment_rows.SegmentTailNumberedLegOf.put_at.Goals as goal

pub returns : goal.returns
unfolding segment_row
returns c =
    let of = c.args.of.now in
    subst (λ (values : List (List ℕ)). OnOk c.put_row.result ((later : List (List ℕ))
    → script_with c.put_row.new.table later
    ≡ script_with c.args.table.now (row_of of.name.now values ∷ later)))
    (c.segment_values-values.ensures
    ∙ ap (segment_values of.flight.now of.first of.sequence c.args.number) c.bytes-bytes.ensures.value)
    c.put_row.ensures
