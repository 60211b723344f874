-- The values are those of the period and of the leg.
use Rattle.std.proofs.Common.{◌≡◌, ◌∙◌, ◌++◌, ◌∷◌, List, ℕ, OnOk, subst}
use Rattle.ssim_sql.specs.LegRows.{leg_row, leg_values}
use Rattle.ssim_sql.specs.Statements.{row_of}
use Rattle.ssim_sql.specs.internal.Tables.{script_with}
use Rattle.ssim_sql.proofs.leg_rows.put_leg.Goals as goal

pub returns : goal.returns
unfolding leg_row
returns c =
    let of = c.args.of.now in
    let values = c.leg_values-values.ensures
    ∙ (λ k. leg_values of.mode (c.sequence.ensures.value k) (c.columns-columns.ensures k)) in
    subst (λ (values : List (List ℕ)). OnOk c.put_long_row.result ((later : List (List ℕ))
    → script_with c.put_long_row.new.table later
    ≡ script_with c.args.table.now (row_of of.name.now values ∷ later)))
    (λ k. c.period_values-period.ensures k ++ values k)
    c.put_long_row.ensures
