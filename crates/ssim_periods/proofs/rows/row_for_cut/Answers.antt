use Rattle.std.proofs.Common.{◌∷◌, slice_index_or, ap, sym, ◌∙◌}
use Rattle.ssim_periods.proofs.RowLemmas.{row_on-place}
use Rattle.ssim_periods.proofs.rows.row_for_cut.Goals as goal

pub returns-clause-row : goal.returns-clause-row
returns-clause-row g c =
    let before = c.args.before.now in let rows = c.args.rows.now in
    c.in_ok-copy_row.ensures ∙ c.row_at.ensures before ∙ ap (λ p. slice_index_or (before ∷ rows) p before) c.place_of-place.ensures.place
    ∙ sym (row_on-place before c.args.cuts.now rows c.args.day before c.requires.row_count)
