use Rattle.std.proofs.Common.{[], unwrap_or, is_none, ap, sym, ◌∙◌}
use Rattle.std.specs.List.{insert}
use Rattle.ssim_periods.specs.internal.Rows.{place}
use Rattle.ssim_periods.specs.internal.Splits.{with_row}
use Rattle.ssim_periods.proofs.CutLemmas.{with_cut-insert, with_row-insert, with_cut-has, with_row-has}
use Rattle.ssim_periods.proofs.range_rows.patches.add_cut.Goals as goal

pub returns-in_default-insert-2-clause-cuts : goal.returns-in_default-insert-2-clause-cuts
returns-in_default-insert-2-clause-cuts g c =
    let cuts = c.args.cuts.now.items in let day = c.args.day in
    c.in_default-insert.ensures.items ∙ ap (λ p. insert cuts p day) c.place_of-place.ensures.place
    ∙ ap (λ cs. insert cuts (place cs day) day) c.deref.ensures.value
    ∙ with_cut-insert cuts day (sym c.requires.missing ∙ ap is_none c.in-Some.is)

pub returns-in_default-insert-2-clause-rows : goal.returns-in_default-insert-2-clause-rows
returns-in_default-insert-2-clause-rows g c =
    let cuts = c.args.cuts.now.items in let day = c.args.day in let rows = c.args.rows.now.items in
    c.in_default-insert-2.ensures.items ∙ ap (λ p. insert rows p c.in-Some.row) c.place_of-place.ensures.place
    ∙ ap (λ cs. insert rows (place cs day) c.in-Some.row) c.deref.ensures.value
    ∙ with_row-insert cuts day c.in-Some.row rows c.requires.row_count (sym c.requires.missing ∙ ap is_none c.in-Some.is)
    ∙ ap (λ o. with_row cuts day (unwrap_or o []) rows) (sym c.in-Some.is)

pub returns-in_default-clause-cuts : goal.returns-in_default-clause-cuts
returns-in_default-clause-cuts g c = sym (with_cut-has _ _ (sym c.requires.missing ∙ ap is_none c.in_default.is))

pub returns-in_default-clause-rows : goal.returns-in_default-clause-rows
returns-in_default-clause-rows g c = sym (with_row-has _ _ _ _ c.requires.row_count (sym c.requires.missing ∙ ap is_none c.in_default.is))
