-- Lines that are rows are a table of these rows, and a table is read in one way.
use Rattle.std.proofs.Common.{◌≡◌, true, false, sym, ap, subst, ◌∙◌}
use Rattle.std.specs.List.{flat_map}
use Rattle.std.proofs.lemmas.List.Elements.{recursion_from_All}
use Rattle.ssim_base.specs.Stations.{SpellsTable}
use Rattle.ssim_held.specs.File.{IsRow, row_line}
use Rattle.ssim_held.proofs.SavedRows.{row_lines_are_table}
use Rattle.ssim_held.proofs.desk_file_reader.saved_rows.read_lines.Goals as goal

pub returns-else-are_saved-clause-none : goal.returns-else-are_saved-clause-none
returns-else-are_saved-clause-none c = λ rows all e.
    let same = c.in-Ok.ensures.only rows (subst (SpellsTable rows) (sym e) (row_lines_are_table rows (recursion_from_All IsRow rows all))) in
    let yes = c.are_saved.ensures.value.1 (e ∙ ap (flat_map row_line) (sym same ∙ sym c.rows.ensures)) in
    let never : true ≡ false = sym yes ∙ c.if-are_saved.false in cc

pub returns-in-Err-Stations-clause-none : goal.returns-in-Err-Stations-clause-none
returns-in-Err-Stations-clause-none c = λ rows all e.
    let same = c.in-Err-Stations.ensures.only rows (subst (SpellsTable rows) (sym e) (row_lines_are_table rows (recursion_from_All IsRow rows all))) in
    cc
