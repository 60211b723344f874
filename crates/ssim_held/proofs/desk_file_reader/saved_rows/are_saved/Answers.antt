-- Row by row, as far as the lines are those of the rows.
use Rattle.std.proofs.Common.{◌∙◌, ◌++◌, List, ℕ, ap, sym, arith}
use Rattle.std.proofs.lemmas.List.Elements.{All-from_recursion}
use Rattle.ssim_held.specs.File.{IsRow, row_line}
use Rattle.ssim_held.proofs.SavedElements.{each_all, each_more, meets_first, meets_more, meets_none, meets_end}
use Rattle.ssim_held.proofs.desk_file_reader.saved_rows.are_saved.Goals as goal

pub loop-row-init : goal.loop-row-init
loop-row-init c = record { meets = meets_first row_line c.args.rows.now c.args.lines.now; rows = tt }

pub loop-row-preserved : goal.loop-row-preserved
loop-row-preserved c = record {
  meets = meets_more row_line c.args.rows.now c.args.lines.now c.loop-row.row-index c.row-item.result c.loop-row.rest.now c.in-Some.after.now c.loop-row-test.true c.row-item.is c.loop-row.invariant.meets
      (c.in-Some.ensures.some ∙ ap (λ (xs : List ℕ). xs ++ c.in-Some.after.now) c.write_row.ensures.value);
  rows = each_more IsRow c.args.rows.now c.loop-row.row-index c.row-item.result c.loop-row-test.true c.row-item.is c.loop-row.invariant.rows c.write_row.ensures.is_row;
}

pub returns-in-None-clause-value : goal.returns-in-None-clause-value
returns-in-None-clause-value c = (
  λ never. absurd cc,
  λ all. absurd (meets_none row_line c.args.rows.now c.args.lines.now c.loop-row.row-index c.row-item.result c.loop-row.rest.now c.loop-row-test.true c.row-item.is c.loop-row.invariant.meets
      (λ later e. c.in-None.ensures.only later (e ∙ ap (λ (xs : List ℕ). xs ++ later) (sym c.write_row.ensures.value))) all),
)

pub returns-in-None-clause-rows : goal.returns-in-None-clause-rows
returns-in-None-clause-rows c = λ never. absurd cc

pub returns-clause-value : goal.returns-clause-value
returns-clause-value c = rw c.is_empty.ensures (meets_end row_line c.args.rows.now c.args.lines.now c.loop-row.row-index c.loop-row.rest.now (omega arith) c.loop-row.invariant.meets)

pub returns-clause-rows : goal.returns-clause-rows
returns-clause-rows c = λ all. All-from_recursion IsRow c.args.rows.now (each_all IsRow c.args.rows.now c.loop-row.row-index (omega arith) c.loop-row.invariant.rows)
