-- The first fault of the tables from one on is that of the table, or else of those after it.
use Rattle.ssim_columns.proofs.lemmas.Rows.{in_later_table, in_table}
use Rattle.ssim_columns.proofs.field.first_fault_of.Goals as goal

pub returns-in-Some : goal.returns-in-Some
returns-in-Some c = in_table (λ table. table.now) c.args.bytes.now c.args.tables.now c.loop-table.table-index _ c.first_fault.result _ c.in-Some.column c.loop-table-test.true c.loop-table.invariant c.first_fault.ensures c.in-Some.is

pub loop-table-preserved : goal.loop-table-preserved
loop-table-preserved c = in_later_table (λ table. table.now) c.args.bytes.now c.args.tables.now c.loop-table.table-index _ c.first_fault.result _ c.loop-table-test.true c.loop-table.invariant c.first_fault.ensures c.in-None.is
