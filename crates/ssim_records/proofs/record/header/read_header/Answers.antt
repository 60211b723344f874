-- Each field is valid if the table has no fault, and one record is spelt.
use Rattle.std.proofs.Common.{◌≡◌, sym, ◌∙◌}
use Rattle.ssim_records.specs.Header.{header_table}
use Rattle.ssim_columns.proofs.lemmas.Rows.{each_stands, none_fault}
use Rattle.ssim_records.proofs.Headers.{one_header}
use Rattle.ssim_records.proofs.record.header.read_header.Goals as goal

pub header_of-requires-clause-valid : goal.header_of-requires-clause-valid
header_of-requires-clause-valid c = each_stands c.args.bytes.now header_table (sym c.header_fault.ensures ∙ c.in-None.is)

pub returns-in-None-clause-only : goal.returns-in-None-clause-only
returns-in-None-clause-only c = λ r p. let e : c.header_of.result ≡ r = one_header c.args.bytes.now c.header_of.result r c.header_of.ensures p in cc

pub returns-in-Some-clause-only : goal.returns-in-Some-clause-only
returns-in-Some-clause-only c = λ r p. let e = none_fault c.args.bytes.now header_table p.valid in absurd cc
