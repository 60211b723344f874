-- Each field is valid if the table has no fault, and one record is spelt.
use Rattle.std.proofs.Common.{◌≡◌, sym, ◌∙◌}
use Rattle.ssim_records.specs.Trailer.{trailer_table}
use Rattle.ssim_columns.proofs.lemmas.Rows.{each_stands, none_fault}
use Rattle.ssim_records.proofs.Trailers.{one_trailer}
use Rattle.ssim_records.proofs.record.trailer.read_trailer.Goals as goal

pub trailer_of-requires-clause-valid : goal.trailer_of-requires-clause-valid
trailer_of-requires-clause-valid c = each_stands c.args.bytes.now trailer_table (sym c.trailer_fault.ensures ∙ c.in-None.is)

pub returns-in-None-clause-only : goal.returns-in-None-clause-only
returns-in-None-clause-only c = λ r p. let e : c.trailer_of.result ≡ r = one_trailer c.args.bytes.now c.trailer_of.result r c.trailer_of.ensures p in cc

pub returns-in-Some-clause-only : goal.returns-in-Some-clause-only
returns-in-Some-clause-only c = λ r p. let e = none_fault c.args.bytes.now trailer_table p.valid in absurd cc
