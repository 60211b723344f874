-- Each field is valid if the table has no fault, and one record is spelt.
use Rattle.std.proofs.Common.{◌≡◌, sym, ◌∙◌}
use Rattle.ssim_records.specs.Carrier.{carrier_table}
use Rattle.ssim_columns.proofs.lemmas.Rows.{each_stands, none_fault}
use Rattle.ssim_records.proofs.Carriers.{one_carrier}
use Rattle.ssim_records.proofs.record.carrier.read_carrier.Goals as goal

pub carrier_of-requires-clause-valid : goal.carrier_of-requires-clause-valid
carrier_of-requires-clause-valid c = each_stands c.args.bytes.now carrier_table (sym c.carrier_fault.ensures ∙ c.in-None.is)

pub returns-in-None-clause-only : goal.returns-in-None-clause-only
returns-in-None-clause-only c = λ r p. let e : c.carrier_of.result ≡ r = one_carrier c.args.bytes.now c.carrier_of.result r c.carrier_of.ensures p in cc

pub returns-in-Some-clause-only : goal.returns-in-Some-clause-only
returns-in-Some-clause-only c = λ r p. let e = none_fault c.args.bytes.now carrier_table p.valid in absurd cc
