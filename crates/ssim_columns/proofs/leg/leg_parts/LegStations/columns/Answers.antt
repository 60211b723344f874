-- The written stations and variations are the rows of the definition.
use Rattle.std.proofs.Common.{refl}
use Rattle.ssim_columns.specs.LegParts.{station_columns}
use Rattle.ssim_columns.proofs.leg.leg_parts.LegStations.columns.Goals as goal

pub returns-clause-value : goal.returns-clause-value
unfolding station_columns
returns-clause-value c = rw (c.join.ensures, c.write.ensures.value, c.write-2.ensures.value, c.write-3.ensures.value, c.write-4.ensures.value) refl
