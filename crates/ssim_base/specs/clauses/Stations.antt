-- What reading a station table returns.
use Rattle.std.specs.Prelude.{◌≡◌, List, Result, Ok, Err}
use Rattle.ssim_base.specs.declared.stations.StationFault.{StationFault}
use Rattle.ssim_base.specs.declared.stations.StationFault.TheVariants.{Memory}
use Rattle.ssim_base.specs.Stations.{Row}

-- the result of reading a table: these rows, unless memory is refused
abbrev pub GivesRows : List Row → Result (List Row) StationFault → Type 0
GivesRows rows (Ok answer) = answer ≡ rows
GivesRows rows (Err fault) = fault ≡ Memory
