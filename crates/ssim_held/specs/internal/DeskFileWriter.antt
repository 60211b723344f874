-- How the parts of a desk file are written.
use Rattle.std.specs.Prelude.{List, ◌++◌, ℕ, codes}
use Rattle.ssim_base.specs.Stations.{Row}
use Rattle.ssim_records.specs.declared.record.Record.{Record}
use Rattle.ssim_held.specs.File.{counted, records_part, rows_part}

-- the first line, and what a base has in a desk file
abbrev pub base_part : List Record → List Row → List ℕ
base_part records rows = counted (codes "SSIMDESK") 2 ++ (records_part records ++ rows_part rows)
