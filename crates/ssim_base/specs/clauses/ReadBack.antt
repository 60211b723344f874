-- The records of a base that an export reads back as, and when it can be read back.
use Rattle.std.specs.Prelude.{List, [], ◌++◌, map, length, replicate, Option, Some, None}
use Rattle.std.specs.List.{flat_map}
use Rattle.ssim_values.specs.Flight.{FlightNumber}
use Rattle.ssim_records.specs.declared.record.Record.{Record}
use Rattle.ssim_base.specs.Timetable.{Days}
use Rattle.ssim_base.specs.Base.{kept_all}
use Rattle.ssim_base.specs.Export.{fill_count}
use Rattle.ssim_base.specs.ReadBack.{IsTimetable, AreWritable}

-- the records of an export, in the order in which they are read
abbrev pub records_of : List (List Record) → List Record
records_of sections = flat_map (λ s. s) sections

-- the records of the base that an export is read as
abbrev pub base_of : List Record → List Record
base_of records = kept_all [] records

-- ---- on bytes

-- the records of an export, each as `Some`, followed by its records of fill, each as `None`
abbrev pub section_items : List Record → List (Option Record)
section_items records = map (λ r. Some r) records ++ replicate (fill_count (length records)) None

-- the records and the fill of all sections, in the order of the bytes
abbrev pub items_of : List (List Record) → List (Option Record)
items_of = flat_map section_items

-- a timetable can be exported and read back: each day has its legs by rising sequence, with columns
-- and tails that records may have
pub record CanReadBack (days : FlightNumber → Days) : Type 0 where
  pub timetable : IsTimetable days
  pub legs : AreWritable days
