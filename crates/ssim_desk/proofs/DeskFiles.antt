-- The file of a desk from its parts, and that it can be saved.
use Rattle.std.proofs.Common.{◌≡◌, OnOk, Result, Ok, Err, All, List, ap, ◌∙◌}
use Rattle.ssim_records.specs.declared.record.Record.{Record}
use Rattle.ssim_base.specs.BaseSeen.{BaseSeen, base_with}
use Rattle.ssim_base.specs.SavedBase.{IsBaseRecords}
use Rattle.ssim_base.specs.Stations.{Row}
use Rattle.ssim_held.specs.File.{CanBeSaved, IsRow, IsSpelled, desk_file}
use Rattle.ssim_held.specs.Entries.{AreEntries, Entry}

pub file_is : (base : BaseSeen) (held es : List Entry) (records : List Record) (rows : List Row) → records ≡ base.records → rows ≡ base.rows → es ≡ held
    → desk_file (base_with records rows) es ≡ desk_file base held
file_is base held es records rows records_are rows_are held_is =
    ap (λ (rs : List Record). desk_file (base_with rs rows) es) records_are ∙ ap (λ (r : List Row). desk_file (base_with base.records r) es) rows_are ∙ ap (λ (xs : List Entry). desk_file base xs) held_is

pub from_parts : {T E : Type 0} (r : Result T E) (base : BaseSeen) (entries : List Entry) → AreEntries base.records entries
    → IsBaseRecords base.records → OnOk r (All IsRow base.rows) → OnOk r (All IsSpelled entries) → OnOk r (CanBeSaved base entries)
from_parts (Ok x) base entries are is_base rows spelled = record { is_base = is_base; rows = rows; entries_are = are; spelled = spelled }
from_parts (Err e) base entries are is_base rows spelled = tt
