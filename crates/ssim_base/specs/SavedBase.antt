-- What the records of a base are, and how they are read again once they are written.
use Rattle.std.specs.Prelude.{◌≡◌, ◌⊎◌, ℕ, ◌≤◌, List, [], ◌∷◌, ◌++◌, map, length, Ok, IsSome}
use Rattle.std.specs.List.{All, flat_map}
use Rattle.ssim_records.specs.Record.{IsRecord, written}
use Rattle.ssim_records.specs.declared.record.Record.{Record}
use Rattle.ssim_records.specs.declared.record.Record.TheVariants.{Header, Carrier, Leg, Segment, Trailer}
use Rattle.ssim_base.specs.Base.{Done, Outcome, data_set, notes_of}
use Rattle.ssim_base.specs.Export.{Frame}
use Rattle.ssim_base.specs.ReadBack.{HasFrame}
use Rattle.ssim_base.specs.Reading.{FailedReader, IsReadAs}
use Rattle.ssim_base.specs.declared.note.Note.{Note}

-- a record without serial, check reference, rate and overflow; the end of a leg is a date
abbrev pub IsBare : Record → Type 0
IsBare (Header r) = r.serial ≡ 0
IsBare (Carrier r) = r.serial ≡ 0
IsBare (Leg r) = (r.serial ≡ 0) × (r.rate ≡ 32) × (r.overflow ≡ 32) × IsSome r.last
IsBare (Segment r) = (r.serial ≡ 0) × (r.overflow ≡ 32)
IsBare (Trailer r) = (r.serial ≡ 0) × (r.check ≡ 0)

-- The records of a base: a header, a carrier, then legs and segments, then a trailer. Each can be
-- written, and is bare. As a data set they are read as themselves, whatever their numbers.
pub record IsBaseRecords (base : List Record) : Type 0 where
  pub framed : (frame : Frame) × HasFrame frame base
  pub each_written : All IsRecord base
  pub each_bare : All IsBare base
  pub read_again : (number : ℕ) (records : List (ℕ × Record)) → map (λ r. r.1) records ≡ base
      → data_set (Done number) records ≡ Ok (base, notes_of 0 records)

-- each record as it is written, followed by LF
abbrev pub saved : List Record → List ℕ
saved = flat_map (λ r. written r ++ 10 ∷ [])

-- the outcome has these records, with any notes
abbrev pub IsOfRecords : List Record → Outcome → Type 0
IsOfRecords base outcome = (notes : List Note) × (outcome ≡ Ok (base, notes))

-- Saved records can be read as the same records.
abbrev pub SavedCanBeRead : Type 0
SavedCanBeRead =
    (base : List Record) (limit : ℕ) → IsBaseRecords base → length (saved base) ≤ limit
    → (notes : List Note) × IsReadAs limit (saved base) (Ok (base, notes))

-- Saved records are read only as the same records, unless the reader fails.
abbrev pub SavedIsRead : Type 0
SavedIsRead =
    (base : List Record) (limit : ℕ) (outcome : Outcome) → IsBaseRecords base
    → length (saved base) ≤ limit → IsReadAs limit (saved base) outcome
    → IsOfRecords base outcome ⊎ FailedReader outcome

-- Equal saved bytes are the bytes of equal records.
abbrev pub SavedIsOne : Type 0
SavedIsOne =
    (base other : List Record) → IsBaseRecords base → IsBaseRecords other → saved base ≡ saved other
    → base ≡ other
