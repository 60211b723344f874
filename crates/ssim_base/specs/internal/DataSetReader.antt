-- What is known of the records of a data set so far.
use Rattle.std.specs.Prelude.{◌≡◌, ℕ, ◌+◌, not, nat_eq, List, [], ◌++◌, reverse, length, map, Option, None}
use Rattle.std.specs.List.{All}
use Rattle.ssim_records.specs.clauses.Reading.{Reading}
use Rattle.ssim_records.specs.Record.{IsRecord, serial_of}
use Rattle.ssim_records.specs.declared.record.Record.{Record}
use Rattle.ssim_base.specs.Base.{Ending, Done, kept_all, first_refusal, note_if, check_notes, notes_of}
use Rattle.ssim_base.specs.internal.Acceptance.{HasAccepted}
use Rattle.ssim_base.specs.internal.Reading.{AreGivenOf}
use Rattle.ssim_base.specs.declared.data_set.reader.DataSetReader.{DataSetReader}
use Rattle.ssim_base.specs.declared.note.Note.{Note}
use Rattle.ssim_base.specs.declared.note.Note.TheVariants.{Serial}

-- a reading of which nothing came
abbrev pub unread : ℕ → Reading
unread limit = record { limit = limit; came = 0; number = 0; held = []; ended = None }

-- the notes of one record
abbrev pub notes_at : ℕ → ℕ → Record → List Note
notes_at number previous r =
    note_if (not (nat_eq (serial_of r) (previous + 1))) (Serial number)
    ++ check_notes number previous r

-- The reader's state has exactly these earlier records and their notes. Reading the numbered
-- records done and then any later ones gives the same as reading the later ones from this state.
pub record IsSoFar (g : DataSetReader) (earlier : List Record)
    (done : List (ℕ × Record)) : Type 0 where
  pub is_kept : HasAccepted g.kept earlier
  pub records : All (λ r. IsRecord r.1) done
  pub refused : (ending : Ending) (later : List (ℕ × Record))
      → first_refusal ending [] (done ++ later) ≡ first_refusal ending earlier later
  pub kept : (later : List (ℕ × Record))
      → kept_all [] (map (λ r. r.1) (done ++ later))
      ≡ reverse earlier ++ kept_all earlier (map (λ r. r.1) later)
  pub noted : (later : List (ℕ × Record))
      → notes_of 0 (done ++ later) ≡ g.notes.items ++ notes_of g.previous later

-- the list has these records, the latest of which comes first
abbrev pub IsListOf : List Record → List Record → Type 0
IsListOf records earlier = records ≡ reverse earlier

-- this is the number of these records
abbrev pub IsCountOf : ℕ → List Record → Type 0
IsCountOf count earlier = count ≡ length earlier

-- The records done are those of the bytes before the record with this number. If the bytes are not
-- reported, nothing is said of them. `Has` says which records are in a list or counted.
pub record HasRead (limit : ℕ) (known : Option (List ℕ)) (Has : List Record → Type 0)
    (g : DataSetReader) (number : ℕ) : Type 0 where
  pub earlier : List Record
  pub done : List (ℕ × Record)
  pub has : Has earlier
  pub so_far : IsSoFar g earlier done
  pub given : AreGivenOf limit known done (Done number)

-- the reader's state is the state after some records, and these are in a list or counted
pub record IsWhole (Has : List Record → Type 0) (g : DataSetReader) : Type 0 where
  pub earlier : List Record
  pub done : List (ℕ × Record)
  pub has : Has earlier
  pub so_far : IsSoFar g earlier done
