-- How the parts of a desk file are read.
use Rattle.std.specs.Prelude.{◌≡◌, ℕ, Bool, true, false, ◌==◌, if◌then◌else◌, List, [], ◌∷◌, ◌++◌, codes, All}
use Rattle.std.specs.List.{list_all}
use Rattle.ssim_records.specs.Record.{written}
use Rattle.ssim_records.specs.declared.record.Record.{Record}
use Rattle.ssim_base.specs.declared.data_set.saved_lines.SavedFault.{SavedFault}
use Rattle.ssim_base.specs.declared.data_set.saved_lines.SavedFault.TheVariants as fault
use Rattle.ssim_text.specs.Canonical.{canonical}
use Rattle.ssim_values.specs.Characters.{is_digit}
use Rattle.ssim_held.specs.File.{HasNoOriginator, IsSpelled, counted}
use Rattle.ssim_held.specs.Entries.{AreEntries, AreRising, Entry, IsEntry}
use Rattle.ssim_held.specs.declared.desk_file_reader.version.FileVersion.{FileVersion}
use Rattle.ssim_held.specs.declared.desk_file_reader.version.FileVersion.TheVariants.{One, Two}

-- if an element is invalid, this holds
abbrev pub IfInvalid : SavedFault → Type 0 → Type 0
IfInvalid fault.Memory P = Unit {0}
IfInvalid (fault.Read stop) P = Unit {0}
IfInvalid (fault.Invalid offset) P = P

-- no element is invalid
abbrev pub IsNotInvalid : SavedFault → Type 0
IsNotInvalid e = IfInvalid e ⊥

-- whether there are no bytes
abbrev pub is_empty : List ℕ → Bool
is_empty [] = true
is_empty (b ∷ rest) = false

-- a decimal number without leading zeros, however long
abbrev pub is_number : List ℕ → Bool
is_number [] = false
is_number (b ∷ rest) = if b == 48 then is_empty rest else list_all is_digit (b ∷ rest)

-- the number of a file's version
abbrev pub version_number : FileVersion → ℕ
version_number One = 1
version_number Two = 2

-- the first line of a file of this version
abbrev pub first_line : FileVersion → List ℕ
first_line version = counted (codes "SSIMDESK") (version_number version)

-- a record as it is written, 201 bytes. The records of a base have serial and check reference 0,
-- and blank rates and overflows.
abbrev pub record_line : Record → List ℕ
record_line r = written r ++ 10 ∷ []

-- a message that a file of the version may hold: version 1 knows no originators
abbrev pub IsOf : FileVersion → Entry → Type 0
IsOf One e = HasNoOriginator e
IsOf Two e = Unit {0}

-- the bytes are the canonical text of a message as the base resolves it
pub record IsTextOf (records : List Record) (text : List ℕ) (e : Entry) : Type 0 where
  pub entry : IsEntry records e
  pub spelled : IsSpelled e
  pub text_is : text ≡ canonical e.message

-- messages that a file of the version may hold
pub record AreHeld (version : FileVersion) (records : List Record)
    (entries : List Entry) : Type 0 where
  pub entries_are : AreEntries records entries
  pub spelled : All IsSpelled entries
  pub of_version : All (IsOf version) entries

-- a message that a file of the version may hold after the earlier messages
pub record IsNextText (version : FileVersion) (records : List Record) (held : List Entry)
    (e : Entry) : Type 0 where
  pub entry : IsEntry records e
  pub spelled : IsSpelled e
  pub rising : AreRising (held ++ e ∷ [])
  pub of_version : IsOf version e
