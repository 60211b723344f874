-- What `explain` prints: for a number or a name the line of a refusal that has it; for a file the line
-- of its refusal, of the other program that made it, or of the mailbox that it is; and then an
-- explanation.
use Rattle.std.specs.Prelude.{◌≡◌, ◌⊎◌, ℕ, ◌==◌, Bool, false, true, ◌&&◌}
use Rattle.std.specs.Prelude.{List, [], ◌∷◌, ◌++◌, drop, map, Option, Some, None}
use Rattle.std.specs.Prelude.{Ok, Err, if◌then◌else◌, codes}
use Rattle.std.specs.Char.{is_ascii_whitespace, to_ascii_lowercase}
use Rattle.std.specs.Fmt.{decimal}
use Rattle.std.specs.List.{prefix_len}
use Rattle.std.specs.Str.{bytes_eq}
use Rattle.ssim_values.specs.Characters.{is_digit, two_digits_of}
use Rattle.ssim_records.specs.declared.record.Record.{Record}
use Rattle.ssim_base.specs.Export.{line}
use Rattle.ssim_base.specs.Reading.{IsReadAs}
use Rattle.ssim_base.specs.Stations.{NamesLine, Row, SpellsTable}
use Rattle.ssim_base.specs.declared.fault.BaseFault.{BaseFault}
use Rattle.ssim_base.specs.declared.note.Note.{Note}
use Rattle.ssim_base.specs.declared.stations.StationFault.{StationFault}
use Rattle.ssim_text.specs.Bytes.{before, after_word, word}
use Rattle.ssim_text.specs.Decoder.{IsRefusal, NoMessage}
use Rattle.ssim_text.specs.Left.{lines_left, without_end}
use Rattle.ssim_text.specs.Message.{MessageValue}
use Rattle.ssim_text.specs.Spelling.{SpellsMessage}
use Rattle.ssim_text.specs.declared.fault.TextFault.{TextFault}
use Rattle.ssim_guide.specs.Words.{Explains as ExplainsRefusal, is_refusal}
use Rattle.ssim_held.specs.File.{IsDeskFile}
use Rattle.ssim_held.specs.Entries.{DeskSeen}
use Rattle.ssim_held.specs.declared.fault.DeskFault.TheVariants as desk_fault
use Rattle.ssim_program.specs.Desks.{IsNoDeskFile}
use Rattle.ssim_program.specs.Files.{Files}
use Rattle.ssim_program.specs.Foreign.{BeginsWithForeign, begins_with, foreign_kind}
use Rattle.ssim_command_line.specs.Line.{Text}
use Rattle.ssim_program.specs.Made.{HasFile, IsMissing, IsOfBytes, file_limit}
use Rattle.ssim_program.specs.Mailboxes.{BeginsWithMailbox, is_mail, is_mailbox}
use Rattle.ssim_program.specs.print.Refusal.{IsMemory, IsOfFile, refusal_head, refusal_name}
use Rattle.ssim_program.specs.print.Refusal.{refusal_number, refusal_text}
use Rattle.ssim_program.specs.rehearse.Script.{RefusesScript, Script, SpellsScript}
use Rattle.ssim_program.specs.declared.explain.file_kind.FileKind.{FileKind}
use Rattle.ssim_program.specs.declared.explain.file_kind.FileKind.TheVariants as kind
use Rattle.ssim_program.specs.declared.explain.foreign.ForeignKind.{ForeignKind}
use Rattle.ssim_program.specs.declared.explain.foreign.ForeignKind.TheVariants as foreign
use Rattle.ssim_program.specs.declared.refusal.Refusal.{Refusal}
use Rattle.ssim_program.specs.declared.refusal.Refusal.TheVariants as refused

-- The text is these bytes, and then the refusal's name with a meaning, lines on its place, and what to
-- do about it. If no command has a refusal of the number, nothing is said of what follows.
abbrev pub HasWords : List ℕ → Refusal → List ℕ → Type 0
HasWords first refusal printed = (rest : List ℕ) × (printed ≡ first ++ rest)
    × (is_refusal (refusal_number refusal) ≡ true
    → (place : List ℕ) × ExplainsRefusal (refusal_name refusal) place rest)

-- the text is the line of this refusal, and then these words on it
abbrev pub BeginsWith : Refusal → List ℕ → Type 0
BeginsWith refusal printed = HasWords (line (refusal_text refusal)) refusal printed

-- ---- a number

-- one or two digits are a number; any other word is the name of a file
abbrev pub number_in : Text → Option ℕ
number_in (digit ∷ []) = two_digits_of 48 digit
number_in (tens ∷ units ∷ []) = two_digits_of tens units
number_in _ = None

-- The text explains a refusal that has the number, if a command may have one. Else it says that there
-- is none.
abbrev pub ExplainsNumber : ℕ → List ℕ → Type 0
ExplainsNumber number printed =
    ((is_refusal number ≡ true)
    × (example : Refusal) × (refusal_number example ≡ number) × BeginsWith example printed)
    ⊎ ((is_refusal number ≡ false)
    × (printed ≡ line (codes "no refusal has the number " ++ decimal number)))

-- ---- a name

-- the word is the name of the refusal, in any case
abbrev pub IsName : Text → Refusal → Type 0
IsName word refusal =
    map to_ascii_lowercase (refusal_name refusal) ≡ map to_ascii_lowercase word

-- the word begins with `refused`, the refusal's number and its name, as a line that a command printed
abbrev pub IsLine : Text → Refusal → Type 0
IsLine word refusal = begins_with word (refusal_head refusal) ≡ true

-- the word names the refusal
abbrev pub Names : Text → Refusal → Type 0
Names word refusal = IsName word refusal ⊎ IsLine word refusal

-- the word names no refusal that a command may have
abbrev pub NamesNone : Text → Type 0
NamesNone word =
    (refusal : Refusal) → is_refusal (refusal_number refusal) ≡ true → Names word refusal → ⊥

-- The word is the name of the refusal, and the text explains the refusal. Or the word is a line that a
-- command printed of such a refusal, and the text is that line with the words on it.
abbrev pub ExplainsNamed : Text → Refusal → List ℕ → Type 0
ExplainsNamed word refusal printed =
    (IsName word refusal × BeginsWith refusal printed)
    ⊎ (IsLine word refusal × HasWords (line word) refusal printed)

-- the text explains a refusal that a command may have and that the word names
abbrev pub ExplainsName : Text → List ℕ → Type 0
ExplainsName word printed = (refusal : Refusal)
    × (is_refusal (refusal_number refusal) ≡ true) × ExplainsNamed word refusal printed

-- ---- which file it is

-- a digit, or nothing at all, begins a data set
abbrev pub begins_data_set : List ℕ → Bool
begins_data_set [] = true
begins_data_set (b ∷ rest) = is_digit b

-- an originator, or a line of one part, begins a message
abbrev pub begins_message : List ℕ → Bool
begins_message [] = true
begins_message (b ∷ rest) = if b == 46 then true else bytes_eq (after_word (b ∷ rest)) []

-- the kind of a file by its first line that is not empty
abbrev pub kind_of_line : List ℕ → FileKind
kind_of_line first =
    if bytes_eq (word first) (codes "SSIMDESK") then kind.Desk
    else (if bytes_eq (word first) (codes "DESKS") then kind.Script
    else (if begins_message first then kind.Message
    else kind.Stations))

-- the kind of a file, by its first line
abbrev pub kind_of_text : List ℕ → FileKind
kind_of_text bytes =
    if begins_data_set bytes then kind.DataSet else kind_of_line (without_end (before 10 bytes))

-- the kind of a file; empty lines at the beginning are passed over
abbrev pub kind_of : List ℕ → FileKind
kind_of bytes = kind_of_text (drop (prefix_len is_ascii_whitespace bytes) bytes)

-- ---- what is said of it

-- a file of this kind has the refusal that the commands which read it print
abbrev pub IsInvalid : FileKind → List ℕ → Refusal → Type 0
IsInvalid kind.DataSet bytes refusal =
    (fault : BaseFault) × (refusal ≡ refused.DataSet fault) × IsOfBytes fault
    × IsReadAs file_limit bytes (Err fault)
IsInvalid kind.Desk bytes refusal =
    IsNoDeskFile bytes × (offset : ℕ) × (refusal ≡ refused.Desk (desk_fault.File offset))
IsInvalid kind.Script bytes refusal = RefusesScript bytes refusal
IsInvalid kind.Message bytes refusal =
    (fault : TextFault) × (refusal ≡ refused.Desk (desk_fault.Text fault)) × NoMessage bytes fault
    × IsRefusal bytes fault
IsInvalid kind.Stations bytes refusal =
    (fault : StationFault) × (refusal ≡ refused.Stations fault)
    × NamesLine (lines_left bytes) fault

-- the bytes are a valid file of this kind
abbrev pub IsValid : FileKind → List ℕ → Type 0
IsValid kind.DataSet bytes =
    (base : List Record) × (notes : List Note) × IsReadAs file_limit bytes (Ok (base, notes))
IsValid kind.Desk bytes = (desk : DeskSeen) × IsDeskFile bytes desk.base desk.held
IsValid kind.Script bytes = (script : Script) × SpellsScript script bytes
IsValid kind.Message bytes = (message : MessageValue) × SpellsMessage message bytes
IsValid kind.Stations bytes = (rows : List Row) × SpellsTable rows bytes

-- what an invalid file is told to be: a file of another program, a mailbox, or one of its kind
pub data Told : Type 0 where
  AsForeign : ForeignKind → Told
  AsMailbox : Told
  AsRefused : Told

-- a text or a station table may be mail
abbrev pub may_be_mail : FileKind → Bool
may_be_mail kind.Message = true
may_be_mail kind.Stations = true
may_be_mail _ = false

-- what a file is told to be, if its first bytes are those of this kind or of none
abbrev pub told_as : Option ForeignKind → List ℕ → Told
told_as (Some kind) bytes = AsForeign kind
told_as None bytes =
    if may_be_mail (kind_of bytes) && is_mailbox bytes then AsMailbox
    else (if may_be_mail (kind_of bytes) && is_mail bytes then AsForeign foreign.Mail
    else AsRefused)

-- The text begins with the name of another program's files, with the counts of a mailbox, or else
-- it explains the refusal. Something is found, but of a mailbox only if a text of it is no message.
abbrev pub TellsInvalid : Told → List ℕ → Refusal → List ℕ → Bool → Type 0
TellsInvalid (AsForeign kind) bytes refusal printed found =
    BeginsWithForeign kind printed × (found ≡ true)
TellsInvalid AsMailbox bytes refusal printed found = BeginsWithMailbox bytes printed found
TellsInvalid AsRefused bytes refusal printed found = BeginsWith refusal printed × (found ≡ true)

-- the name of a kind of file
abbrev pub kind_name : FileKind → List ℕ
kind_name kind.DataSet = codes "data set"
kind_name kind.Desk = codes "desk file"
kind_name kind.Script = codes "desk script"
kind_name kind.Message = codes "text"
kind_name kind.Stations = codes "station table"

-- The text says that the file is invalid: of which kind of another program it is, how many texts the
-- mailbox has, or which refusal it has. Or it says that the file is valid, and of which kind it is,
-- and then nothing is found.
abbrev pub ExplainsBytes : List ℕ → List ℕ → Bool → Type 0
ExplainsBytes bytes printed found =
    ((refusal : Refusal) × IsInvalid (kind_of bytes) bytes refusal
    × TellsInvalid (told_as (foreign_kind bytes) bytes) bytes refusal printed found)
    ⊎ (IsValid (kind_of bytes) bytes
    × (printed ≡ line (codes "valid " ++ kind_name (kind_of bytes))) × (found ≡ false))

-- the lines explain the bytes of a named file
abbrev pub ExplainsFile : Option Files → Text → List ℕ → Bool → Type 0
ExplainsFile files name printed found =
    (bytes : List ℕ) × HasFile files name bytes × ExplainsBytes bytes printed found

-- The lines explain a file or, if there is no such file within the limit, a refusal by its name. Of a
-- name nothing is found.
abbrev pub ExplainsWord : Option Files → Text → List ℕ → Bool → Type 0
ExplainsWord files word printed found =
    ExplainsFile files word printed found
    ⊎ (IsMissing files word × ExplainsName word printed × (found ≡ false))

-- The lines explain a fault's number or, if the word is no number, a file or a name. Of a number
-- nothing is found.
abbrev pub Explains : Option Files → Text → List ℕ → Bool → Type 0
Explains files word printed found =
    ((number : ℕ) × (number_in word ≡ Some number) × ExplainsNumber number printed
    × (found ≡ false))
    ⊎ ((number_in word ≡ None) × ExplainsWord files word printed found)

-- Why a word that is no number is not explained: memory ran out. Or there is no file of this name
-- within the limit, and the word names no refusal.
abbrev pub RefusesWord : Option Files → Text → Refusal → Type 0
RefusesWord files word refusal = IsMemory refusal
    ⊎ (IsOfFile 91 (codes "File") word refusal × IsMissing files word × NamesNone word)

-- why nothing is explained: memory ran out, or the word is no number and is not explained
abbrev pub RefusesExplain : Option Files → Text → Refusal → Type 0
RefusesExplain files word refusal =
    IsMemory refusal ⊎ ((number_in word ≡ None) × RefusesWord files word refusal)
