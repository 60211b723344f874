-- What becomes of the texts of mailbox files that a desk receives, and what is printed and kept of
-- them.
use Rattle.std.specs.Prelude.{◌≡◌, ◌⊎◌, ℕ, ◌+◌, ◌-◌, Bool, true, false, IfSome, List, [], ◌∷◌, ◌++◌}
use Rattle.std.specs.Prelude.{Option}
use Rattle.std.specs.Prelude.{Some, None, Ok, Err, codes, length, nat_le, nat_lt, if◌then◌else◌}
use Rattle.std.specs.Fmt.{decimal}
use Rattle.std.specs.List.{count_by, flat_map, list_any}
use Rattle.std.specs.Str.{bytes_eq}
use Rattle.ssim_base.specs.BaseSeen.{BaseSeen}
use Rattle.ssim_base.specs.Export.{line}
use Rattle.ssim_listing.specs.Rows.{row}
use Rattle.ssim_base.specs.declared.place.Place.{Place}
use Rattle.ssim_base.specs.declared.place.Place.TheVariants.{Line}
use Rattle.ssim_text.specs.Message.{MessageValue}
use Rattle.ssim_text.specs.Reference.{printed_reference}
use Rattle.ssim_text.specs.declared.reference.Reference.{Reference}
use Rattle.ssim_mailbox.specs.Again.{bytes_of}
use Rattle.ssim_mailbox.specs.Texts.{MailText, texts_in}
use Rattle.ssim_held.specs.Entries.{AreRising, DeskSeen, state_of}
use Rattle.ssim_held.specs.File.{desk_file}
use Rattle.ssim_held.specs.Held.{Says}
use Rattle.ssim_held.specs.declared.fault.DeskFault.{DeskFault}
use Rattle.ssim_desk.specs.Steps.{RefusesText}
use Rattle.ssim_desk.specs.declared.desk.Took.{Took}
use Rattle.ssim_desk.specs.declared.desk.Took.TheVariants as took
use Rattle.ssim_command_line.specs.Line.{Text}
use Rattle.ssim_program.specs.Acts.{Act, Keep}
use Rattle.ssim_program.specs.Answer.{Answer, Finds, ◌>>=◌}
use Rattle.ssim_program.specs.Desks.{IsTaken, desk_in, took_printed}
use Rattle.ssim_program.specs.Files.{Files, file_of}
use Rattle.ssim_program.specs.Made.{HasFile, IsMissing, file_limit}
use Rattle.ssim_program.specs.Places.{place_in}
use Rattle.ssim_program.specs.print.Names.{printed_name}
use Rattle.ssim_program.specs.print.PrintedLine.{printed_text}
use Rattle.ssim_program.specs.print.Refusal.{IsOfFile, place_text, refusal_head, refusal_name}
use Rattle.ssim_program.specs.print.Refusal.{refusal_number, refusal_place}
use Rattle.ssim_program.specs.declared.content_kind.ContentKind.TheVariants as kind
use Rattle.ssim_program.specs.declared.refusal.Refusal.TheVariants as refused

-- ---- what becomes of texts

-- What became of a text: the desk took the text that begins on this line of the file, or held its
-- message already; or it refused the text. Or the file cannot be read.
pub data Receipt : Type 0 where
  Accepted : Text → ℕ → Took → Reference → Receipt
  Refused : Text → MailText → DeskFault → Receipt
  Unread : Text → Receipt

-- a text of the file of this name is tried: the desk takes it, or refuses it and stays as it is
abbrev pub Tries : Text → DeskSeen → MailText → Receipt → DeskSeen → Type 0
Tries file before text (Accepted name n answer reference) after =
    (name ≡ file) × (n ≡ text.line) × IsTaken before text.bytes answer reference after
Tries file before text (Refused name refused fault) after =
    (name ≡ file) × (refused ≡ text) × RefusesText (state_of before) text.bytes fault
    × (after ≡ before)
Tries file before text (Unread name) after = ⊥

-- the texts of a file are tried one after another
abbrev pub TriesEach : Text → DeskSeen → List MailText → List Receipt → DeskSeen → Type 0
TriesEach file before [] receipts after = (receipts ≡ []) × (after ≡ before)
TriesEach file before (text ∷ texts) receipts after =
    (first : Receipt) × (later : List Receipt) × (between : DeskSeen)
    × Tries file before text first between × TriesEach file between texts later after
    × (receipts ≡ first ∷ later)

-- the texts of the mailbox in the file of this name are tried; or there is no such file within the
-- limit
abbrev pub ReceivesFile : Option Files → Text → DeskSeen → List Receipt → DeskSeen → Type 0
ReceivesFile files name before receipts after =
    ((bytes : List ℕ) × HasFile files name bytes
    × TriesEach name before (texts_in bytes) receipts after)
    ⊎ (IsMissing files name × (receipts ≡ Unread name ∷ []) × (after ≡ before))

-- the files of these names are received one after another
abbrev pub ReceivesEach : Option Files → List Text → DeskSeen → List Receipt → DeskSeen → Type 0
ReceivesEach files [] before receipts after = (receipts ≡ []) × (after ≡ before)
ReceivesEach files (name ∷ names) before receipts after =
    (first : List Receipt) × (later : List Receipt) × (between : DeskSeen)
    × ReceivesFile files name before first between × ReceivesEach files names between later after
    × (receipts ≡ first ++ later)

-- ---- what accepted texts say

-- the texts of the mailbox in the file of this name; none if there is no such file within the limit
abbrev pub texts_within : Option (List ℕ) → List MailText
texts_within None = []
texts_within (Some bytes) = if nat_le (length bytes) file_limit then texts_in bytes else []

-- the texts of the mailboxes in the files of these names
abbrev pub texts_received : Files → List Text → List MailText
texts_received files names = flat_map (λ name. texts_within (file_of files name)) names

-- A text that the desk took, or whose message it held already, says the message over the base. The
-- receipts are those of the texts, in order, and of files that cannot be read.
abbrev pub IsAccepted : BaseSeen → List MailText → List Receipt → Reference → MessageValue → Type 0
IsAccepted base texts [] reference message = ⊥
IsAccepted base texts (Unread file ∷ receipts) reference message =
    IsAccepted base texts receipts reference message
IsAccepted base [] (Accepted file n answer other ∷ receipts) reference message = ⊥
IsAccepted base (text ∷ texts) (Accepted file n answer other ∷ receipts) reference message =
    Says base text.bytes reference message ⊎ IsAccepted base texts receipts reference message
IsAccepted base [] (Refused file refused fault ∷ receipts) reference message = ⊥
IsAccepted base (text ∷ texts) (Refused file refused fault ∷ receipts) reference message =
    IsAccepted base texts receipts reference message

-- ---- what is printed

-- the beginning of the line of a text: its file, and the line on which it begins
abbrev pub beginning_text : Text → ℕ → List ℕ
beginning_text file n = printed_name file ++ 58 ∷ decimal n ++ 32 ∷ []

-- what a fault names of a text that begins on this line of its file: lines are counted from the
-- file's first
abbrev pub place_in_file : ℕ → Place → Place
place_in_file first (Line n) = Line (first + n - 1)
place_in_file first place = place

-- the refusal of a text that begins on this line of its file
abbrev pub refused_at : ℕ → DeskFault → List ℕ
refused_at first fault =
    refusal_head (refused.Desk fault)
    ++ place_text (place_in_file first (refusal_place (refused.Desk fault)))

-- the line of a text, or of a file that cannot be read, without its end
abbrev pub receipt_text : Receipt → List ℕ
receipt_text (Accepted file n answer reference) =
    beginning_text file n ++ printed_text (took_printed answer reference)
receipt_text (Refused file text fault) = beginning_text file text.line ++ refused_at text.line fault
receipt_text (Unread file) = codes "refused 91 File " ++ printed_name file

-- whether the message of a text was new
abbrev pub is_taken : Receipt → Bool
is_taken (Accepted file n took.Taken reference) = true
is_taken _ = false

-- whether the message of a text was held already
abbrev pub is_repeated : Receipt → Bool
is_repeated (Accepted file n took.Repeated reference) = true
is_repeated _ = false

-- whether a text was refused, or a file was not read
abbrev pub is_refused : Receipt → Bool
is_refused (Accepted file n answer reference) = false
is_refused _ = true

-- whether some text was refused, or some file was not read
abbrev pub any_refused : List Receipt → Bool
any_refused receipts = nat_lt 0 (count_by is_refused receipts)

-- the last line, without its end: how many were taken, repeated and refused
abbrev pub total_text : ℕ → ℕ → ℕ → List ℕ
total_text taken repeated refused =
    codes "taken " ++ decimal taken ++ codes " repeated " ++ decimal repeated
    ++ codes " refused " ++ decimal refused

-- the word of what became of a message
abbrev pub took_word : Took → List ℕ
took_word took.Taken = codes "taken"
took_word took.Repeated = codes "repeated"

-- the names of the fields of CSV
abbrev pub receipt_names : List (List ℕ)
receipt_names =
    codes "file" ∷ codes "line" ∷ codes "result" ∷ codes "reference" ∷ codes "number"
    ∷ codes "name" ∷ codes "place" ∷ []

-- The fields of a text, or of a file that cannot be read. What a refusal names is a field, as in the
-- line: `row` takes off the blank before it.
abbrev pub receipt_fields : Receipt → List (List ℕ)
receipt_fields (Accepted file n answer reference) =
    printed_name file ∷ decimal n ∷ took_word answer ∷ printed_reference reference
    ∷ [] ∷ [] ∷ [] ∷ []
receipt_fields (Refused file text fault) =
    let why = refused.Desk fault in
    printed_name file ∷ decimal text.line ∷ codes "refused" ∷ [] ∷ decimal (refusal_number why)
    ∷ refusal_name why ∷ place_text (place_in_file text.line (refusal_place why)) ∷ []
receipt_fields (Unread file) =
    printed_name file ∷ [] ∷ codes "refused" ∷ [] ∷ codes "91" ∷ codes "File" ∷ [] ∷ []

-- the row of a text, or of a file that cannot be read
abbrev pub receipt_row : Receipt → List ℕ
receipt_row receipt = row (receipt_fields receipt)

-- the row of names, and the rows of receipts, in order
abbrev pub receipt_rows : List Receipt → List ℕ
receipt_rows receipts = row receipt_names ++ flat_map receipt_row receipts

-- the lines of receipts, in order, and the line that counts them
abbrev pub receipt_lines : List Receipt → List ℕ
receipt_lines receipts = flat_map (λ r. line (receipt_text r)) receipts
    ++ line (total_text (count_by is_taken receipts) (count_by is_repeated receipts)
    (count_by is_refused receipts))

-- receipts as rows, or as lines
abbrev pub printed_receipts : Bool → List Receipt → List ℕ
printed_receipts csv receipts = if csv then receipt_rows receipts else receipt_lines receipts

-- ---- what is kept

-- a refused text, and a line NNNN
abbrev pub refused_text : Receipt → List ℕ
refused_text (Refused file text fault) = text.bytes ++ codes "NNNN\n"
refused_text _ = []

-- the refused texts, in order, each of which NNNN ends
abbrev pub refused_texts : List Receipt → List ℕ
refused_texts receipts = flat_map refused_text receipts

-- whether the file for refused texts is one of these, if the contract can see the files
abbrev pub IsAmong : Bool → Option Files → Text → List Text → Type 0
IsAmong answer files refused names =
    IfSome files (λ all. list_any (bytes_eq refused) names ≡ answer)

-- the file for refused texts is none of these, or 93
abbrev pub apart_from : Option Files → List Text → Text → Answer (Unit {0})
apart_from files names refused (Ok x) = IsAmong false files refused names
apart_from files names refused (Err why) =
    IsOfFile 93 (codes "Occupied") refused why × IsAmong true files refused names

-- the place of the file for refused texts, which is none that is read or kept
abbrev pub refused_place : Option Files → List Text → Text → Answer (Unit {0})
refused_place files names refused = do
  apart ← apart_from files names refused
  place_in files refused kind.RefusedTexts

-- the places of the files that `receive` keeps: first the desk's, then that of refused texts
abbrev pub places_in : Option Files → Option Text → Text → Text → List Text → Answer (Unit {0})
places_in files None file out names = place_in files out kind.DeskFile
places_in files (Some refused) file out names = do
  place ← place_in files out kind.DeskFile
  refused_place files (out ∷ file ∷ names) refused

-- A desk receives the files of these names: what became of each text, and the desk afterwards. Its
-- messages are in order of reference.
abbrev pub received_at : Option Files → List Text → DeskSeen → Answer (List Receipt × DeskSeen)
received_at files names before =
    Finds (λ (result : List Receipt × DeskSeen). ReceivesEach files names before result.0 result.1
    × AreRising result.1.held)

-- the same of the desk in a file
abbrev pub received : Option Files → Text → List Text → Answer (List Receipt × DeskSeen)
received files file names = do
  before ← desk_in files file
  received_at files names before

-- the refused texts are kept, if a name is given, and then the desk
abbrev pub received_files : Option Text → Text → List Receipt → DeskSeen → List Act
received_files None out receipts after = Keep out (desk_file after.base after.held) ∷ []
received_files (Some refused) out receipts after =
    Keep refused (refused_texts receipts) ∷ Keep out (desk_file after.base after.held) ∷ []

-- ---- the refused texts, read again

-- the text of a receipt, if it was refused
abbrev pub refused_of : Receipt → List MailText
refused_of (Refused file text fault) = text ∷ []
refused_of _ = []

-- The refused texts that `receive` keeps are a mailbox: its texts are the texts that were refused and
-- no others, in order and byte for byte.
abbrev pub RefusedTextsAreMail : Type 0
RefusedTextsAreMail =
    (files : Option Files) (file : Text) (names : List Text) (receipts : List Receipt)
    (after : DeskSeen) → received files file names (Ok (receipts, after))
    → bytes_of (texts_in (refused_texts receipts)) ≡ bytes_of (flat_map refused_of receipts)
