-- What is in desk files after any commands: offices to whose desks the same messages were brought
-- have the same desk file.
use Rattle.std.specs.Prelude.{◌≡◌, ◌⊎◌, ◌↔◌, ℕ, ◌≤◌, true, false, if◌then◌else◌, List, [], ◌∷◌}
use Rattle.std.specs.Prelude.{◌++◌, length, Option, Some, None, Result, Ok, Err}
use Rattle.std.specs.Str.{bytes_eq}
use Rattle.ssim_base.specs.BaseSeen.{BaseSeen}
use Rattle.ssim_base.specs.Reading.{IsReadAs}
use Rattle.ssim_base.specs.Stations.{SpellsTable}
use Rattle.ssim_base.specs.declared.note.Note.{Note}
use Rattle.ssim_text.specs.Message.{MessageValue}
use Rattle.ssim_text.specs.declared.reference.Reference.{Reference}
use Rattle.ssim_held.specs.Entries.{DeskSeen, Entry, map_of, state_of}
use Rattle.ssim_held.specs.File.{CanBeSaved, IsDeskFile, desk_file}
use Rattle.ssim_held.specs.Held.{Holds, Says}
use Rattle.ssim_program.specs.Desks.{desk_in}
use Rattle.ssim_program.specs.Acts.{Act, is_whole, kept_by, printed_by}
use Rattle.ssim_program.specs.Answer.{Answer}
use Rattle.ssim_program.specs.Answers.{answers, carry, merge, merge_since, start, take, withdraw}
use Rattle.ssim_program.specs.Carrying.{MeansTheSame}
use Rattle.ssim_program.specs.Files.{Files, Kept, file_of, with_kept}
use Rattle.ssim_command_line.specs.Line.{Line, Text}
use Rattle.ssim_program.specs.Receiving.{IsAccepted, Receipt, received, received_files}
use Rattle.ssim_program.specs.Receiving.{refused_texts, texts_received}
use Rattle.ssim_program.specs.declared.refusal.Refusal.{Refusal}
use Rattle.ssim_program.specs.Made.{HasFile, file_limit}
use Rattle.ssim_program.specs.Withdrawing.{IsNamed}
use Rattle.ssim_program.specs.print.Refusal.{IsMemory}

-- ---- histories

-- What happens to named files: a command keeps a desk; the files stay as they are, as after a command
-- that looks or is refused; a file is copied under another name; or a file comes from elsewhere, as
-- a telegram does; or several come, one after another. The messages that `publish` keeps are such a
-- file, and so are the data sets that `convert` and `split` keep: they make no desk.
pub data Event : Type 0 where
  StartKept : (dataset stations out : Text) → Event
  TakeKept : (desk out : Text) (texts : List Text) → Event
  ReceiveKept : (refused : Option Text) (desk out : Text) (names : List Text)
      (receipts : List Receipt) → Event
  MergeKept : (mine theirs out : Text) → Event
  MergeSinceKept : (since mine theirs out : Text) → Event
  CarryKept : (mine theirs out : Text) → Event
  WithdrawKept : (desk out : Text) (references : List Text) → Event
  Unchanged : Event
  Copied : (from to : Text) → Event
  Came : (name : Text) (bytes : List ℕ) → Event
  AllCame : (files : Kept) → Event

-- a history: the files at the beginning, and then events, each with the files after it
pub data History : Type 0 where
  Began : Files → History
  Then : History → Event → Files → History

-- the files at the end of a history
abbrev pub files_of : History → Files
files_of (Began files) = files
files_of (Then history event files) = files

-- all acts of the answer were done, and the new files are the old ones with the files that are kept
abbrev pub IsDone : Answer (List Act) → Files → Files → Type 0
IsDone answer old new = (acts : List Act) × answer (Ok acts) × (is_whole acts ≡ true)
    × (Some new ≡ with_kept (kept_by acts) (Some old))

-- the desk in a file has received texts, with these receipts, and the new files are the old ones with
-- the files that are kept of it
abbrev pub IsReceived : Option Text → Text → Text → List Text → List Receipt → Files → Files → Type 0
IsReceived refused desk out names receipts old new = (after : DeskSeen)
    × received (Some old) desk names (Ok (receipts, after))
    × (Some new ≡ with_kept (kept_by (received_files refused out receipts after)) (Some old))

-- the event leaves these files; those of `start` are the same with and without its notes, and those of
-- the others with and without the effects
abbrev pub Leaves : Event → Files → Files → Type 0
Leaves (StartKept dataset stations out) old new =
    IsDone (start (Some old) false dataset stations out) old new
Leaves (TakeKept desk out texts) old new = IsDone (take (Some old) false desk out texts) old new
Leaves (ReceiveKept refused desk out names receipts) old new =
    IsReceived refused desk out names receipts old new
Leaves (MergeKept mine theirs out) old new = IsDone (merge (Some old) false mine theirs out) old new
Leaves (MergeSinceKept since mine theirs out) old new =
    IsDone (merge_since (Some old) false since mine theirs out) old new
Leaves (CarryKept mine theirs out) old new = IsDone (carry (Some old) false mine theirs out) old new
Leaves (WithdrawKept desk out references) old new =
    IsDone (withdraw (Some old) false desk out references) old new
Leaves Unchanged old new = new ≡ old
Leaves (Copied from to) old new =
    (bytes : List ℕ) × (file_of old from ≡ Some bytes) × (new ≡ (to, bytes) ∷ old)
Leaves (Came name bytes) old new = new ≡ (name, bytes) ∷ old
Leaves (AllCame files) old new = Some new ≡ with_kept files (Some old)

-- each event of the history leaves the files after it
abbrev pub Happened : History → Type 0
Happened (Began files) = Unit {0}
Happened (Then history event files) = Happened history × Leaves event (files_of history) files

-- ---- where the file of a name comes from

-- The file of a name after an event: it is the file of some name before; `start` made it of a data
-- set and a station table; `take` of a desk file and texts; `receive` of a desk file and those
-- texts of mailboxes that have such receipts; `merge` or `carry` of two desk files; `merge --since` of
-- an older desk file and two; `withdraw` of a desk file and references; or it came from elsewhere.
pub data Origin : Type 0 where
  Was : Text → Origin
  Started : Text → Text → Origin
  Took : Text → List Text → Origin
  TookSome : Text → List Text → List Receipt → Origin
  Merged : Text → Text → Origin
  MergedSince : (since mine theirs : Text) → Origin
  Carried : Text → Text → Origin
  Withdrew : Text → List Text → Origin
  Given : List ℕ → Origin

-- Where the file of this name comes from, if `receive` did not keep its desk there. Its refused
-- texts come from elsewhere, as all texts do.
abbrev pub origin_of_refused : Option Text → List ℕ → Text → Origin
origin_of_refused None texts name = Was name
origin_of_refused (Some refused) texts name =
    if bytes_eq refused name then Given texts else Was name

-- The file of this name comes from there, or is the last one of these that came under the name.
abbrev pub origin_among : Kept → Text → Origin → Origin
origin_among [] name origin = origin
origin_among (file ∷ later) name origin =
    origin_among later name (if bytes_eq file.0 name then Given file.1 else origin)

-- where the file of this name comes from
abbrev pub origin_of : Event → Text → Origin
origin_of (StartKept dataset stations out) name =
    if bytes_eq out name then Started dataset stations else Was name
origin_of (TakeKept desk out texts) name =
    if bytes_eq out name then Took desk texts else Was name
origin_of (MergeKept mine theirs out) name =
    if bytes_eq out name then Merged mine theirs else Was name
origin_of (MergeSinceKept since mine theirs out) name =
    if bytes_eq out name then MergedSince since mine theirs else Was name
origin_of (CarryKept mine theirs out) name =
    if bytes_eq out name then Carried mine theirs else Was name
origin_of (WithdrawKept desk out references) name =
    if bytes_eq out name then Withdrew desk references else Was name
origin_of (ReceiveKept refused desk out names receipts) name = if bytes_eq out name
    then TookSome desk names receipts else origin_of_refused refused (refused_texts receipts) name
origin_of (Copied from to) name = if bytes_eq to name then Was from else Was name
origin_of (Came other bytes) name = if bytes_eq other name then Given bytes else Was name
origin_of (AllCame files) name = origin_among files name (Was name)
origin_of Unchanged name = Was name

-- ---- what was brought

-- the bytes, within the limit, are the desk file of a desk that holds the message
abbrev pub IsIn : List ℕ → Reference → MessageValue → Type 0
IsIn bytes reference message =
    (base : BaseSeen) × (held : List Entry) × (length bytes ≤ file_limit)
    × IsDeskFile bytes base held
    × Holds (record { base = base; held = map_of held }) reference message

-- a text in one of the files of these names says the message over the base
abbrev pub IsSaid : Files → BaseSeen → List Text → Reference → MessageValue → Type 0
IsSaid files base [] reference message = ⊥
IsSaid files base (name ∷ names) reference message =
    ((text : List ℕ) × HasFile (Some files) name text × Says base text reference message)
    ⊎ IsSaid files base names reference message

-- one of the texts says the message to the desk in the file of this name
abbrev pub IsSaidTo : Files → Text → List Text → Reference → MessageValue → Type 0
IsSaidTo files name texts reference message =
    (desk : DeskSeen) × desk_in (Some files) name (Ok desk)
    × IsSaid files desk.base texts reference message

-- one of the texts that have such receipts says the message to the desk in the file of this name
abbrev pub IsAcceptedBy : Files → Text → List Text → List Receipt → Reference → MessageValue
    → Type 0
IsAcceptedBy files name names receipts reference message =
    (desk : DeskSeen) × desk_in (Some files) name (Ok desk)
    × IsAccepted desk.base (texts_received files names) receipts reference message

-- the message means the same over the bases of the desks in the files of these names
abbrev pub MeansTheSameIn : Files → Text → Text → MessageValue → Type 0
MeansTheSameIn files mine theirs message =
    (one : DeskSeen) × (other : DeskSeen) × desk_in (Some files) mine (Ok one)
    × desk_in (Some files) theirs (Ok other) × MeansTheSame one.base other.base message

-- the desk in the file of this name holds the message
abbrev pub IsHeldIn : Files → Text → Reference → MessageValue → Type 0
IsHeldIn files name reference message = (desk : DeskSeen) × desk_in (Some files) name (Ok desk)
    × Holds (state_of desk) reference message

-- which messages, each under its reference, were brought to the files of which names
abbrev pub Bringing : Type 1
Bringing = Text → Reference → MessageValue → Type 0

-- what was brought to a file, by where it comes from: to a new desk nothing; to one that took texts
-- what they say and what was brought to it before, and so to one that received texts what those say
-- that it accepted; to a merged one what was brought to one of two, and if it was merged since an
-- older one, only what was brought to both or is not in the older one; to one to which messages were
-- carried what was brought to it before, and of what was brought to the other what means the same; to
-- one without the messages of some references all others that were brought to it before; and to one
-- that came from elsewhere what it holds
abbrev pub BroughtBy : Origin → Files → Bringing → Reference → MessageValue → Type 0
BroughtBy (Was name) files before reference message = before name reference message
BroughtBy (Started dataset stations) files before reference message = ⊥
BroughtBy (Took desk texts) files before reference message =
    before desk reference message ⊎ IsSaidTo files desk texts reference message
BroughtBy (TookSome desk names receipts) files before reference message =
    before desk reference message ⊎ IsAcceptedBy files desk names receipts reference message
BroughtBy (Merged mine theirs) files before reference message =
    before mine reference message ⊎ before theirs reference message
BroughtBy (MergedSince since mine theirs) files before reference message =
    (before mine reference message
    × (IsHeldIn files since reference message → before theirs reference message))
    ⊎ (before theirs reference message
    × (IsHeldIn files since reference message → before mine reference message))
BroughtBy (Carried mine theirs) files before reference message =
    before mine reference message
    ⊎ (before theirs reference message × MeansTheSameIn files mine theirs message)
BroughtBy (Withdrew desk references) files before reference message =
    before desk reference message × (IsNamed references reference → ⊥)
BroughtBy (Given bytes) files before reference message = IsIn bytes reference message

-- The message was brought to the file of this name: by a text that a `take` took or a `receive`
-- accepted, by a desk file to which it had been brought, or in a desk file that came from elsewhere
-- or was there at the beginning. It was not withdrawn after this; a message that was withdrawn can
-- be brought again, also by a merge with a desk from which it was not withdrawn.
abbrev pub Brought : History → Bringing
Brought (Began files) name reference message =
    (bytes : List ℕ) × (file_of files name ≡ Some bytes) × IsIn bytes reference message
Brought (Then history event files) name reference message =
    BroughtBy (origin_of event name) (files_of history) (Brought history) reference message

-- ---- where a desk began

-- the base was read from these bytes of a data set and of a station table
abbrev pub IsReadFrom : BaseSeen → List ℕ → List ℕ → Type 0
IsReadFrom base dataset stations = (notes : List Note)
    × IsReadAs file_limit dataset (Ok (base.records, notes)) × SpellsTable base.rows stations

-- the bytes, within the limit, are the file of a desk whose base was read from these bytes
abbrev pub IsSavedFrom : List ℕ → List ℕ → List ℕ → Type 0
IsSavedFrom bytes dataset stations = (base : BaseSeen) × (held : List Entry)
    × (length bytes ≤ file_limit) × (bytes ≡ desk_file base held) × CanBeSaved base held
    × IsReadFrom base dataset stations

-- The desk began from these bytes of a data set and of a station table: by `start`, or by a desk file
-- that came from elsewhere and was saved from them.
abbrev pub BeganBy : Origin → Files → (Text → List ℕ → List ℕ → Type 0) → List ℕ → List ℕ → Type 0
BeganBy (Was name) files before dataset stations = before name dataset stations
BeganBy (Started data_file table_file) files before dataset stations =
    (file_of files data_file ≡ Some dataset) × (file_of files table_file ≡ Some stations)
BeganBy (Took desk texts) files before dataset stations = before desk dataset stations
BeganBy (TookSome desk names receipts) files before dataset stations = before desk dataset stations
BeganBy (Merged mine theirs) files before dataset stations = before mine dataset stations
BeganBy (MergedSince since mine theirs) files before dataset stations = before mine dataset stations
BeganBy (Carried mine theirs) files before dataset stations = before mine dataset stations
BeganBy (Withdrew desk references) files before dataset stations = before desk dataset stations
BeganBy (Given bytes) files before dataset stations = IsSavedFrom bytes dataset stations

-- The desk in the file of this name began so, or its file was there at the beginning and was saved
-- from them.
abbrev pub BeganFrom : History → Text → List ℕ → List ℕ → Type 0
BeganFrom (Began files) name dataset stations =
    (bytes : List ℕ) × (file_of files name ≡ Some bytes) × IsSavedFrom bytes dataset stations
BeganFrom (Then history event files) name dataset stations =
    BeganBy (origin_of event name) (files_of history) (BeganFrom history) dataset stations

-- ---- the laws

-- A desk file that can be read holds the messages that were brought to it and not withdrawn since,
-- and no others.
abbrev pub HoldsWhatWasBrought : Type 0
HoldsWhatWasBrought =
    (history : History) (name : Text) (desk : DeskSeen) → Happened history
    → desk_in (Some (files_of history)) name (Ok desk)
    → (reference : Reference) (message : MessageValue)
    → Holds (state_of desk) reference message ↔ Brought history name reference message

-- two desks began from the same bytes, and the same messages were brought to both
pub record BroughtTheSame (one other : History) (name another : Text) : Type 0 where
  pub dataset : List ℕ
  pub stations : List ℕ
  pub began_one : BeganFrom one name dataset stations
  pub began_other : BeganFrom other another dataset stations
  pub same : (reference : Reference) (message : MessageValue)
      → Brought one name reference message ↔ Brought other another reference message

-- the files of two names have the same bytes
abbrev pub IsSameFile : Files → Text → Files → Text → Type 0
IsSameFile files name others another =
    (bytes : List ℕ) × (file_of files name ≡ Some bytes) × (file_of others another ≡ Some bytes)

-- Two offices have the same desk file, byte for byte, if their desks began from the same data set and
-- station table, by `start` or by a desk file that was saved from them, and the same messages were
-- brought to both, not counting those that were withdrawn since: whatever commands each office typed,
-- in whatever order, and however often.
-- So a desk from which messages were withdrawn has the file of a desk to which only the others were
-- ever brought.
abbrev pub OfficesAgree : Type 0
OfficesAgree =
    (one other : History) (name another : Text) → Happened one → Happened other
    → BroughtTheSame one other name another
    → IsSameFile (files_of one) name (files_of other) another
