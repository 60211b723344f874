-- Commands that run at once on the same files. Each holds the file that it keeps, and so none loses
-- what another has kept. Nothing here is about code: these are the steps that commands take, one
-- after another, and what follows if each step was allowed.
use Rattle.std.specs.Prelude.{◌≡◌, ◌≢◌, ◌⊎◌, ◌↔◌, ◌==◌, ℕ, Bool, true, false, if◌then◌else◌}
use Rattle.std.specs.Prelude.{List, [], ◌∷◌, ◌++◌, Option, Some, None, Ok}
use Rattle.std.specs.Str.{bytes_eq}
use Rattle.ssim_text.specs.Message.{MessageValue}
use Rattle.ssim_text.specs.declared.reference.Reference.{Reference}
use Rattle.ssim_held.specs.Entries.{DeskSeen, state_of}
use Rattle.ssim_held.specs.Held.{Holds as HoldsMessage}
use Rattle.ssim_command_line.specs.Line.{Text}
use Rattle.ssim_program.specs.Desks.{desk_in}
use Rattle.ssim_program.specs.Files.{Files, file_of}
use Rattle.ssim_program.specs.Offices.{Began, Bringing, Brought, BroughtBy, Event, IsIn, Leaves}
use Rattle.ssim_program.specs.Offices.{Origin, origin_of}
use Rattle.ssim_program.specs.Offices.{Took, TookSome, Merged, Carried, Withdrew}
use Rattle.ssim_program.specs.Withdrawing.{IsNamed}

-- ---- steps

-- One step of a command, each of which has a number, or of somebody else. The command begins to hold
-- the file of a name; it reads a file; it keeps a file, all bytes at once; or it ends. A file that
-- comes from elsewhere is put there by no command. No step removes a file.
pub data Step : Type 0 where
  Holds : ℕ → Text → Step
  Reads : ℕ → Text → Step
  Keeps : ℕ → Text → List ℕ → Step
  Ends : ℕ → Step
  Comes : Text → List ℕ → Step

-- the files after these steps, the last step first, by the files at the beginning
abbrev pub files_after : Files → List Step → Files
files_after files [] = files
files_after files (Keeps n name bytes ∷ earlier) = (name, bytes) ∷ files_after files earlier
files_after files (Comes name bytes ∷ earlier) = (name, bytes) ∷ files_after files earlier
files_after files (step ∷ earlier) = files_after files earlier

-- who holds a file after this command has ended, by who held it before
abbrev pub released : ℕ → Option ℕ → Option ℕ
released n None = None
released n (Some other) = if other == n then None else Some other

-- The command that holds the file of this name, if one does; two never hold one file. It holds the
-- file until it ends, or until another file has the name: one that it kept, or one that came from
-- elsewhere.
abbrev pub holder_of : Text → List Step → Option ℕ
holder_of name [] = None
holder_of name (Holds n other ∷ earlier) =
    if bytes_eq other name then Some n else holder_of name earlier
holder_of name (Keeps n other bytes ∷ earlier) =
    if bytes_eq other name then None else holder_of name earlier
holder_of name (Comes other bytes ∷ earlier) =
    if bytes_eq other name then None else holder_of name earlier
holder_of name (Ends n ∷ earlier) = released n (holder_of name earlier)
holder_of name (Reads n other ∷ earlier) = holder_of name earlier

-- the file of this name, if there is one
abbrev pub file_read : Text → Option (List ℕ) → Files
file_read name None = []
file_read name (Some bytes) = (name, bytes) ∷ []

-- The files that a command has read, each as it was then, the last first. Of a file that it read
-- twice the last reading counts.
abbrev pub read_by : ℕ → Files → List Step → Files
read_by n files [] = []
read_by n files (Reads other name ∷ earlier) =
    (if other == n then file_read name (file_of (files_after files earlier) name) else [])
    ++ read_by n files earlier
read_by n files (step ∷ earlier) = read_by n files earlier

-- ---- which steps are allowed

-- Of the files that it read, a command leaves these bytes in the file of this name. What a command
-- does is an event of a history.
abbrev pub MakesFile : Event → Files → Text → List ℕ → Type 0
MakesFile event read name bytes =
    (after : Files) × Leaves event read after × (file_of after name ≡ Some bytes)

-- Whether a step is allowed after these steps, if command n does event n. A command begins to hold a
-- file only if no command holds it, and before it has read any. It keeps a file only if it holds the
-- file of this name, or if there is none, and the bytes are what it makes of the files that it read.
-- Any other step is allowed.
abbrev pub IsAllowed : (ℕ → Event) → Files → List Step → Step → Type 0
IsAllowed events files earlier (Holds n name) =
    (holder_of name earlier ≡ None) × (read_by n files earlier ≡ [])
IsAllowed events files earlier (Keeps n name bytes) =
    ((holder_of name earlier ≡ Some n) ⊎ (file_of (files_after files earlier) name ≡ None))
    × MakesFile (events n) (read_by n files earlier) name bytes
IsAllowed events files earlier step = Unit {0}

-- each of these steps was allowed after those before it
abbrev pub AreAllowed : (ℕ → Event) → Files → List Step → Type 0
AreAllowed events files [] = Unit {0}
AreAllowed events files (step ∷ earlier) =
    AreAllowed events files earlier × IsAllowed events files earlier step

-- ---- in turn

-- If a command read the file of a name and now keeps one of this name, the file is still the one
-- that it read. So the desk files of one name come one after another, in the order in which they
-- were kept, and each is made of the one before it.
abbrev pub TakesTurns : Type 0
TakesTurns =
    (events : ℕ → Event) (files : Files) (earlier : List Step) (n : ℕ) (name : Text)
    (bytes read : List ℕ) → AreAllowed events files (Keeps n name bytes ∷ earlier)
    → file_of (read_by n files earlier) name ≡ Some read
    → file_of (files_after files earlier) name ≡ Some read

-- messages, each under its reference
abbrev pub Messages : Type 1
Messages = Reference → MessageValue → Type 0

-- the first messages if this is so, and the second ones if not
abbrev pub Chosen : Bool → Messages → Messages → Messages
Chosen true one other = one
Chosen false one other = other

-- what was brought to the files that a command read: to the file of this name these messages, to
-- another file those that it holds
abbrev pub BroughtToRead : Text → Messages → Files → Bringing
BroughtToRead name brought read other =
    Chosen (bytes_eq other name) brought (Brought (Began read) other)

-- What was brought to the file of this name. Each command that keeps it brings what it brings in a
-- history, to what was brought to the file before.
abbrev pub BroughtInTurn : (ℕ → Event) → Files → List Step → Text → Messages
BroughtInTurn events files [] name = Brought (Began files) name
BroughtInTurn events files (Keeps n other bytes ∷ earlier) name =
    Chosen (bytes_eq other name) (BroughtBy (origin_of (events n) name) (read_by n files earlier)
    (BroughtToRead name (BroughtInTurn events files earlier name) (read_by n files earlier)))
    (BroughtInTurn events files earlier name)
BroughtInTurn events files (Comes other bytes ∷ earlier) name =
    Chosen (bytes_eq other name) (IsIn bytes) (BroughtInTurn events files earlier name)
BroughtInTurn events files (step ∷ earlier) name = BroughtInTurn events files earlier name

-- A desk file that can be read holds the messages that were brought to it in turn and not withdrawn
-- since, and no others, whatever commands ran at once.
abbrev pub HoldsWhatCameInTurn : Type 0
HoldsWhatCameInTurn =
    (events : ℕ → Event) (files : Files) (steps : List Step) (name : Text) (desk : DeskSeen)
    → AreAllowed events files steps → desk_in (Some (files_after files steps)) name (Ok desk)
    → (reference : Reference) (message : MessageValue)
    → HoldsMessage (state_of desk) reference message
    ↔ BroughtInTurn events files steps name reference message

-- ---- nothing is lost

-- A file of this origin leaves the message of the reference in the file of this name, if it was
-- there: it is made of the file of this name, in place, by `take`, `receive`, `merge` or `carry`, or
-- by `withdraw` of other references.
abbrev pub LeavesMessage : Text → Reference → Origin → Type 0
LeavesMessage name reference (Took desk texts) = desk ≡ name
LeavesMessage name reference (TookSome desk names receipts) = desk ≡ name
LeavesMessage name reference (Merged mine theirs) = (mine ≡ name) ⊎ (theirs ≡ name)
LeavesMessage name reference (Carried mine theirs) = mine ≡ name
LeavesMessage name reference (Withdrew desk references) =
    (desk ≡ name) × (IsNamed references reference → ⊥)
LeavesMessage name reference origin = ⊥

-- only commands that leave the message keep the file of this name in these steps, and none comes
-- from elsewhere
abbrev pub AllLeaveMessage : (ℕ → Event) → Text → Reference → List Step → Type 0
AllLeaveMessage events name reference [] = Unit {0}
AllLeaveMessage events name reference (Keeps n other bytes ∷ earlier) =
    (other ≡ name → LeavesMessage name reference (origin_of (events n) name))
    × AllLeaveMessage events name reference earlier
AllLeaveMessage events name reference (Comes other bytes ∷ earlier) =
    (other ≢ name) × AllLeaveMessage events name reference earlier
AllLeaveMessage events name reference (step ∷ earlier) =
    AllLeaveMessage events name reference earlier

-- The desk file of this name held the message, and the later steps left it there. Then the desk that
-- is read of the file after these steps holds it.
abbrev pub NothingHeldIsLost : Type 0
NothingHeldIsLost =
    (events : ℕ → Event) (files : Files) (later earlier : List Step) (name : Text)
    (desk : DeskSeen) (reference : Reference) (message : MessageValue)
    → AreAllowed events files (later ++ earlier)
    → AllLeaveMessage events name reference later
    → Brought (Began (files_after files earlier)) name reference message
    → desk_in (Some (files_after files (later ++ earlier))) name (Ok desk)
    → HoldsMessage (state_of desk) reference message

-- The command brings the message to the file of this name, by the files that it read: a text says it
-- that `take` took or `receive` accepted, or a desk file that the command read holds it, and it does
-- not withdraw it.
abbrev pub Brings : Event → Files → Text → Messages
Brings event read name = BroughtBy (origin_of event name) read (Brought (Began read))

-- A command has kept the desk file of this name, to which it brought the message, as `take` and
-- `receive` bring each message of which they print `taken` or `repeated`. The later steps left it
-- there. Then the desk that is read of the file after these steps holds it.
abbrev pub NothingTakenIsLost : Type 0
NothingTakenIsLost =
    (events : ℕ → Event) (files : Files) (later earlier : List Step) (n : ℕ) (name : Text)
    (bytes : List ℕ) (desk : DeskSeen) (reference : Reference) (message : MessageValue)
    → AreAllowed events files (later ++ Keeps n name bytes ∷ earlier)
    → AllLeaveMessage events name reference later
    → Brings (events n) (read_by n files earlier) name reference message
    → desk_in (Some (files_after files (later ++ Keeps n name bytes ∷ earlier))) name (Ok desk)
    → HoldsMessage (state_of desk) reference message
