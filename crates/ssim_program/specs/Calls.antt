-- Calls of the program, each of which is one event of a history.
use Rattle.std.specs.Prelude.{◌≡◌, ◌⊎◌, ℕ, List, [], ◌∷◌, Option, None, Some, Result}
use Rattle.ssim_command_line.specs.Line.{Line, Text, Start, Take, Receive, Merge, Carry, Withdraw}
use Rattle.ssim_command_line.specs.Line.{Convert, Publish, Split}
use Rattle.ssim_command_line.specs.Usage.{Names}
use Rattle.ssim_program.specs.Answers.{answers}
use Rattle.ssim_program.specs.Files.{Files, Kept}
use Rattle.ssim_program.specs.Offices.{Event, Happened, History, Leaves, Then, files_of}
use Rattle.ssim_program.specs.Offices.{StartKept, TakeKept, ReceiveKept, MergeKept, WithdrawKept}
use Rattle.ssim_program.specs.Offices.{MergeSinceKept, CarryKept, Unchanged, Came, AllCame}
use Rattle.ssim_program.specs.Receiving.{Receipt}
use Rattle.ssim_program.specs.Runs.{command_words}
use Rattle.ssim_program.specs.World.{Does, World}
use Rattle.ssim_program.specs.declared.refusal.Refusal.{Refusal}

-- The event that a command is, if it keeps a file: its desk is kept; or, of `receive`, the refused
-- texts alone; or, of `publish` and `convert`, its messages or its data set come; or, of `split`, its
-- data sets come, all or those before a refusal.
abbrev pub IsEventOf : Line → Event → Type 0
IsEventOf (Start notes dataset stations out) event = event ≡ StartKept dataset stations out
IsEventOf (Take effects desk out texts) event = event ≡ TakeKept desk out texts
IsEventOf (Receive refused form desk out names) event =
    ((receipts : List Receipt) × (event ≡ ReceiveKept refused desk out names receipts))
    ⊎ ((name : Text) × (texts : List ℕ) × (refused ≡ Some name) × (event ≡ Came name texts))
IsEventOf (Merge effects None mine theirs out) event = event ≡ MergeKept mine theirs out
IsEventOf (Merge effects (Some since) mine theirs out) event =
    event ≡ MergeSinceKept since mine theirs out
IsEventOf (Carry effects mine theirs out) event = event ≡ CarryKept mine theirs out
IsEventOf (Withdraw effects desk out references) event =
    event ≡ WithdrawKept desk out references
IsEventOf (Publish from to reference out) event = (mail : List ℕ) × (event ≡ Came out mail)
IsEventOf (Convert mode file out) event = (set : List ℕ) × (event ≡ Came out set)
IsEventOf (Split dataset prefix) event = (sets : Kept) × (event ≡ AllCame sets)
IsEventOf line event = ⊥

-- a command leads from files to files by one event: its own, or that no file changed
pub record Leads (line : Line) (old new : Files) : Type 0 where
  pub event : Event
  pub is : IsEventOf line event ⊎ (event ≡ Unchanged)
  pub leaves : Leaves event old new

-- Whatever its status, a command leads from files to files by one event.
abbrev pub CommandsAreEvents : Type 0
CommandsAreEvents =
    (line : Line) (before after : World) (result : Result (Unit {0}) Refusal) (old : Files)
    → before.files ≡ Some old → Does (answers line before.files) before after result
    → (new : Files) × (after.files ≡ Some new) × Leads line old new

-- the event that a call of the program on these words is: of the command that they name, also after
-- `--explain`, or that no file changed
abbrev pub IsCall : List Text → Event → Type 0
IsCall words event =
    ((line : Line) × Names (command_words words) line × IsEventOf line event)
    ⊎ (event ≡ Unchanged)

-- a history goes on with a call of the program on the words of each of these, one after another
abbrev pub GoesOn : List (List Text) → History → History → Type 0
GoesOn [] history after = after ≡ history
GoesOn (words ∷ later) history after = (event : Event) × (files : Files) × IsCall words event
    × Leaves event (files_of history) files × GoesOn later (Then history event files) after

-- The files of a store are those at the end of a history, and after calls of the program those at
-- the end of the history that goes on with them.
abbrev pub Continues : List (List Text) → Option Files → Option Files → Type 0
Continues commands old new =
    (history : History) → Happened history → old ≡ Some (files_of history)
    → (after : History) × Happened after × GoesOn commands history after
    × (new ≡ Some (files_of after))
