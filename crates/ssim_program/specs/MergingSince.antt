-- What `merge --since` makes of two desks that came from an older one.
use Rattle.std.specs.Prelude.{◌≡◌, ◌≢◌, ◌⊎◌, ◌↔◌, ℕ, List, [], Option, Some, None, Ok, Err}
use Rattle.std.specs.FinMap.{get}
use Rattle.ssim_text.specs.Message.{MessageValue}
use Rattle.ssim_text.specs.declared.reference.Reference.{Reference}
use Rattle.ssim_held.specs.Entries.{DeskSeen, Entry, map_of, state_of}
use Rattle.ssim_held.specs.File.{IsDeskFile}
use Rattle.ssim_held.specs.Held.{Holds}
use Rattle.ssim_command_line.specs.Line.{Text}
use Rattle.ssim_program.specs.Answer.{Answer, Finds, ◌>>=◌}
use Rattle.ssim_program.specs.Desks.{desk_of_file, merged}
use Rattle.ssim_program.specs.Files.{Files}
use Rattle.ssim_program.specs.Made.{file_in}

-- the older desk: that of a desk file, or none if the file is empty, or 62
abbrev pub older_of_file : List ℕ → Answer (Option DeskSeen)
older_of_file bytes (Ok None) = bytes ≡ []
older_of_file bytes (Ok (Some desk)) = IsDeskFile bytes desk.base desk.held
older_of_file bytes (Err why) = (bytes ≢ []) × desk_of_file bytes (Err why)

-- the older desk in a file
abbrev pub older_in : Option Files → Text → Answer (Option DeskSeen)
older_in files name = do
  bytes ← file_in files name
  older_of_file bytes

-- what an older desk holds
abbrev pub held_by : Option DeskSeen → List Entry
held_by None = []
held_by (Some old) = old.held

-- an older desk has the base of this one; if there is none, nothing is asked
abbrev pub IsOver : Option DeskSeen → DeskSeen → Type 0
IsOver None desk = Unit {0}
IsOver (Some old) desk = old.base ≡ desk.base

-- The desk without those messages that were held before and that the other desk does not hold: the
-- other has withdrawn them since.
pub record IsWithoutWithdrawn (before : List Entry) (other desk left : DeskSeen) : Type 0 where
  pub base : left.base ≡ desk.base
  pub holds : (reference : Reference) (message : MessageValue)
      → Holds (state_of left) reference message
      ↔ (Holds (state_of desk) reference message
      × (get (map_of before) reference ≡ Some message → Holds (state_of other) reference message))

-- Two desks are merged, each without the messages that the other has withdrawn since an older desk.
-- So a message is held afterwards that both hold, or that one of them holds and the older one did not.
abbrev pub merged_since : Option DeskSeen → DeskSeen → DeskSeen → Answer DeskSeen
merged_since old mine theirs = do
  left ← Finds (IsWithoutWithdrawn (held_by old) theirs mine)
  brought ← Finds (IsWithoutWithdrawn (held_by old) mine theirs)
  merged left brought

-- ---- laws

-- It makes no difference which of the two is named first: the same messages are held afterwards.
abbrev pub SinceCommutes : Type 0
SinceCommutes =
    (old : Option DeskSeen) (mine theirs one other : DeskSeen)
    → merged_since old mine theirs (Ok one) → merged_since old theirs mine (Ok other)
    → (reference : Reference) (message : MessageValue)
    → Holds (state_of one) reference message ↔ Holds (state_of other) reference message

-- If both hold what the older one held, nothing was withdrawn, and all that either holds is held
-- afterwards, as after a merge.
abbrev pub SinceIsMerging : Type 0
SinceIsMerging =
    (old : Option DeskSeen) (mine theirs after : DeskSeen)
    → merged_since old mine theirs (Ok after)
    → ((reference : Reference) (message : MessageValue)
    → get (map_of (held_by old)) reference ≡ Some message
    → Holds (state_of mine) reference message × Holds (state_of theirs) reference message)
    → (reference : Reference) (message : MessageValue)
    → Holds (state_of after) reference message
    ↔ (Holds (state_of mine) reference message ⊎ Holds (state_of theirs) reference message)

-- If the other desk is the older one, it brings nothing: what this desk holds is held afterwards, and
-- what it has withdrawn stays withdrawn.
abbrev pub SinceItself : Type 0
SinceItself =
    (old mine after : DeskSeen) → merged_since (Some old) mine old (Ok after)
    → (reference : Reference) (message : MessageValue)
    → Holds (state_of after) reference message ↔ Holds (state_of mine) reference message
