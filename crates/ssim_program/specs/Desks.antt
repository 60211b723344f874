-- What the commands on desk files read, make and print, and why they are refused.
use Rattle.std.specs.Prelude.{◌≡◌, ℕ, List, Option}
use Rattle.std.specs.Prelude.{Ok, Err}
use Rattle.ssim_base.specs.BaseSeen.{BaseSeen}
use Rattle.ssim_base.specs.Export.{line}
use Rattle.ssim_base.specs.declared.resolution.ResolveFault.TheVariants as resolve_fault
use Rattle.ssim_text.specs.Message.{MessageValue}
use Rattle.ssim_text.specs.declared.reference.Reference.{Reference}
use Rattle.ssim_held.specs.File.{IsDeskFile}
use Rattle.ssim_held.specs.Held.{Says}
use Rattle.ssim_held.specs.Entries.{DeskSeen, Entry, map_of, state_of}
use Rattle.ssim_held.specs.declared.fault.DeskFault.{DeskFault}
use Rattle.ssim_held.specs.declared.fault.DeskFault.TheVariants as desk_fault
use Rattle.ssim_desk.specs.Desk.{take_answer}
use Rattle.ssim_desk.specs.Steps.{Merges, RefusesDesk, RefusesText, Takes}
use Rattle.ssim_desk.specs.declared.desk.Took.{Took}
use Rattle.ssim_desk.specs.declared.desk.Took.TheVariants as took
use Rattle.ssim_desk.specs.declared.steps.Answer.TheVariants.{Merged}
use Rattle.ssim_program.specs.Files.{Files}
use Rattle.ssim_command_line.specs.Line.{Text}
use Rattle.ssim_program.specs.Answer.{Answer, ◌>>=◌}
use Rattle.ssim_program.specs.Made.{file_in}
use Rattle.ssim_program.specs.print.PrintedLine.{printed_text}
use Rattle.ssim_program.specs.declared.print.printed_line.PrintedLine.{PrintedLine}
use Rattle.ssim_program.specs.declared.print.printed_line.PrintedLine.TheVariants as printed
use Rattle.ssim_program.specs.declared.refusal.Refusal.{Refusal}
use Rattle.ssim_program.specs.declared.refusal.Refusal.TheVariants as refused

-- ---- desk files

-- the bytes are no desk file
abbrev pub IsNoDeskFile : List ℕ → Type 0
IsNoDeskFile bytes = (base : BaseSeen) (entries : List Entry) → IsDeskFile bytes base entries → ⊥

-- the desk of a desk file, or 62
abbrev pub desk_of_file : List ℕ → Answer DeskSeen
desk_of_file bytes (Ok desk) = IsDeskFile bytes desk.base desk.held
desk_of_file bytes (Err why) =
    IsNoDeskFile bytes × (offset : ℕ) × (why ≡ refused.Desk (desk_fault.File offset))

-- the desk in a file
abbrev pub desk_in : Option Files → Text → Answer DeskSeen
desk_in files name = do
  bytes ← file_in files name
  desk_of_file bytes

-- the line with the number of messages that a desk holds
abbrev pub held_line : ℕ → List ℕ
held_line n = line (printed_text (printed.Held n))

-- ---- texts

-- the line of what became of a text, with the reference of its message
abbrev pub took_printed : Took → Reference → PrintedLine
took_printed took.Taken reference = printed.Taken reference
took_printed took.Repeated reference = printed.Repeated reference

-- the line that `take` prints for one text
abbrev pub took_line : Took → Reference → List ℕ
took_line answer reference = line (printed_text (took_printed answer reference))

-- a desk takes a text: what became of it, the reference that it says, and the desk afterwards
pub record IsTaken (before : DeskSeen) (text : List ℕ) (answer : Took) (reference : Reference)
    (after : DeskSeen) : Type 0 where
  pub message : MessageValue
  pub says : Says before.base text reference message
  pub takes : Takes (state_of before) text (take_answer (Ok (answer, reference))) (map_of after.held)
  pub base : after.base ≡ before.base

-- a text is taken: the desk afterwards, and the line
abbrev pub taken : List ℕ → DeskSeen → Answer (DeskSeen × List ℕ)
taken text desk (Ok made) = (answer : Took) × (reference : Reference)
    × IsTaken desk text answer reference made.0 × (made.1 ≡ took_line answer reference)
taken text desk (Err why) =
    (fault : DeskFault) × RefusesText (state_of desk) text fault × (why ≡ refused.Desk fault)

-- the text in a file is taken
abbrev pub text_taken : Option Files → Text → DeskSeen → Answer (DeskSeen × List ℕ)
text_taken files name desk = do
  text ← file_in files name
  taken text desk

-- ---- two desks

-- a desk that holds the messages of both desks
pub record IsMergeOf (mine theirs after : DeskSeen) : Type 0 where
  pub merges : Merges (state_of mine) (state_of theirs) Merged (map_of after.held)
  pub base : after.base ≡ mine.base

-- two desks are merged
abbrev pub merged : DeskSeen → DeskSeen → Answer DeskSeen
merged mine theirs (Ok after) = IsMergeOf mine theirs after
merged mine theirs (Err why) = (fault : DeskFault)
    × RefusesDesk (state_of mine) (state_of theirs) fault × (why ≡ refused.Desk fault)

-- ---- words

-- the flight of a designator is another airline's
abbrev pub other_airline : Refusal
other_airline = refused.Desk (desk_fault.Resolve (resolve_fault.Airline 0))
