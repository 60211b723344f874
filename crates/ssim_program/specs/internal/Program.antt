-- What a command has made, and what the program does with it.
use Rattle.std.specs.Prelude.{Vec, ◌≡◌, ◌⊎◌, ◌&&◌, ℕ, Bool, true, false, List, [], ◌∷◌, map, Option}
use Rattle.std.specs.Prelude.{None, Some, Result, Ok, Err, ⊤, if◌then◌else◌}
use Rattle.ssim_base.specs.Timetable.{days_of}
use Rattle.ssim_desk.specs.Desk.{days_of_desk}
use Rattle.ssim_held.specs.File.{desk_file}
use Rattle.ssim_parts.specs.Chosen.{chosen_days}
use Rattle.ssim_program.specs.Acts.{Act, Print, Keep, found_then, prints, status_of}
use Rattle.ssim_program.specs.Again.{GrowsByItself}
use Rattle.ssim_program.specs.Answer.{Answer}
use Rattle.ssim_program.specs.Answers.{answers, take_each}
use Rattle.ssim_program.specs.Exports.{export_in}
use Rattle.ssim_program.specs.Files.{Files}
use Rattle.ssim_program.specs.Splitting.{split}
use Rattle.ssim_program.specs.Runs.{PrintsHelp, RefusesHelp, SaysWrong}
use Rattle.ssim_program.specs.World.{Does, PrintsRefusal, World}
use Rattle.ssim_command_line.specs.Line.{Line}
use Rattle.ssim_program.specs.print.Paper.{Paper}
use Rattle.ssim_program.specs.declared.refusal.Refusal.TheVariants as refused
use Rattle.clap.specs.Values.{kind_of}
use Rattle.ssim_command_line.specs.Usage.{is_help}
use Rattle.ssim_command_line.specs.declared.command_line.LineFault.{LineFault}
use Rattle.ssim_command_line.specs.declared.command_line.LineFault.TheVariants as fault
use Rattle.ssim_program.specs.declared.made.Contents.{Contents}
use Rattle.ssim_program.specs.declared.made.Contents.TheVariants as contents
use Rattle.ssim_program.specs.declared.made.Kept.{Kept}
use Rattle.ssim_program.specs.declared.made.Made.{Made}
use Rattle.ssim_program.specs.declared.made.Report.{Report}
use Rattle.ssim_program.specs.declared.made.Made.TheVariants as made
use Rattle.ssim_program.specs.declared.refusal.Refusal.{Refusal}

-- the bytes are an answer, or the refusal is
abbrev pub Answers : {A : Type 0} → Answer (List ℕ) → Result (Vec ℕ A) Refusal → Type 0
Answers answer (Ok lines) = answer (Ok lines.items)
Answers answer (Err why) = answer (Err why)

-- the lines are an answer, with whether something was found; or the refusal is
abbrev pub Reports : Answer (List ℕ × Bool) → Result Report Refusal → Type 0
Reports answer (Ok report) = answer (Ok (report.lines.items, report.found))
Reports answer (Err why) = answer (Err why)

-- the bytes of contents
abbrev pub bytes_of : Contents → List ℕ
bytes_of (contents.DeskFile desk) = desk_file desk.base desk.held
bytes_of (contents.Bytes bytes) = bytes.items

-- the acts that keep the refused texts, if there is a place for them, and then another file
abbrev pub keeps : {H : Type 0} → (H → List ℕ) → Option (Kept H) → Kept H → List Act
keeps file None kept = Keep (file kept.place) (bytes_of kept.contents) ∷ []
keeps file (Some refused) kept =
    Keep (file refused.place) (bytes_of refused.contents)
    ∷ Keep (file kept.place) (bytes_of kept.contents) ∷ []

-- what is done with what a command has made is an answer
abbrev pub Makes : {H : Type 0} → (H → List ℕ) → Option Files → Answer (List Act) → Made H → Type 0
Makes file files answer (made.Lines lines) = answer (Ok (Print lines.items ∷ []))
Makes file files answer (made.Reported found lines) =
    answer (Ok (found_then found (Print lines.items ∷ [])))
Makes file files answer (made.Kept kept lines) =
    answer (Ok (Keep (file kept.place) (bytes_of kept.contents) ∷ Print lines.items ∷ []))
Makes file files answer (made.Printed found lines refused kept) =
    answer (Ok (found_then found (Print lines.items ∷ keeps file refused kept)))
Makes file files answer (made.DataSet set) = (result : Result (List Act) Refusal)
    → prints (export_in set (days_of set)) result → answer result
Makes file files answer (made.Desk desk) = (result : Result (List Act) Refusal)
    → prints (export_in desk.base.records (days_of_desk desk)) result → answer result
Makes file files answer (made.Part desk choice) = (result : Result (List Act) Refusal)
    → prints (export_in desk.base.records (chosen_days choice (days_of_desk desk))) result
    → answer result
Makes file files answer (made.Texts place desk names effects) = (result : Result (List Act) Refusal)
    → take_each files effects desk (file place) (map (λ t. t.now) names.now) desk result
    → answer result
Makes file files answer (made.Sections dataset prefix) = (result : Result (List Act) Refusal)
    → split files dataset.now prefix.now result → answer result

-- the lines are what a command has made, or it is refused
abbrev pub AreLines : {A H : Type 0} → Result (Vec ℕ A) Refusal → Result (Made H) Refusal → Type 0
AreLines (Ok v) (Ok (made.Lines lines)) = lines.items ≡ v.items
AreLines (Err why) (Err refusal) = refusal ≡ why
AreLines _ _ = ⊥

-- the report is what a command has made, whose words ask for the status or not; or it is refused
abbrev pub IsReport : {H : Type 0} → Bool → Result Report Refusal → Result (Made H) Refusal → Type 0
IsReport asked (Ok report) (Ok (made.Reported found lines)) =
    (found ≡ (asked && report.found)) × (lines.items ≡ report.lines.items)
IsReport asked (Err why) (Err refusal) = refusal ≡ why
IsReport asked _ _ = ⊥

-- exactly these acts
abbrev pub exactly : List Act → Answer (List Act)
exactly acts (Ok these) = these ≡ acts
exactly acts (Err why) = ⊥

-- what is done with what a command has made
abbrev pub will : {H : Type 0} → (H → List ℕ) → Option Files → Made H → Answer (List Act)
will file files (made.Lines lines) = exactly (Print lines.items ∷ [])
will file files (made.Reported found lines) = exactly (found_then found (Print lines.items ∷ []))
will file files (made.Kept kept lines) =
    exactly (Keep (file kept.place) (bytes_of kept.contents) ∷ Print lines.items ∷ [])
will file files (made.Printed found lines refused kept) =
    exactly (found_then found (Print lines.items ∷ keeps file refused kept))
will file files (made.DataSet set) = prints (export_in set (days_of set))
will file files (made.Desk desk) = prints (export_in desk.base.records (days_of_desk desk))
will file files (made.Part desk choice) =
    prints (export_in desk.base.records (chosen_days choice (days_of_desk desk)))
will file files (made.Texts place desk names effects) =
    take_each files effects desk (file place) (map (λ t. t.now) names.now) desk
will file files (made.Sections dataset prefix) = split files dataset.now prefix.now

-- whether the status is to say that something was found, by what was made
abbrev pub says_found : {H : Type 0} → Made H → Bool
says_found (made.Reported found lines) = found
says_found (made.Printed found lines refused kept) = found
says_found _ = false

-- the status of a command that is done, by what was made
abbrev pub made_status : {H : Type 0} → Made H → ℕ
made_status m = if says_found m then 3 else 0

-- a command is done, and this is its status
abbrev pub IsDone : Line → World → World → ℕ → Type 0
IsDone command before after status =
    (done : Does (answers command before.files) before after (Ok tt)) × (status ≡ status_of done.0)

-- what a data set, a desk or a part prints is read as itself; nothing is said of other things made
abbrev pub MadeItself : {H : Type 0} → Made H → Option (List ℕ) → Option (List ℕ) → Type 0
MadeItself (made.DataSet set) before after = GrowsByItself before after
MadeItself (made.Desk desk) before after = GrowsByItself before after
MadeItself (made.Part desk choice) before after = GrowsByItself before after
MadeItself _ before after = ⊤

-- a command has made an answer, or is refused as the answer says
abbrev pub MakesOr : {H : Type 0} → (H → List ℕ) → Option Files → Answer (List Act)
    → Result (Made H) Refusal → Type 0
MakesOr file files answer (Ok m) = Makes file files answer m
MakesOr file files answer (Err why) = answer (Err why)

-- help is printed, with status 0, or refused, with status 1
abbrev pub SaysHelp : Paper → Paper → Paper → Paper → ℕ → Type 0
SaysHelp out out' err err' status =
    ((status ≡ 0) × PrintsHelp out out' err err') ⊎ ((status ≡ 1) × RefusesHelp out out' err err')

-- the printers and the status after words that make no request
abbrev pub EndsWithoutRequest : LineFault → Paper → Paper → Paper → Paper → ℕ → Type 0
EndsWithoutRequest fault.Memory out out' err err' status =
    (status ≡ 1) × (out' ≡ out) × PrintsRefusal refused.Memory err err'
EndsWithoutRequest (fault.Shown error) out out' err err' status =
    ((is_help (kind_of error) ≡ true) × SaysHelp out out' err err' status)
    ⊎ ((is_help (kind_of error) ≡ false) × (status ≡ 2) × SaysWrong out out' err err')
EndsWithoutRequest fault.NoCommand out out' err err' status =
    (status ≡ 2) × SaysWrong out out' err err'
