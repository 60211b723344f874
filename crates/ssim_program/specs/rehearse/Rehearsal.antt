-- What a rehearsal prints: a line for each step, a line for each desk, and whether all exports are
-- equal.
use Rattle.std.specs.Prelude.{◌≡◌, ◌⊎◌, ℕ, ◌+◌, List, [], ◌∷◌, ◌++◌, All, codes, length, Option, Result, Ok}
use Rattle.std.specs.Prelude.{Err}
use Rattle.std.specs.Fmt.{decimal}
use Rattle.std.specs.FinMap.{entries}
use Rattle.std.specs.List.{flat_map}
use Rattle.ssim_base.specs.Base.{airline_of}
use Rattle.ssim_base.specs.BaseSeen.{BaseSeen}
use Rattle.ssim_base.specs.SavedBase.{IsBaseRecords}
use Rattle.ssim_base.specs.Export as exported
use Rattle.ssim_base.specs.Export.{line}
use Rattle.ssim_schedule.specs.declared.export.ExportFault.{ExportFault}
use Rattle.ssim_schedule.specs.declared.export.ExportFault.TheVariants as export
use Rattle.ssim_text.specs.Reference.{printed_reference}
use Rattle.ssim_held.specs.Held.{DeskState}
use Rattle.ssim_held.specs.Entries.{DeskSeen, state_of}
use Rattle.ssim_desk.specs.Meaning.{Exports}
use Rattle.ssim_desk.specs.Steps.{Runs}
use Rattle.ssim_desk.specs.declared.steps.Answer.{Answer}
use Rattle.ssim_desk.specs.declared.steps.Answer.TheVariants.{Taken, Repeated, Merged, Refused}
use Rattle.ssim_desk.specs.declared.steps.Step.{Step}
use Rattle.ssim_desk.specs.declared.steps.Step.TheVariants.{Take, Merge}
use Rattle.ssim_program.specs.Files.{Files}
use Rattle.ssim_command_line.specs.Line.{Text}
use Rattle.ssim_program.specs.Made.{HasFile, RefusesLoad, base_in}
use Rattle.ssim_program.specs.print.Refusal.{IsMemory, refusal_text}
use Rattle.ssim_program.specs.rehearse.Script.{RefusesScript, Script, SpellsScript, Written, Takes, Merges}
use Rattle.ssim_program.specs.declared.refusal.Refusal.{Refusal}
use Rattle.ssim_program.specs.declared.refusal.Refusal.TheVariants as refused
use Rattle.ssim_program.specs.declared.rehearse.line.RehearsalLine.{RehearsalLine}
use Rattle.ssim_program.specs.declared.rehearse.line.RehearsalLine.TheVariants as printed

-- ---- the lines, without their ends

-- the text of a line: for a step the desk and the result; for a desk what it holds and exports; for
-- the last line whether all exports are equal
abbrev pub rehearsal_text : RehearsalLine → List ℕ
rehearsal_text (printed.Taken desk reference) =
    decimal desk ++ codes " taken " ++ printed_reference reference
rehearsal_text (printed.Repeated desk reference) =
    decimal desk ++ codes " repeated " ++ printed_reference reference
rehearsal_text (printed.Merged desk) = decimal desk ++ codes " merged"
rehearsal_text (printed.Refused desk fault) =
    decimal desk ++ 32 ∷ refusal_text (refused.Desk fault)
rehearsal_text (printed.Exported desk messages bytes) =
    codes "desk " ++ decimal desk ++ codes " held " ++ decimal messages ++ codes " bytes "
    ++ decimal bytes
rehearsal_text (printed.NotExported desk airline fault) =
    codes "desk " ++ decimal desk ++ 32 ∷ refusal_text (refused.Export airline fault)
rehearsal_text printed.Same = codes "same"
rehearsal_text printed.Different = codes "different"

-- the bytes of a line, with its LF
abbrev pub printed_line : RehearsalLine → List ℕ
printed_line l = line (rehearsal_text l)

-- ---- the steps

-- the desk that a step changes
abbrev pub desk_of : Step → ℕ
desk_of (Take desk text) = desk
desk_of (Merge into from) = into

-- the line of a step on the desk that is printed with this number
abbrev pub answer_line : ℕ → Answer → RehearsalLine
answer_line desk (Taken reference) = printed.Taken desk reference
answer_line desk (Repeated reference) = printed.Repeated desk reference
answer_line desk Merged = printed.Merged desk
answer_line desk (Refused fault) = printed.Refused desk fault

-- the lines of steps, in order; desks are printed from 1
abbrev pub step_lines : List Step → List Answer → List RehearsalLine
step_lines (step ∷ steps) (answer ∷ answers) =
    answer_line (desk_of step + 1) answer ∷ step_lines steps answers
step_lines _ _ = []

-- ---- the desks

-- the export of a desk: its bytes, or why there are none
abbrev pub Outcome : Type 0
Outcome = Result (List ℕ) ExportFault

-- The desk has this export: the bytes of its meaning, or 50 or 51 if its meaning has none. Or
-- memory ran out, and the refusal is 90.
abbrev pub IsOutcome : DeskState → Outcome → Type 0
IsOutcome desk (Ok bytes) = Exports desk (Ok bytes)
IsOutcome desk (Err (export.Variations flight)) = Exports desk (Err (exported.Variations flight))
IsOutcome desk (Err export.Records) = Exports desk (Err exported.Records)
IsOutcome desk (Err export.WriteFault) = ⊥
IsOutcome desk (Err export.Memory) = Unit {0}

-- the line of the desk with this number and export
abbrev pub desk_line : ℕ → DeskState → Outcome → RehearsalLine
desk_line n desk (Ok bytes) = printed.Exported n (length (entries desk.held)) (length bytes)
desk_line n desk (Err fault) = printed.NotExported n (airline_of desk.base.records) fault

-- the lines of desks and their exports; n is the number of the first
abbrev pub desk_lines : ℕ → List DeskState → List Outcome → List RehearsalLine
desk_lines n [] outcomes = []
desk_lines n (desk ∷ desks) [] = []
desk_lines n (desk ∷ desks) (outcome ∷ outcomes) =
    desk_line n desk outcome ∷ desk_lines (n + 1) desks outcomes

-- each desk has this export
abbrev pub AreExports : List DeskState → List Outcome → Type 0
AreExports [] [] = Unit {0}
AreExports (desk ∷ desks) (outcome ∷ outcomes) = IsOutcome desk outcome × AreExports desks outcomes
AreExports desks outcomes = ⊥

-- each of these exports is equal to the one given
abbrev pub AreEqualTo : Outcome → List Outcome → Type 0
AreEqualTo outcome [] = Unit {0}
AreEqualTo outcome (other ∷ others) = (other ≡ outcome) × AreEqualTo outcome others

-- all exports are equal: the same bytes, or refusals of the same number and place
abbrev pub AreSame : List Outcome → Type 0
AreSame [] = Unit {0}
AreSame (outcome ∷ outcomes) = AreEqualTo outcome outcomes

-- the last line says `same` exactly if all exports are equal
abbrev pub IsVerdict : List Outcome → RehearsalLine → Type 0
IsVerdict outcomes l =
    (AreSame outcomes × (l ≡ printed.Same)) ⊎ ((AreSame outcomes → ⊥) × (l ≡ printed.Different))

-- ---- the rehearsal

-- a desk over the base that holds nothing
abbrev pub fresh : BaseSeen → DeskSeen
fresh base = record { base = base; held = []; applied = 0 }

-- the lines of desks after a run: a line for each with its export, and whether all exports are
-- equal
pub record HasEnds (after : List DeskState) (lines : List RehearsalLine) : Type 0 where
  pub outcomes : List Outcome
  pub exports : AreExports after outcomes
  pub last : RehearsalLine
  pub verdict : IsVerdict outcomes last
  pub all : lines ≡ desk_lines 1 after outcomes ++ last ∷ []

-- The lines of a run of steps on desks over one base, which hold nothing at the start: one line for
-- the result of each step, and then the lines of the desks after the run.
pub record Rehearses (base : BaseSeen) (count : ℕ) (steps : List Step)
    (lines : List RehearsalLine) : Type 0 where
  pub start : List DeskState
  pub number : length start ≡ count
  pub each : All (λ desk. desk ≡ state_of (fresh base)) start
  pub answers : List Answer
  pub after : List DeskState
  pub runs : Runs start steps answers after
  pub end_lines : List RehearsalLine
  pub ends : HasEnds after end_lines
  pub all : lines ≡ step_lines steps answers ++ end_lines

-- ---- from files

-- the step of a script with its text from the file
abbrev pub IsLoaded : Option Files → Written → Step → Type 0
IsLoaded files (Takes desk name) (Take d text) = (d ≡ desk) × HasFile files name text.items
IsLoaded files (Takes desk name) (Merge into from) = ⊥
IsLoaded files (Merges into from) (Take d text) = ⊥
IsLoaded files (Merges into from) (Merge i f) = (i ≡ into) × (f ≡ from)

-- each step of a script with its text
abbrev pub AreLoaded : Option Files → List Written → List Step → Type 0
AreLoaded files [] [] = Unit {0}
AreLoaded files [] (step ∷ steps) = ⊥
AreLoaded files (written ∷ script) [] = ⊥
AreLoaded files (written ∷ script) (step ∷ steps) =
    IsLoaded files written step × AreLoaded files script steps

-- the file of this name is this script
abbrev pub ReadsScript : Option Files → Text → Script → Type 0
ReadsScript files name script =
    (bytes : List ℕ) × HasFile files name bytes × SpellsScript script bytes

-- the file of this name is a script of this number of desks, and these are its steps with their
-- texts
pub record HasSteps (files : Option Files) (name : Text) (count : ℕ)
    (steps : List Step) : Type 0 where
  pub script : Script
  pub reads : ReadsScript files name script
  pub desks : script.count ≡ count
  pub loaded : AreLoaded files script.steps steps

-- what `rehearse` prints of three files and of the texts that the script names
pub record RehearsesFiles (files : Option Files) (dataset stations script : Text)
    (bytes : List ℕ) : Type 0 where
  pub base : BaseSeen
  pub read : base_in files dataset stations (Ok base)
  pub records : IsBaseRecords base.records
  pub count : ℕ
  pub steps : List Step
  pub has_steps : HasSteps files script count steps
  pub lines : List RehearsalLine
  pub rehearsed : Rehearses base count steps lines
  pub printed : bytes ≡ flat_map printed_line lines

-- ---- why it is refused

-- the text of a step is not loaded
abbrev pub RefusesStep : Option Files → Written → Refusal → Type 0
RefusesStep files (Takes desk name) refusal = RefusesLoad files name refusal
RefusesStep files (Merges into from) refusal = ⊥

-- the text of one of these steps is not loaded, or memory ran out
abbrev pub RefusesStepTexts : Option Files → List Written → Refusal → Type 0
RefusesStepTexts files script refusal =
    IsMemory refusal
    ⊎ ((before : List Written) × (step : Written) × (after : List Written)
    × (script ≡ before ++ step ∷ after)
    × ((steps : List Step) × AreLoaded files before steps) × RefusesStep files step refusal)

-- the script is not loaded, or is no script, or one of its texts is not loaded
abbrev pub RefusesSteps : Option Files → Text → Refusal → Type 0
RefusesSteps files name refusal =
    RefusesLoad files name refusal
    ⊎ ((bytes : List ℕ) × HasFile files name bytes × RefusesScript bytes refusal)
    ⊎ ((script : Script) × ReadsScript files name script × RefusesStepTexts files script.steps refusal)

-- Why there are no lines: memory ran out; or no base is read; or the steps are refused.
abbrev pub RefusesLines : Option Files → Text → Text → Text → Refusal → Type 0
RefusesLines files dataset stations script refusal =
    IsMemory refusal
    ⊎ base_in files dataset stations (Err refusal)
    ⊎ ((base : BaseSeen) × base_in files dataset stations (Ok base)
    × RefusesSteps files script refusal)
