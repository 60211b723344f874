-- Scripts as they are read, and the results of their steps and desks.
use Rattle.std.specs.Prelude.{◌≡◌, ◌⊎◌, ℕ, ◌<◌, List, map, Option, Some, None, Ok, Err}
use Rattle.ssim_program.specs.print.Refusal.{IsMemory}
use Rattle.ssim_program.specs.declared.refusal.Refusal.{Refusal}
use Rattle.ssim_program.specs.declared.refusal.Refusal.TheVariants as refused
use Rattle.ssim_schedule.specs.declared.export.ExportFault.{ExportFault}
use Rattle.ssim_program.specs.rehearse.Script.{Written, Script, IsFirstOther, Takes, Merges}
use Rattle.ssim_program.specs.declared.rehearse.outcome.Outcome as kept
use Rattle.ssim_program.specs.declared.rehearse.outcome.Outcome.TheVariants as kept_as
use Rattle.ssim_program.specs.declared.rehearse.script.Script as read
use Rattle.ssim_program.specs.declared.rehearse.script.Written as spelt
use Rattle.ssim_program.specs.declared.rehearse.script.Written.TheVariants as spelt_as
use Rattle.ssim_program.specs.rehearse.Rehearsal.{Outcome}

-- the refusal names the first line that spells no step, or memory ran out
abbrev pub IsOtherLine : ℕ → List (ℕ × List ℕ) → Refusal → Type 0
IsOtherLine count lines refusal = IsMemory refusal
    ⊎ ((number : ℕ) × (refusal ≡ refused.Script number) × IsFirstOther count lines number)

-- the desks of a step are below this number
abbrev pub IsStepOf : ℕ → Written → Type 0
IsStepOf count (Takes desk name) = desk < count
IsStepOf count (Merges into from) = (into < count) × (from < count)

-- a step of a script as the specification sees it
abbrev pub as_written : spelt.Written → Written
as_written (spelt_as.Take desk name) = Takes desk name.now
as_written (spelt_as.Merge into from) = Merges into from

-- a script as the specification sees it
abbrev pub script_of : read.Script → Script
script_of script = record { count = script.count; steps = map as_written script.steps.items }

-- the export of a desk as the specification sees it
abbrev pub outcome_of : kept.Outcome → Outcome
outcome_of (kept_as.Exported buffer) = Ok buffer.bytes
outcome_of (kept_as.Refused fault) = Err fault

-- the export that a buffer has, unless there was a fault
abbrev pub outcome_with : List ℕ → Option ExportFault → Outcome
outcome_with bytes None = Ok bytes
outcome_with bytes (Some fault) = Err fault
