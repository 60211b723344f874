-- How the acts of a command meet the store and the printers.
use Rattle.std.specs.Prelude.{◌≡◌, ◌⊎◌, ℕ, true, List, [], ◌∷◌, Option, Result, Ok, Err}
use Rattle.ssim_base.specs.Export.{line}
use Rattle.ssim_program.specs.Acts.{Act, Print, Keep, Find, Stop, Acts}
use Rattle.ssim_program.specs.Answer.{Answer}
use Rattle.ssim_program.specs.Files.{Files, with_kept}
use Rattle.ssim_program.specs.Places.{RefusesKeep}
use Rattle.ssim_program.specs.print.Paper.{Breaks, Grows, Paper, PrintsOrFails}
use Rattle.ssim_program.specs.print.Refusal.{refusal_text}
use Rattle.ssim_program.specs.declared.refusal.Refusal.{Refusal}
use Rattle.ssim_program.specs.declared.refusal.Refusal.TheVariants as refused

-- The files by name, if the contract knows them; how many files the store failed to keep, a count
-- that wraps; and what was printed on `out`.
pub record World : Type 0 where
  pub files : Option Files
  pub failures : ℕ
  pub out : Paper

-- the files and the failures of a store, and the printer of `out`
abbrev pub world : Option Files → ℕ → Paper → World
world files failures out = record { files = files; failures = failures; out = out }

-- One act is done, or fails. What is printed is taken whole, and flushed; or a call of `out` fails
-- (52), and it has taken a prefix. A file is kept, and no other file changes; or it is not kept, and
-- the files are as they were. The store counts a failure exactly if it fails to keep a file (91). To
-- say something by the status changes nothing, and does not fail.
abbrev pub Acted : Act → World → World → Result (Unit {0}) Refusal → Type 0
Acted (Print bytes) before after (Ok x) =
    Grows bytes before.out after.out × (after.out.flushed ≡ true)
    × (after.files ≡ before.files) × (after.failures ≡ before.failures)
Acted (Print bytes) before after (Err why) =
    (why ≡ refused.WriteFault) × Breaks bytes before.out after.out
    × (after.files ≡ before.files) × (after.failures ≡ before.failures)
Acted (Keep name bytes) before after (Ok x) =
    (after.files ≡ with_kept ((name, bytes) ∷ []) before.files)
    × (after.failures ≡ before.failures) × (after.out ≡ before.out)
Acted (Keep name bytes) before after (Err why) =
    RefusesKeep before.failures after.failures name why
    × (after.files ≡ before.files) × (after.out ≡ before.out)
Acted Find before after (Ok x) = after ≡ before
Acted Find before after (Err why) = ⊥
Acted (Stop refusal) before after (Ok x) = ⊥
Acted (Stop refusal) before after (Err why) = (why ≡ refusal) × (after ≡ before)

-- the acts are done one after another, up to the first that fails
abbrev pub Performs : List Act → World → World → Result (Unit {0}) Refusal → Type 0
Performs [] before after (Ok x) = after ≡ before
Performs [] before after (Err why) = ⊥
Performs (act ∷ later) before after result =
    ((between : World) × Acted act before between (Ok tt) × Performs later between after result)
    ⊎ ((why : Refusal) × Acted act before after (Err why) × (result ≡ Err why))

-- A command does what its answer says: all of its acts, or those before the one that fails.
abbrev pub Does : Answer (List Act) → World → World → Result (Unit {0}) Refusal → Type 0
Does answer before after result =
    (acts : List Act) × Acts answer acts × Performs acts before after result

-- the printer took the whole line of the refusal, or a call failed and it took a prefix
abbrev pub PrintsRefusal : Refusal → Paper → Paper → Type 0
PrintsRefusal refusal before after = PrintsOrFails (line (refusal_text refusal)) before after
