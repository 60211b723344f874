-- What `check` and `problems` say of one data set.
use Rattle.std.specs.Prelude.{◌≡◌, List, [], ◌∷◌, Some, Ok, Err}
use Rattle.ssim_records.specs.declared.record.Record.{Record}
use Rattle.ssim_base.specs.declared.fault.BaseFault.{BaseFault}
use Rattle.ssim_base.specs.declared.note.Note.{Note}
use Rattle.ssim_base.specs.declared.problems.Problems.{Problems}
use Rattle.ssim_command_line.specs.Line.{Text}
use Rattle.ssim_program.specs.Files.{Files}
use Rattle.ssim_program.specs.Made.{FindsProblems, IsOfBytes, ReadsFile}

-- The refusal of a data set, which `check` prints, is the first of the problems that are found in
-- it. A data set that is valid has no problem.
abbrev pub RefusalIsFirstProblem : Type 0
RefusalIsFirstProblem =
    (files : Files) (name : Text) (problems : Problems)
    → FindsProblems (Some files) name problems
    → ((fault : BaseFault) → IsOfBytes fault → ReadsFile (Some files) name (Err fault)
    → (later : List BaseFault) × (problems.faults.items ≡ fault ∷ later))
    × ((base : List Record) (notes : List Note) → ReadsFile (Some files) name (Ok (base, notes))
    → problems.faults.items ≡ [])
