-- Which files a command may replace, and when it holds the place of one.
use Rattle.std.specs.Prelude.{◌≡◌, ◌⊎◌, ◌+◌, ◌%◌, ◌^◌, ◌==◌, ◌||◌, ◌&&◌, ℕ, Bool, false, not, nat_eq, List, IfSome}
use Rattle.std.specs.Prelude.{IsTrue, ⊤}
use Rattle.std.specs.Prelude.{Option, None, Some, Result, Ok, Err, codes, length}
use Rattle.std.specs.List.{starts_with}
use Rattle.ssim_command_line.specs.Line.{Text}
use Rattle.ssim_program.specs.Answer.{Answer}
use Rattle.ssim_program.specs.Files.{Files, file_of}
use Rattle.ssim_program.specs.print.Refusal.{IsMemory, IsOfFile}
use Rattle.ssim_program.specs.declared.refusal.Refusal.{Refusal}
use Rattle.ssim_program.specs.declared.content_kind.ContentKind.{ContentKind}
use Rattle.ssim_program.specs.declared.content_kind.ContentKind.TheVariants as kind
use Rattle.ssim_program.specs.declared.store.HoldFault.{HoldFault}
use Rattle.ssim_program.specs.declared.store.HoldFault.TheVariants as fault

-- whether bytes begin as a desk file does
abbrev pub begins_desk_file : List ℕ → Bool
begins_desk_file bytes = starts_with nat_eq bytes (codes "SSIMDESK ")

-- whether bytes begin as a data set does
abbrev pub begins_data_set : List ℕ → Bool
begins_data_set bytes = starts_with nat_eq bytes (codes "1AIRLINE STANDARD SCHEDULE DATA SET")

-- Whether what a command keeps may replace a file of these bytes. A desk file replaces a desk file
-- or an empty file, and a data set a data set or an empty file; messages replace any file but a desk
-- file and a data set; refused texts replace an empty file alone.
abbrev pub replaces : ContentKind → List ℕ → Bool
replaces kind.DeskFile bytes = (length bytes == 0) || begins_desk_file bytes
replaces kind.DataSet bytes = (length bytes == 0) || begins_data_set bytes
replaces kind.Messages bytes = not (begins_desk_file bytes) && not (begins_data_set bytes)
replaces kind.RefusedTexts bytes = length bytes == 0

-- the file of this name may be replaced, or there is none, or the contract cannot see the files
abbrev pub MayReplace : Option Files → List ℕ → ContentKind → Type 0
MayReplace files name kept =
    IfSome files (λ all. IfSome (file_of all name) (λ bytes. IsTrue (replaces kept bytes)))

-- the file of this name may not be replaced, if the contract can see the files
abbrev pub IsOccupied : Option Files → List ℕ → ContentKind → Type 0
IsOccupied files name kept = IfSome files
    (λ all. (bytes : List ℕ) × (file_of all name ≡ Some bytes) × (replaces kept bytes ≡ false))

-- A store holds the file of this name for a command that may replace it. It refuses a file that may
-- not be replaced. No file of a store that the contract can see is held by another command, or
-- cannot be read.
abbrev pub HoldsFile : {H : Type 0} → Option Files → List ℕ → ContentKind → Result H HoldFault
    → Type 0
HoldsFile files name kept (Ok hold) = MayReplace files name kept
HoldsFile files name kept (Err fault.Memory) = ⊤
HoldsFile files name kept (Err fault.Occupied) = IsOccupied files name kept
HoldsFile files name kept (Err fault.Fault) = files ≡ None
HoldsFile files name kept (Err fault.Busy) = files ≡ None

-- Why the file of a name is not held for what a command keeps: memory ran out; or the file may not
-- be replaced, and the refusal is 93 with the name; or, of a store whose files the contract cannot
-- see, another command holds the file (92), or it cannot be read (91).
abbrev pub RefusesHold : Option Files → Text → ContentKind → Refusal → Type 0
RefusesHold files name kept refusal =
    IsMemory refusal
    ⊎ (IsOfFile 93 (codes "Occupied") name refusal × IsOccupied files name kept)
    ⊎ (IsOfFile 92 (codes "Busy") name refusal × (files ≡ None))
    ⊎ (IsOfFile 91 (codes "File") name refusal × (files ≡ None))

-- Why a file is not kept, by the count of the store's failures: memory ran out; or the store
-- counted one failure more, and the refusal is 91 with the name; or the file changed after it was
-- held, and the refusal is 92 with the name.
abbrev pub RefusesKeep : ℕ → ℕ → Text → Refusal → Type 0
RefusesKeep old new name refusal =
    (IsMemory refusal × (new ≡ old))
    ⊎ (IsOfFile 91 (codes "File") name refusal × (new ≡ (old + 1) % 2 ^ 64))
    ⊎ (IsOfFile 92 (codes "Busy") name refusal × (new ≡ old))

-- the place of a file that is kept, which replaces none of another kind
abbrev pub place_in : Option Files → List ℕ → ContentKind → Answer (Unit {0})
place_in files name kept (Ok x) = MayReplace files name kept
place_in files name kept (Err why) = RefusesHold files name kept why
