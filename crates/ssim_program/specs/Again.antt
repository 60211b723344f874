-- What `tidy`, `export`, `select` or `convert` wrote can be tidied again, with the same bytes.
use Rattle.std.specs.Prelude.{◌≡◌, ℕ, ◌≤◌, List, [], ◌∷◌, length, ⊤, Option, Some, Ok}
use Rattle.std.specs.Io.KnownBytes.{Appends}
use Rattle.ssim_program.specs.Acts.{Act, Print}
use Rattle.ssim_program.specs.Answers.{tidy}
use Rattle.ssim_program.specs.Exports.{ReadsAsItself}
use Rattle.ssim_program.specs.Files.{Files, file_of}
use Rattle.ssim_command_line.specs.Line.{Line, Text, Tidy, Export, Select}
use Rattle.ssim_program.specs.Made.{file_limit}

-- what was taken has grown by bytes that are read as themselves
abbrev pub GrowsByItself : Option (List ℕ) → Option (List ℕ) → Type 0
GrowsByItself before after = (bytes : List ℕ) × ReadsAsItself bytes × Appends before after bytes

-- `tidy`, `export` and `select` print bytes that are read as themselves; nothing is said of other
-- commands. What `convert` keeps is read as itself by its own answer.
abbrev pub PrintsItself : Line → Option (List ℕ) → Option (List ℕ) → Type 0
PrintsItself (Tidy name) before after = GrowsByItself before after
PrintsItself (Export file) before after = GrowsByItself before after
PrintsItself (Select choice file flights) before after = GrowsByItself before after
PrintsItself _ before after = ⊤

-- From a file of bytes that are read as themselves `tidy` makes the same bytes.
abbrev pub TidiesOnce : Type 0
TidiesOnce = (all : Files) (name : Text) (bytes : List ℕ) (acts : List Act) → ReadsAsItself bytes
    → file_of all name ≡ Some bytes → length bytes ≤ file_limit
    → tidy (Some all) name (Ok acts) → acts ≡ Print bytes ∷ []
