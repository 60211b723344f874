-- Which words are a command, and which are wrong: by what `clap` finds in them.
use Rattle.std.specs.Prelude.{◌≡◌, Bool, true, false, List, [], Option, Some, codes, map}
use Rattle.std.specs.List.{fold}
use Rattle.clap.specs.Faults.{fault_of}
use Rattle.clap.specs.Kinds.{IsAmong}
use Rattle.clap.specs.Simple.{new_shape, subcommand_of}
use Rattle.clap.specs.Words.{App, Row, Rule, Shape, with_subcommand}
use Rattle.clap.specs.declared.error.kind.ErrorKind.{ErrorKind}
use Rattle.clap.specs.declared.error.kind.ErrorKind.TheVariants as kind
use Rattle.ssim_command_line.specs.Line.{Line, Text, commands, line_from, values_in}

-- a command with these words and no subcommand
abbrev pub leaf : Text → List Rule → Shape
leaf name words = record (new_shape name) { rules = words }

-- the program without its commands
abbrev pub bare_program : App
bare_program = record {
  top = record (new_shape (codes "ssimdesk")) { subcommand_required = true; has_version = true };
  subs = [];
}

-- the program with its commands
abbrev pub whole_program : App
whole_program = fold with_subcommand bare_program (map (λ c. leaf c.name c.words) commands)

-- the line of the command of this name, if the matches have its values
abbrev pub line_at : Text → List Row → Option Line
line_at name rows = line_from name rows (values_in rows)

-- the words name this command: nothing is wrong with them, and the subcommand that they enter has
-- these values
pub record Names (words : List Text) (line : Line) : Type 0 where
  pub right : fault_of whole_program words ≡ []
  pub name : Text
  pub rows : List Row
  pub entered : subcommand_of whole_program words ≡ Some (name, rows)
  pub read : line_at name rows ≡ Some line

-- nothing is wrong with the words, but they name no command
abbrev pub IsNoCommand : List Text → Type 0
IsNoCommand words = (fault_of whole_program words ≡ []) × ((line : Line) → Names words line → ⊥)

-- whether the words ask for help
abbrev pub is_help : ErrorKind → Bool
is_help kind.DisplayHelp = true
is_help kind.DisplayVersion = true
is_help _ = false

-- the words ask for help, or are wrong
abbrev pub HasFault : List Text → Bool → Type 0
HasFault words help =
    (k : ErrorKind) × IsAmong k (fault_of whole_program words) × (is_help k ≡ help)
