-- The rows of the program's table, as `clap` reads them.
use Rattle.std.specs.Prelude.{◌≡◌, false, map, codes}
use Rattle.clap.specs.Words.{Rule, Shape, shape_of}
use Rattle.clap.specs.declared.builder.command.Command.{Command}
use Rattle.clap.specs.declared.builder.command.Command.TheViews.{out-Command}
use Rattle.ssim_command_line.specs.Line.{any_texts, flag, needed, optional, possible}
use Rattle.ssim_command_line.specs.Line.{repeated, several_texts}
use Rattle.ssim_command_line.specs.Usage.{leaf}
use Rattle.ssim_command_line.specs.declared.table.CommandRow.{CommandRow}
use Rattle.ssim_command_line.specs.declared.table.Word.{Word}
use Rattle.ssim_command_line.specs.declared.table.Word.TheVariants as word

-- the rule of a word
abbrev pub rule_of_word : Word → Rule
rule_of_word (word.First shown) = needed (codes "first")
rule_of_word (word.Second shown) = needed (codes "second")
rule_of_word (word.Third shown) = needed (codes "third")
rule_of_word (word.Fourth shown) = needed (codes "fourth")
rule_of_word (word.Possible shown) = possible (codes "second")
rule_of_word (word.Several shown) = several_texts
rule_of_word (word.Any shown) = any_texts
rule_of_word (word.Valued name shown) = optional name.now
rule_of_word (word.Repeated name shown) = repeated name.now
rule_of_word (word.Flag name) = flag name.now

-- the command of a row
abbrev pub shape_of_row : CommandRow → Shape
shape_of_row row = leaf row.name.now (map rule_of_word row.words.now)

-- the command has this shape, and no argument that its subcommands take too
abbrev pub IsLeaf : Shape → Command → Type 0
IsLeaf s c = (shape_of c ≡ s) × ((out-Command c).has_globals ≡ false)
