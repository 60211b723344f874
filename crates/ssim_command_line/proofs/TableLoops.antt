-- The steps of the loops over the table.
use Rattle.std.proofs.Common.{◌≡◌, ◌∙◌, ℕ, ◌+◌, ◌<◌, List, [], ◌∷◌, ◌++◌, length, map, take, ap, ap₂, sym, refl}
use Rattle.std.proofs.Common.{false, get_or}
use Rattle.std.specs.List.{fold}
use Rattle.std.proofs.lemmas.Grind.{fold-append}
use Rattle.std.proofs.lemmas.List.{map_more}
use Rattle.clap.specs.Words.{AddsArg, AddsSubcommand, App, Rule, Shape, app_of, rule_of, with_subcommand}
use Rattle.clap.specs.declared.builder.arg.Arg.{Arg}
use Rattle.clap.specs.declared.builder.command.Command.{Command}
use Rattle.ssim_command_line.specs.Line.{Text}
use Rattle.ssim_command_line.specs.Usage.{leaf}
use Rattle.ssim_command_line.specs.declared.table.CommandRow.{CommandRow}
use Rattle.ssim_command_line.specs.declared.table.Word.{Word}
use Rattle.ssim_command_line.specs.internal.Table.{IsLeaf, rule_of_word, shape_of_row}

-- one more word
pub word_added : (name : Text) (words : List Word) (i : ℕ) (w : Word) (old new : Command) (a : Arg)
    → i < length words → AddsArg old a new → (rule_of a ≡ rule_of_word (get_or words i w)) → (a.global ≡ false)
    → IsLeaf (leaf name (map rule_of_word (take i words))) old
    → IsLeaf (leaf name (map rule_of_word (take (i + 1) words))) new
word_added name words i w old new a l adds rule local is = (
  ap (λ (x : App). x.top) (adds.shape local)
      ∙ ap₂ (λ (s : Shape) (r : Rule). record s { rules = s.rules ++ r ∷ [] }) is.0 rule
      ∙ ap (leaf name) (sym (map_more rule_of_word words i w l)),
  adds.globals ∙ rw (is.1, local) refl,
)

-- one more row
pub row_added : (rows : List CommandRow) (i : ℕ) (row : CommandRow) (first : App) (old new sub : Command)
    → i < length rows → AddsSubcommand old sub new → IsLeaf (shape_of_row (get_or rows i row)) sub
    → app_of old ≡ fold with_subcommand first (map shape_of_row (take i rows))
    → app_of new ≡ fold with_subcommand first (map shape_of_row (take (i + 1) rows))
row_added rows i row first old new sub l adds leaf is =
    adds.shape leaf.1
    ∙ ap₂ with_subcommand is leaf.0
    ∙ sym (fold-append with_subcommand first (map shape_of_row (take i rows)) (shape_of_row (get_or rows i row) ∷ []))
    ∙ ap (fold with_subcommand first) (sym (map_more shape_of_row rows i row l))
