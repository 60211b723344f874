-- The command has the words so far.
use Rattle.std.proofs.Common.{map, take}
use Rattle.ssim_command_line.specs.Usage.{leaf}
use Rattle.ssim_command_line.specs.internal.Table.{IsLeaf, rule_of_word}
use Rattle.ssim_command_line.proofs.table.CommandRow.command.Given as goal

abbrev pub invariant-loop-word : goal.invariant-loop-word
invariant-loop-word l = IsLeaf (leaf l.self.name.now (map rule_of_word (take l.word-index l.self.words.now))) l.command
