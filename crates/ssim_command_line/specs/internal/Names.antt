-- The names of the commands.
use Rattle.std.specs.Prelude.{codes}
use Rattle.ssim_command_line.specs.Line.{Text}
use Rattle.ssim_command_line.specs.declared.command_name.CommandName.{CommandName}
use Rattle.ssim_command_line.specs.declared.command_name.CommandName.TheVariants as name

-- how a command is spelled
abbrev pub spelled : CommandName → Text
spelled name.Check = codes "check"
spelled name.Problems = codes "problems"
spelled name.Tidy = codes "tidy"
spelled name.Start = codes "start"
spelled name.Take = codes "take"
spelled name.Receive = codes "receive"
spelled name.Merge = codes "merge"
spelled name.Carry = codes "carry"
spelled name.Texts = codes "texts"
spelled name.Withdraw = codes "withdraw"
spelled name.Show = codes "show"
spelled name.History = codes "history"
spelled name.Blame = codes "blame"
spelled name.List = codes "list"
spelled name.Board = codes "board"
spelled name.Calendar = codes "calendar"
spelled name.Info = codes "info"
spelled name.Stations = codes "stations"
spelled name.Sql = codes "sql"
spelled name.Diff = codes "diff"
spelled name.Publish = codes "publish"
spelled name.Page = codes "page"
spelled name.Findings = codes "findings"
spelled name.Export = codes "export"
spelled name.Select = codes "select"
spelled name.Convert = codes "convert"
spelled name.Split = codes "split"
spelled name.Rehearse = codes "rehearse"
spelled name.Explain = codes "explain"
