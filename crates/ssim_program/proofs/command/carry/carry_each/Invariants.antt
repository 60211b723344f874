-- The lines so far, and what the messages that are left do, are what all messages do.
use Rattle.std.specs.Prelude.{All}
use Rattle.ssim_base.specs.BaseSeen.{BaseSeen}
use Rattle.ssim_base.specs.ReadBack.{HasFrame}
use Rattle.ssim_held.specs.Entries.{IsEntry}
use Rattle.ssim_program.proofs.CarriedLines.{AreCarried, StopsLater}
use Rattle.ssim_program.proofs.command.carry.carry_each.Given as goal

abbrev pub invariant-loop-held : goal.invariant-loop-held
invariant-loop-held l = record {
  carried : (theirs : BaseSeen) → All (IsEntry theirs.records) l.messages
      → AreCarried theirs l.fn.desk l.messages l.held-index l.desk l.lines.items;
  stops : (theirs : BaseSeen) → All (IsEntry theirs.records) l.messages
      → StopsLater theirs l.fn.desk l.messages l.held-index l.desk;
  framed : HasFrame l.frame l.desk.base.records;
}
