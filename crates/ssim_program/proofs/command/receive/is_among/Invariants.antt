-- None of the names so far is the file's.
use Rattle.std.proofs.Common.{map, take, false}
use Rattle.ssim_program.specs.Receiving.{IsAmong}
use Rattle.ssim_program.proofs.command.receive.is_among.Given as goal

abbrev pub invariant-loop-other : goal.invariant-loop-other
invariant-loop-other g l = IsAmong false (g.S.Store.files l.store) l.name (take l.other-index (map (λ t. t.now) l.others))
