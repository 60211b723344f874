-- Each desk so far is equal to the one given.
use Rattle.std.proofs.Common.{◌≡◌, ◌+◌, All, length}
use Rattle.ssim_program.proofs.rehearse.lines.equal_desks.Given as goal

abbrev pub invariant-loop : goal.invariant-loop
invariant-loop l = record {
  count : length l.desks.items + 1 ≡ l.counter;
  each : All (λ one. one ≡ l.fn.desk) l.desks.items;
}
