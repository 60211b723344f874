use Rattle.std.proofs.Common.{◌≡◌, ◌≤◌, All, length, map, take, vec_capacity, vec_len}
use Rattle.ssim_desk.specs.clauses.Steps.{IsOwnMerge, LeavesIdle}
use Rattle.ssim_desk.specs.Steps.{Runs}
use Rattle.ssim_desk.proofs.StepLemmas.{state}
use Rattle.ssim_desk.proofs.steps.run_steps.Given as goal

abbrev pub invariant-loop-next : goal.invariant-loop-next
invariant-loop-next g l = record {
  count : vec_len l.answers ≡ l.next-index;
  room : length l.steps ≤ vec_capacity l.answers;
  runs : Runs (map (state g.D.Holder.seen) l.fn.desks) (take l.next-index l.steps) l.answers.items (map (state g.D.Holder.seen) l.desks);
  own : All IsOwnMerge l.steps → l.desks ≡ l.fn.desks;
  idle : LeavesIdle l.fn.desks (take l.next-index l.steps) l.answers.items l.desks;
}
