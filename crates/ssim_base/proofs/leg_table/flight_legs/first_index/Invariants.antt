-- No entry so far is of the leg sequence.
use Rattle.std.proofs.Common.{◌≡◌, ◌+◌, drop}
use Rattle.std.specs.List.{position_or_len}
use Rattle.ssim_base.specs.internal.LegTable.{is_numbered}
use Rattle.ssim_base.proofs.leg_table.flight_legs.first_index.Given as goal

abbrev pub invariant-loop-index : goal.invariant-loop-index
invariant-loop-index l = position_or_len (is_numbered l.sequence) (drop l.index l.entries) + l.index ≡ position_or_len (is_numbered l.sequence) l.entries
