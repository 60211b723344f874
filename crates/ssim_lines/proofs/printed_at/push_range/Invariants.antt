-- What was added so far, and the texts at the numbers that are left, are all texts.
use Rattle.std.proofs.Common.{◌≡◌, ◌-◌, ◌++◌}
use Rattle.std.specs.List.{flat_map, range_with_len}
use Rattle.ssim_lines.proofs.printed_at.push_range.Given as goal

abbrev pub invariant-loop-number : goal.invariant-loop-number
invariant-loop-number g l =
    let text = g.T.PrintedAt.text l.printed in
    l.lines.items ++ flat_map text (range_with_len l.number (l.end - l.number))
    ≡ l.initial.lines.items ++ flat_map text (range_with_len l.from (l.end - l.from))
