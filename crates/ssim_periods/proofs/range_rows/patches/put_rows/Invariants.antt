use Rattle.std.proofs.Common.{◌≡◌, ◌+◌, ◌≤◌, vec_len, map}
use Rattle.std.specs.List.{All}
use Rattle.ssim_periods.specs.internal.Splits.{patched_from}
use Rattle.ssim_periods.proofs.range_rows.patches.put_rows.Given as goal

abbrev pub invariant-loop-patch : goal.invariant-loop-patch
invariant-loop-patch g l = record {
  room : l.from + vec_len l.patches ≤ vec_len l.rows;
  rest : patched_from l.from (map (λ patch. patch.items) l.patches.items) l.rows.items ≡ patched_from l.from (map (λ patch. patch.items) l.fn.patches.items) l.fn.rows.items;
  short : All (λ patch. vec_len patch ≤ 7) l.patches.items;
}

abbrev pub decreases-loop-patch : goal.decreases-loop-patch
decreases-loop-patch g l = goal.left-loop-patch g l
