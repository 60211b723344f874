use Rattle.std.proofs.Common.{◌≡◌, ◌++◌, map, drop}
use Rattle.std.specs.List.{flat_map}
use Rattle.ssim_periods.specs.Pieces.{pieces_with}
use Rattle.ssim_periods.proofs.range_rows.RangeRows.pieces.Given as goal

abbrev pub invariant-loop-place : goal.invariant-loop-place
invariant-loop-place g l = l.pieces.items ++ flat_map (pieces_with g.V.Value.alike l.self.days) (map (λ other. other.now) (drop l.place l.values)) ≡ flat_map (pieces_with g.V.Value.alike l.self.days) (map (λ other. other.now) l.values)
