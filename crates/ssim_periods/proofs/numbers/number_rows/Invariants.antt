use Rattle.std.proofs.Common.{◌≡◌, Some, map, drop, take}
use Rattle.std.specs.List.{flat_map}
use Rattle.ssim_periods.specs.internal.Gather.{gathered, numbered}
use Rattle.ssim_periods.proofs.numbers.number_rows.Given as goal

abbrev pub invariant-loop-row : goal.invariant-loop-row
invariant-loop-row g l =
    let alike = g.V.Value.alike in let nothing = g.V.Value.nothing in let known = l.values in
    record {
      rest : gathered alike nothing known (flat_map (λ row. row) (drop l.row-index l.rows)) ≡ gathered alike nothing l.fn.values (flat_map (λ row. row) l.rows);
      done : map (map (numbered nothing known)) l.numbers.items ≡ map (map Some) (take l.row-index l.rows);
    }
