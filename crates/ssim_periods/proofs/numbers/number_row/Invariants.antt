use Rattle.std.proofs.Common.{◌≡◌, Some, length, map, drop, take}
use Rattle.ssim_periods.specs.internal.Gather.{gathered, numbered}
use Rattle.ssim_periods.proofs.numbers.number_row.Given as goal

abbrev pub invariant-loop-weekday : goal.invariant-loop-weekday
invariant-loop-weekday g l =
    let alike = g.V.Value.alike in let nothing = g.V.Value.nothing in let known = l.values in
    record {
      week : length l.row ≡ 7;
      size : length l.numbers ≡ 7;
      rest : gathered alike nothing known (drop l.weekday l.row) ≡ gathered alike nothing l.fn.values l.row;
      done : map (numbered nothing known) (take l.weekday l.numbers) ≡ map Some (take l.weekday l.row);
    }
