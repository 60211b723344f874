use Rattle.std.proofs.Common.{◌<◌, length, rules, arith}
use Rattle.ssim_periods.proofs.NumberLemmas.{row-next, row-numbered}
use Rattle.ssim_periods.proofs.numbers.number_row.Goals as goal

pub loop-weekday-preserved : goal.loop-weekday-preserved
loop-weekday-preserved g c =
    let alike = g.V.Value.alike in let nothing = g.V.Value.nothing in let row = c.args.row.now in let l = c.loop-weekday in let i = l.invariant in
    let known = l.values in let more = c.number_of.new.values in
    let e = c.in_ok-beside.ensures in let at = c.index-row-weekday in
    let week = i.week in let size = i.size in let test = c.loop-weekday-test.true in
    let in_row : l.weekday < length row = omega arith in let in_numbers : l.weekday < length l.numbers = omega arith in
    record {
      week = i.week;
      size = search rules;
      rest = row-next alike nothing known more _ row l.weekday at.result in_row e.values i.rest;
      done = row-numbered alike nothing known more row l.numbers l.weekday c.in_ok-beside.beside at.result in_row in_numbers e.values e.number i.done;
    }
