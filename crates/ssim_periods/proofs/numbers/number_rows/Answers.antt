use Rattle.std.proofs.Common.{◌+◌, ◌<◌, drop, length, ap, sym, ◌∙◌, arith}
use Rattle.std.specs.List.{flat_map}
use Rattle.ssim_periods.specs.internal.Gather.{gathered}
use Rattle.ssim_periods.proofs.GatherLemmas.{gathered-append, rows-next}
use Rattle.ssim_periods.proofs.NumberLemmas.{rows-numbered}
use Rattle.ssim_periods.proofs.numbers.number_rows.Goals as goal

pub loop-row-preserved : goal.loop-row-preserved
loop-row-preserved g c =
    let alike = g.V.Value.alike in let nothing = g.V.Value.nothing in let rows = c.args.rows.now in let l = c.loop-row in let i = l.row-index in let row = c.row-item.result in
    let known = l.values in let more = c.number_row.new.values in
    let later = flat_map (λ row. row) (drop (i + 1) rows) in let e = c.in_ok-above.ensures in
    let test : i < length rows = omega arith in
    record {
      rest = ap (λ k. gathered alike nothing k later) e.values
          ∙ sym (gathered-append alike nothing known row later)
          ∙ ap (gathered alike nothing known) (sym (rows-next rows i row test c.row-item.is))
          ∙ l.invariant.rest;
      done = rows-numbered alike nothing known more rows l.numbers.items c.push.new.self.items i row c.in_ok-above.above test c.row-item.is e.values e.numbers c.in_ok-push.ensures.items l.invariant.done;
    }
