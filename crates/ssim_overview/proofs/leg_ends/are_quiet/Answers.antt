-- Each end by the rows at its rank.
use Rattle.std.proofs.Common.{◌<◌, ◌∙◌, map, length, ap, sym, arith}
use Rattle.ssim_records.specs.Leg.{leg_columns}
use Rattle.ssim_overview.proofs.NoteEnds.{quiet_at}
use Rattle.ssim_overview.proofs.Ranks.{at_map}
use Rattle.ssim_overview.proofs.leg_ends.are_quiet.Goals as goal

pub returns-then-is_quiet_text : goal.returns-then-is_quiet_text
returns-then-is_quiet_text c = λ h.
    let table = c.args.table.now in let lists = map (λ list. list.items) table in
    let columns = c.args.columns.now in
    let n = c.number_of.result in let m = c.number_of-then-is_quiet_text.result in
    let size = c.requires in
    let low = c.number_of.ensures.bound in let high = c.number_of-then-is_quiet_text.ensures.bound in
    let inside : n < length table = omega arith in let within : m < length table = omega arith in
    record {
      departure = quiet_at lists n c.deref.result.now c.args.period.now c.text-from.result.now
          c.departure_station.result (leg_columns 37 39 columns) (leg_columns 48 52 columns)
          c.number_of.ensures.only c.departure_station.ensures c.text-from.ensures.value
          (at_map (λ list. list.items) table n c.index-table-number_of.result inside
          ∙ ap (λ list. list.items) (sym c.index-table-number_of.is) ∙ sym c.deref.ensures.value)
          (c.is_quiet_text.ensures c.if-is_quiet_text.true);
      arrival = quiet_at lists m c.deref-then-is_quiet_text.result.now c.args.period.now
          c.text-to.result.now c.arrival_station.result (leg_columns 55 57 columns)
          (leg_columns 66 70 columns) c.number_of-then-is_quiet_text.ensures.only
          c.arrival_station.ensures c.text-to.ensures.value
          (at_map (λ list. list.items) table m c.index-table-number_of-then-is_quiet_text.result
          within ∙ ap (λ list. list.items) (sym c.index-table-number_of-then-is_quiet_text.is)
          ∙ sym c.deref-then-is_quiet_text.ensures.value)
          (c.is_quiet_text-then-is_quiet_text.ensures h);
    }
