-- Each range reaches to the next cut, and its days have the numbers of its row.
use Rattle.std.proofs.Common.{◌≡◌, ◌∷◌, length, map, slice_index_or, ap, sym, ◌∙◌, arith, rules}
use Rattle.std.proofs.lemmas.List.{length-map}
use Rattle.ssim_values.specs.Calendar.{slot}
use Rattle.ssim_periods.specs.internal.Rows.{place}
use Rattle.ssim_periods.proofs.CountLemmas.{Reaches, reaches}
use Rattle.ssim_periods.proofs.DayLemmas.{index-each_day}
use Rattle.ssim_periods.proofs.NumberPeriods.{have-more}
use Rattle.ssim_periods.proofs.RowLemmas.{place-le, row_on-place}
use Rattle.ssim_periods.proofs.range_rows.number_periods.RangeRows+ValueNumber.periods_of_numbers.Goals.{After-range_end-next, After-row_at}
use Rattle.ssim_periods.proofs.range_rows.number_periods.RangeRows+ValueNumber.periods_of_numbers.Goals as goal

-- the range of the day ends at the next one
reached : (c : After-range_end-next) → Reaches c.self.inside.cuts.items c.loop-day.day c.range_end-next.result 36525 c.loop-day.place
reached c =
    let e = c.range_end-next.ensures in
    reaches c.self.inside.cuts.items c.args.self.now.cuts c.deref-in-loop-day.result.now
    c.loop-day.day c.range_end-next.result 36525 c.loop-day.place c.self.invariant.rising
    (ap (λ s. s.cuts) c.self.view_is) (c.loop-day.invariant.at c.loop-day-test.true)
    c.deref-in-loop-day.ensures.value c.loop-day-test.true e.before_end e.before_cut e.at_cut

pub row_at-requires : goal.row_at-requires
row_at-requires c =
    let at = c.loop-day.invariant.at c.loop-day-test.true in let le = place-le c.args.self.now.cuts c.loop-day.day in let n = c.self.invariant.row_count in
    let same = ap (λ s. length s.cuts) c.self.view_is in let r = ap length c.deref-in-loop-day-2.ensures.value in
    (search rules, omega arith)

pub add_row-requires-clause-ordered : goal.add_row-requires-clause-ordered
add_row-requires-clause-ordered c = let r = reached (goal.at.add_row-requires-clause-ordered c).After-range_end-next in r.long

pub overflow_add-place : goal.overflow_add-place
overflow_add-place c =
    let at = c.loop-day.invariant.at c.loop-day-test.true in let le = place-le c.args.self.now.cuts c.loop-day.day in
    let same = ap (λ s. length s.cuts) c.self.view_is in let ok = c.self.inside.cuts.ok in let small = c.self.inside.cuts.small in
    omega arith

pub loop-day-smaller : goal.loop-day-smaller
loop-day-smaller c =
    let e = c.range_end-next.ensures in
    let r = reached (goal.at.loop-day-smaller c).After-range_end-next in
    let long = r.long in let to = e.before_end in let test = c.loop-day-test.true in
    omega arith

pub loop-day-preserved : goal.loop-day-preserved
loop-day-preserved c =
    let e = c.range_end-next.ensures in let i = c.loop-day.invariant in let day = c.loop-day.day in let next = c.range_end-next.result in
    let before = c.self.inside.before in let cuts = c.self.inside.cuts.items in let rows = c.self.inside.rows.items in let row = c.row_at.result.now in
    let r = reached (goal.at.loop-day-preserved c).After-range_end-next in let long = r.long in
    let row_is : row ≡ slice_index_or (before ∷ rows) c.loop-day.place before =
    c.row_at.ensures before ∙ ap (λ rs. slice_index_or (before ∷ rs) c.loop-day.place before) c.deref-in-loop-day-2.ensures.value in
    let counted = c.in_ok-add_row.ensures.days.count in
    record {
      to = e.before_end;
      at = λ lt. r.next_at lt ∙ ap (λ cs. place cs next) (ap (λ s. s.cuts) c.self.view_is);
      count = sym (length-map c.add_row.new.lists.items (λ list. list.items)) ∙ counted ∙ length-map c.loop-day.lists.items (λ list. list.items) ∙ i.count;
      have = have-more (λ n. slice_index_or c.args.self.now.days n 0) row day next (map (λ list. list.items) c.loop-day.lists.items) (map (λ list. list.items) c.add_row.new.lists.items)
          (omega arith)
          (λ n l h.
          let to = e.before_end in
          ap (λ found. slice_index_or found (slot n) 0) (row_is ∙ ap (λ p. slice_index_or (before ∷ rows) p before) (r.at ∙ sym (r.stays n l h)) ∙ sym (row_on-place before cuts rows n before c.self.invariant.row_count))
          ∙ sym (index-each_day _ n 0 (omega arith)) ∙ ap (λ s. slice_index_or s.days n 0) c.self.view_is)
          i.have c.in_ok-add_row.ensures.days;
    }
