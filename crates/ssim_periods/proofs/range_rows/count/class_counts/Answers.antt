-- Each range that is passed adds the days of its row that have a class.
use Rattle.std.proofs.Common.{◌≡◌, ◌+◌, ◌-◌, ◌<◌, ◌≤◌, ◌∷◌, length, slice_index_or, ap, refl, sym, subst, ◌∙◌, arith, rules}
use Rattle.ssim_values.specs.Calendar.{slot}
use Rattle.ssim_periods.specs.internal.Rows.{place}
use Rattle.ssim_periods.specs.internal.Count.{tally, is_counted, is_of_class}
use Rattle.ssim_periods.proofs.RowLemmas.{place-le, index-default}
use Rattle.ssim_periods.proofs.CountLemmas.{Reaches, reaches, stretch, tally-le}
use Rattle.ssim_periods.proofs.range_rows.count.class_counts.Given as given
use Rattle.ssim_periods.proofs.range_rows.count.class_counts.Goals.{After-range_end-next}
use Rattle.ssim_periods.proofs.range_rows.count.class_counts.Goals as goal

pub row_at-requires : goal.row_at-requires
row_at-requires g c =
    let at = c.loop-day.invariant.at c.loop-day-test.true in let le = place-le c.args.cuts.now c.loop-day.day in let n = c.requires.rows.row_count in
    (search rules, omega arith)

-- the range of the day ends at the next one
reached : (g : given.Over) (c : After-range_end-next g)
    → Reaches c.args.cuts.now c.loop-day.day c.range_end-next.result (c.args.last + 1)
    c.loop-day.place
reached g c =
    let cuts = c.args.cuts.now in let e = c.range_end-next.ensures in
    reaches cuts cuts cuts c.loop-day.day c.range_end-next.result (c.args.last + 1)
    c.loop-day.place c.requires.rows.rising refl (c.loop-day.invariant.at c.loop-day-test.true) refl
    c.loop-day-test.true e.before_end e.before_cut e.at_cut

pub count_range-requires : goal.count_range-requires
count_range-requires g c =
    let i = c.loop-day.invariant in let e = c.range_end-next.ensures in let n = i.classes in
    let gt = (reached g (goal.at.count_range-requires g c).After-range_end-next).long in
    let cal = c.requires.in_calendar in
    let t = is_of_class g.V.Value.nothing (g.C.Change.class_of c.args.change.now) c.args.before.now c.args.cuts.now c.args.rows.now c.args.first c.args.last c.args.mask.now in (
      search rules,
      (
        omega arith,
        (
          omega arith,
          λ k d h.
              let same = index-default c.loop-day.counts k d 0 h in let k5 : k < 5 = omega arith in let counted = i.counted k k5 in
              let le = tally-le (t k) c.args.first (c.loop-day.day - c.args.first) in let from = i.from in omega arith,
        ),
      ),
    )

pub overflow_add-place : goal.overflow_add-place
overflow_add-place g c =
    let at = c.loop-day.invariant.at c.loop-day-test.true in let le = place-le c.args.cuts.now c.loop-day.day in let n = c.type_inv.cuts in
    omega arith

pub loop-day-smaller : goal.loop-day-smaller
loop-day-smaller g c =
    let e = c.range_end-next.ensures in
    let gt = (reached g (goal.at.loop-day-smaller g c).After-range_end-next).long in
    let test = c.loop-day-test.true in
    omega arith

pub loop-day-preserved : goal.loop-day-preserved
loop-day-preserved g c =
    let i = c.loop-day.invariant in let e = c.range_end-next.ensures in let at = i.at c.loop-day-test.true in
    let cuts = c.args.cuts.now in let day = c.loop-day.day in let next = c.range_end-next.result in let rows = c.args.rows.now in let before = c.args.before.now in
    let r = reached g (goal.at.loop-day-preserved g c).After-range_end-next in
    let gt = r.long in let from = i.from in
    let free : place cuts day < length cuts → next ≤ slice_index_or cuts (place cuts day) 0 = subst (λ q. q < length cuts → next ≤ slice_index_or cuts q 0) at e.before_cut in
    let row : c.row_at.result.now ≡ slice_index_or (before ∷ rows) (place cuts day) before = c.row_at.ensures before ∙ ap (λ q. slice_index_or (before ∷ rows) q before) at in
    record {
      from = omega arith;
      to = e.before_end;
      at = r.next_at;
      classes = c.count_range.array_long;
      counted = λ k h. c.count_range.ensures k h ∙ ap (λ a. a + tally (λ n. is_counted g.V.Value.nothing c.args.mask.now (g.C.Change.class_of c.args.change.now) c.row_at.result.now k (slot n)) day (next - day)) (i.counted k h)
          ∙ sym (stretch g.V.Value.nothing (g.C.Change.class_of c.args.change.now) before cuts rows c.args.first c.args.last c.args.mask.now day next c.row_at.result.now c.requires.rows from (omega arith) e.before_end free row k);
    }
