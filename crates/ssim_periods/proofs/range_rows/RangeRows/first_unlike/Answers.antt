-- Each range is looked at by a week of its days, since the value repeats weekly within it.
use Rattle.std.proofs.Common.{◌≡◌, ◌+◌, ◌-◌, ◌<◌, ◌≤◌, ℕ, false, ◌∷◌, length, slice_index_or, ap, sym, ◌∙◌, arith, rules, inl, inr}
use Rattle.ssim_values.specs.Calendar.{slot}
use Rattle.ssim_periods.specs.Cover.{differ, breaks}
use Rattle.ssim_periods.specs.Pieces.{has_value}
use Rattle.ssim_periods.specs.internal.Rows.{place}
use Rattle.ssim_periods.proofs.DayLemmas.{length-each_day}
use Rattle.ssim_periods.proofs.RowLemmas.{place-le, row_on-place}
use Rattle.ssim_periods.proofs.CountLemmas.{Reaches, le_or_lt, reaches}
use Rattle.ssim_periods.proofs.CoverLemmas.{first_where-either, first_where-is, first_where-none}
use Rattle.ssim_periods.proofs.PieceRows.{unlike-in_row}
use Rattle.ssim_periods.proofs.range_rows.RangeRows.first_unlike.Given as given
use Rattle.ssim_periods.proofs.range_rows.RangeRows.first_unlike.Goals.{After-range_end-next}
use Rattle.ssim_periods.proofs.range_rows.RangeRows.first_unlike.Goals.{After-unlike_in_row-found}
use Rattle.ssim_periods.proofs.range_rows.RangeRows.first_unlike.Goals as goal

-- the range of the day ends at the next one
reached : (g : given.Over) (c : After-range_end-next g)
    → Reaches c.self.inside.cuts.items c.loop-day.day c.range_end-next.result 36525
    c.loop-day.place
reached g c =
    let e = c.range_end-next.ensures in
    reaches c.self.inside.cuts.items c.args.self.now.cuts c.deref-in-loop-day.result.now
    c.loop-day.day c.range_end-next.result 36525 c.loop-day.place c.self.invariant.rising
    (ap (λ s. s.cuts) c.self.view_is) (c.loop-day.invariant.at c.loop-day-test.true)
    c.deref-in-loop-day.ensures.value c.loop-day-test.true e.before_end e.before_cut e.at_cut

-- a day of the range breaks the weekdays as its weekday in the row does
breaks-like : (g : given.Over) (c : After-unlike_in_row-found g)
    → Reaches c.self.inside.cuts.items c.loop-day.day c.range_end-next.result 36525
    c.loop-day.place
    → (n : ℕ) → c.loop-day.day ≤ n → n < c.range_end-next.result
    → breaks (has_value g.V.Value.alike c.args.self.now.days c.args.value.now) c.args.days.now n
    ≡ differ (g.V.Value.alike c.args.value.now
    (slice_index_or c.row_at-row.result.now (slot n) g.V.Value.nothing))
    (slice_index_or c.args.days.now (slot n) false)
breaks-like g c r n l h =
    let before = c.self.inside.before in let cuts = c.self.inside.cuts.items in
    let rows = c.self.inside.rows.items in let row = c.row_at-row.result.now in
    let row_is : row ≡ slice_index_or (before ∷ rows) c.loop-day.place before =
    c.row_at-row.ensures before
    ∙ ap (λ rs. slice_index_or (before ∷ rs) c.loop-day.place before)
    c.deref-in-loop-day-2.ensures.value in
    let to = c.range_end-next.ensures.before_end in
    unlike-in_row g.V.Value.alike g.V.Value.nothing before cuts rows c.args.self.now.days
    c.args.value.now c.args.days.now n row (ap (λ s. s.days) c.self.view_is) (omega arith)
    (row_on-place before cuts rows n before c.self.invariant.row_count
    ∙ ap (λ p. slice_index_or (before ∷ rows) p before) (r.stays n l h ∙ sym r.at) ∙ sym row_is)

pub row_at-row-requires : goal.row_at-row-requires
row_at-row-requires g c =
    let at = c.loop-day.invariant.at c.loop-day-test.true in let le = place-le c.args.self.now.cuts c.loop-day.day in let n = c.self.invariant.row_count in
    let same = ap (λ s. length s.cuts) c.self.view_is in let r = ap length c.deref-in-loop-day-2.ensures.value in
    (search rules, omega arith)

pub unlike_in_row-found-requires : goal.unlike_in_row-found-requires
unlike_in_row-found-requires g c =
    let e = c.range_end-next.ensures in
    let r = reached g (goal.at.unlike_in_row-found-requires g c).After-range_end-next in
    let long = r.long in let to = e.before_end in
    (search rules, (omega arith, omega arith))

pub returns-then-found-next : goal.returns-then-found-next
returns-then-found-next g c =
    let e = c.range_end-next.ensures in let i = c.loop-day.invariant in let day = c.loop-day.day in let next = c.range_end-next.result in let found = c.unlike_in_row-found.result in
    let row = c.row_at-row.result.now in
    let alike = g.V.Value.alike in let nothing = g.V.Value.nothing in let v = c.args.value.now in let days = c.args.self.now.days in let mask = c.args.days.now in let from = c.args.from in
    let r = reached g (goal.at.returns-then-found-next g c).After-range_end-next in
    let test = λ (n : ℕ). differ (alike v (slice_index_or row (slot n) nothing)) (slice_index_or mask (slot n) false) in
    let view = ap (λ s. s.days) c.self.view_is in
    let like = breaks-like g (goal.at.returns-then-found-next g c).After-unlike_in_row-found r in
    let len : length days ≡ 36525 = sym (ap length view) ∙ length-each_day _ in
    let lt = c.if-found-next.true in let is = c.unlike_in_row-found.ensures in let to = e.before_end in let low = i.from in
    elim (first_where-either test day (next - day)) [
      | inl none ↦ let at = none.0 in let long = r.long in absurd (omega arith)
      | inr some ↦
          let a = some.0 in let b = some.1 in
          sym (first_where-is (breaks (has_value alike days v) mask) from (length days - from) found (omega arith) (omega arith)
          (like found (omega arith) lt ∙ ap test is ∙ some.2)
          (λ m l h. elim (le_or_lt day m) [ inl later ↦ like m later (omega arith) ∙ some.3 m later (omega arith) | inr earlier ↦ i.passed m l earlier ]))
    ]

pub overflow_add-place : goal.overflow_add-place
overflow_add-place g c =
    let at = c.loop-day.invariant.at c.loop-day-test.true in let le = place-le c.args.self.now.cuts c.loop-day.day in
    let same = ap (λ s. length s.cuts) c.self.view_is in let ok = c.self.inside.cuts.ok in let small = c.self.inside.cuts.small in
    omega arith

pub loop-day-smaller : goal.loop-day-smaller
loop-day-smaller g c =
    let e = c.range_end-next.ensures in
    let r = reached g (goal.at.loop-day-smaller g c).After-range_end-next in
    let long = r.long in let to = e.before_end in let test = c.loop-day-test.true in
    omega arith

pub loop-day-preserved : goal.loop-day-preserved
loop-day-preserved g c =
    let e = c.range_end-next.ensures in let i = c.loop-day.invariant in let day = c.loop-day.day in let next = c.range_end-next.result in
    let row = c.row_at-row.result.now in
    let alike = g.V.Value.alike in let nothing = g.V.Value.nothing in let v = c.args.value.now in let days = c.args.self.now.days in let mask = c.args.days.now in
    let r = reached g (goal.at.loop-day-preserved g c).After-range_end-next in
    let test = λ (n : ℕ). differ (alike v (slice_index_or row (slot n) nothing)) (slice_index_or mask (slot n) false) in
    let like = breaks-like g (goal.at.loop-day-preserved g c).After-unlike_in_row-found r in
    let ge = c.if-found-next.false in let is = c.unlike_in_row-found.ensures in let low = i.from in let long = r.long in
    record {
      from = omega arith;
      to = e.before_end;
      at = λ lt. r.next_at lt ∙ ap (λ cs. place cs next) (ap (λ s. s.cuts) c.self.view_is);
      passed = λ m l h. elim (le_or_lt day m) [
        | inr earlier ↦ i.passed m l earlier
        | inl later ↦ like m later h ∙ elim (first_where-either test day (next - day)) [ inl none ↦ none.1 m later (omega arith) | inr some ↦ let b = some.1 in absurd (omega arith) ]
      ];
    }

pub returns : goal.returns
returns g c =
    let i = c.loop-day.invariant in let done = c.loop-day-test.false in let to = i.to in let from = c.requires in
    let len : length c.args.self.now.days ≡ 36525 = sym (ap (λ s. length s.days) c.self.view_is) ∙ length-each_day _ in
    let whole : c.args.from + (length c.args.self.now.days - c.args.from) ≡ 36525 = omega arith in
    sym (first_where-none _ c.args.from (length c.args.self.now.days - c.args.from) (λ m a b. i.passed m a (omega arith)) ∙ whole)
