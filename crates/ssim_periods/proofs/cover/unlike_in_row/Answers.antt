use Rattle.std.proofs.Common.{◌≡◌, ◌+◌, ◌-◌, ℕ, false, true, slice_index_or, ap, sym, ◌∙◌, arith, inl, inr}
use Rattle.ssim_values.specs.Calendar.{slot}
use Rattle.ssim_periods.specs.Cover.{differ}
use Rattle.ssim_periods.proofs.RowLemmas.{index-default}
use Rattle.ssim_periods.proofs.CoverLemmas.{first_where-is, first_where-none, none-from_week, differ-tested}
use Rattle.ssim_periods.proofs.cover.unlike_in_row.Goals as goal

pub returns-then-has-days : goal.returns-then-has-days
returns-then-has-days g c =
    let i = c.loop-day.invariant in let alike = g.V.Value.alike c.args.value.now in let row = c.args.row.now in let days = c.args.days.now in
    let same = c.index-row-weekday.is in let has = c.same-has.ensures in
    let w = c.weekday_of-weekday.result in let on = slice_index_or days w false in
    let test = λ (n : ℕ). differ (alike (slice_index_or row (slot n) g.V.Value.nothing)) (slice_index_or days (slot n) false) in
    let week = i.week in let within = i.within in let lt = c.loop-day-test.true in let o = c.requires.ordered in let from = c.loop-day.auto.day in
    let has_is : c.same-has.result ≡ alike (slice_index_or row w g.V.Value.nothing) = has ∙ ap alike (index-default row w c.index-row-weekday.result g.V.Value.nothing (omega arith)) in
    let unlike : test c.loop-day.day ≡ true =
    ap (λ (s : ℕ). differ (alike (slice_index_or row s g.V.Value.nothing)) (slice_index_or days s false)) (sym c.weekday_of-weekday.ensures.value)
    ∙ sym (ap (λ b. differ b on) has_is) ∙ differ-tested c.same-has.result on c.if-has-days.true in
    sym (first_where-is test c.args.from (c.args.to - c.args.from) c.loop-day.day from (omega arith) unlike i.passed)

pub returns : goal.returns
returns g c =
    let i = c.loop-day.invariant in let alike = g.V.Value.alike c.args.value.now in let row = c.args.row.now in let days = c.args.days.now in
    let test = λ (n : ℕ). differ (alike (slice_index_or row (slot n) g.V.Value.nothing)) (slice_index_or days (slot n) false) in
    let o = c.requires.ordered in let k = c.args.to - c.args.from in let done = c.loop-day-test.false in
    let weekly = λ (m : ℕ). ap (λ s. differ (alike (slice_index_or row s g.V.Value.nothing)) (slice_index_or days s false)) (again m) in
    let whole : c.args.from + k ≡ c.args.to = omega arith in
    sym (first_where-none test c.args.from k (λ m a b. none-from_week test c.args.from k (λ m a b. weekly m)
    (λ m a b e. elim i.enough [ inl week ↦ i.passed m a (omega arith) | inr all ↦ i.passed m a (omega arith) ]) (m - c.args.from) m (omega arith) b) ∙ whole)
  where
    again : (m : ℕ) → slot (m + 7) ≡ slot m
    again m = omega arith
