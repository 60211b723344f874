-- The periods after the place do not hold the day.
use Rattle.std.proofs.Common.{◌≡◌, ◌+◌, ◌-◌, ◌<◌, length, slice_index_or, take, if◌then◌else◌, ap, sym, ◌∙◌, arith}
use Rattle.ssim_periods.specs.internal.Apart.{value_in}
use Rattle.ssim_periods.proofs.ApartLemmas.{holds-is, value_in-earlier}
use Rattle.ssim_periods.proofs.RowLemmas.{index-default}
use Rattle.ssim_periods.proofs.apart_periods.entries.value_at.Goals as goal

pub returns-then-holds : goal.returns-then-holds
returns-then-holds g c =
    let xs = c.args.entries.now in let e = c.args.empty.now in let day = c.args.day in let i = c.loop-place.place in
    let d = c.index-entries-place.result in let x = slice_index_or xs (i - 1) d in
    let test = c.loop-place-test.true in let within = c.loop-place.invariant.within in
    let next : i - 1 + 1 ≡ i = omega arith in let lt : i - 1 < length xs = omega arith in
    ap (λ y. y.1) (index-default xs (i - 1) _ d lt)
    ∙ sym (value_in-earlier e xs i (i - 1) x day (value_in e xs day) next lt (index-default xs (i - 1) d x lt) c.loop-place.invariant.later
    ∙ ap (λ b. if b then x.1 else value_in e (take (i - 1) xs) day) (sym (holds-is x.0 day c.holds.result c.holds.ensures) ∙ c.if-holds.true))

pub loop-place-preserved : goal.loop-place-preserved
loop-place-preserved g c =
    let xs = c.args.entries.now in let e = c.args.empty.now in let day = c.args.day in let i = c.loop-place.place in
    let d = c.index-entries-place.result in let x = slice_index_or xs (i - 1) d in
    let test = c.loop-place-test.true in let within = c.loop-place.invariant.within in
    let next : i - 1 + 1 ≡ i = omega arith in let lt : i - 1 < length xs = omega arith in
    record {
      within = omega arith;
      later = value_in-earlier e xs i (i - 1) x day (value_in e xs day) next lt (index-default xs (i - 1) d x lt) c.loop-place.invariant.later
          ∙ ap (λ b. if b then x.1 else value_in e (take (i - 1) xs) day) (sym (holds-is x.0 day c.holds.result c.holds.ensures) ∙ c.if-holds.false);
    }
