-- The dates of both halves, of a range without a change or with one variation, or of none.
use Rattle.std.proofs.Common.{◌≤◌, ◌∙◌, ◌+◌, ◌-◌, ◌/◌, ℕ, List, ap, arith, get_or, length, refl, sym}
use Rattle.std.proofs.lemmas.Result.{on_ok_weaker}
use Rattle.ssim_overview.specs.internal.SaidRows.{grown}
use Rattle.ssim_overview.proofs.HeldEnds.{only_dates}
use Rattle.ssim_overview.proofs.SaidHalves.{days_handed, no_days, one_day, steady_days}
use Rattle.ssim_overview.proofs.SaidSteps.{no_items}
use Rattle.ssim_overview.proofs.station_rows.+push_days.Goals as goal
use Rattle.ssim_overview.proofs.station_rows.+push_days.Goals.{then-middle-from-via-then-middle-from}
use Rattle.ssim_overview.proofs.station_rows.+push_days.Goals.{then-middle-from-via-else-middle-from+then-is_unchanged}

pub returns-then-is_empty : goal.returns-then-is_empty
returns-then-is_empty t c =
    no_days c.args.station c.args.rows.now.items c.args.sayings.now c.args.from (c.args.end - c.args.from)
    (no_items c.args.sayings.now c.args.sayings.now refl (sym c.is_empty.ensures ∙ c.if-is_empty.true))

-- The one variation, on the days that a period holds.
pub returns-then-is_only : goal.returns-then-is_only
returns-then-is_only t c =
    let from = c.args.from in let end = c.args.end in
    let first = get_or c.args.sayings.now 0 c.index-sayings-0.result in
    on_ok_weaker c.push_held.result (λ are. are ∙ ap (grown c.args.station c.args.rows.now.items)
    (only_dates first.1.variation c.args.sayings.now c.deref.result.now from end
    (sym c.is_only.ensures ∙ c.if-is_only.true)
    (ap (λ (ends : List ℕ). length ends) c.deref.ensures.value ∙ c.in_ok-ends.ensures.len)
    (λ j lt. ap (λ (ends : List ℕ). get_or ends j 0) c.deref.ensures.value
    ∙ c.in_ok-ends.ensures.each j lt))) c.push_held.ensures

pub push_range-requires-clause-same : goal.push_range-requires-clause-same
push_range-requires-clause-same t c = elim c.then-middle-from.branch [
  | then-middle-from-via-then-middle-from w ↦
      one_day c.args.from c.args.end c.args.sayings.now c.requires.ordered w.if-middle-from.true
  | then-middle-from-via-else-middle-from+then-is_unchanged w ↦
      steady_days c.args.from c.args.end c.args.sayings.now (sym w.is_unchanged.ensures ∙ w.if-is_unchanged.true)
]

pub returns : goal.returns
returns t c =
    let lt = c.requires.ordered in
    let from : c.args.from ≤ c.args.from + (c.args.end - c.args.from) / 2 = omega arith in
    let to : c.args.from + (c.args.end - c.args.from) / 2 ≤ c.args.end = omega arith in
    days_handed c.args.station c.args.from (c.args.from + (c.args.end - c.args.from) / 2) c.args.end
    c.args.sayings.now c.in_ok-before.before.items c.in_ok-after.after.items c.deref-2.result.now c.deref-3.result.now
    c.args.rows.now.items c.push_days.new.rows.items c.push_days-2.new.rows.items c.push_days-2.result
    from to c.in_ok-before.ensures c.in_ok-after.ensures c.deref-2.ensures.value c.deref-3.ensures.value
    c.in_ok-push_days.ensures c.push_days-2.ensures
