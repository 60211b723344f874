-- The parts so far are all days of the period before the next part.
use Rattle.std.proofs.Common.{◌≡◌, ◌+◌, ◌<◌, ◌≤◌, IsTrue, inl, arith, sym, subst, ◌∙◌}
use Rattle.ssim_periods.specs.Calendar.{holds}
use Rattle.ssim_schedule.specs.clauses.Acts.{is_point_of}
use Rattle.ssim_schedule.specs.internal.ActionParts.{before}
use Rattle.ssim_schedule.proofs.Acts.{Comes, counts_end, counts_next, counts_small, counts_start, cuts_next, days_end, days_next, days_start, next_is_point, parts_come, start_point, uniform_part}
use Rattle.ssim_schedule.proofs.effect.division.act_on_parts.Goals as goal
use Rattle.ssim_schedule.proofs.effect.division.act_on_parts.Goals.{After-act_on_part, After-loop-at}

pub loop-at-init : goal.loop-at-init
loop-at-init c =
    let rows = c.args.rows.now in
    let action = c.args.action.now in
    let period = c.args.period.now in
    let old = c.args.periods.now.days in
    let at = c.number-at.result in
    let first : at ≡ period.first = c.number-at.ensures.value ∙ c.first.ensures.value in
    let last : c.number.result ≡ period.last = c.number.ensures.value ∙ c.last.ensures.value in
    let ordered = c.first.ensures.period.ordered in
    record {
      from = omega (arith, first);
      to = omega (arith, first, last, ordered);
      end = omega (arith, last);
      point = start_point rows action period at first;
      days = days_start rows action period at old first;
      counts = counts_start rows action period at old first;
      cuts = λ cut has. inl has;
    }

pub act_on_part-requires : goal.act_on_part-requires
act_on_part-requires c = uniform_part c.args.rows.now c.args.action.now c.part_of-part.result c.loop-at.at c.next_point-next.result c.part_of-part.ensures.first c.part_of-part.ensures.last c.next_point-next.ensures.steady

-- the next part comes after the days before it
comes : (c : After-act_on_part) → Comes (before c.args.period.now c.loop-at.at)
    (holds c.part_of-part.result) (before c.args.period.now c.next_point-next.result)
comes c =
    let from : c.args.period.now.first ≤ c.loop-at.at = omega (arith, c.loop-at.invariant.from) in
    let rises : c.loop-at.at < c.next_point-next.result =
    omega (arith, c.next_point-next.ensures.after) in
    let to : c.next_point-next.result ≤ c.args.period.now.last + 1 =
    omega (arith, c.next_point-next.ensures.before, c.loop-at.invariant.end) in
    parts_come c.args.period.now c.part_of-part.result c.loop-at.at c.next_point-next.result
    c.part_of-part.ensures.first c.part_of-part.ensures.last c.part_of-part.ensures.days from rises to

pub sums-counts-requires : goal.sums-counts-requires
sums-counts-requires c =
    counts_small c.args.rows.now c.args.action.now c.args.period.now c.part_of-part.result
    c.loop-at.at c.next_point-next.result
    (comes (goal.at.sums-counts-requires c).After-act_on_part) c.args.periods.now.days
    c.loop-at.periods.days c.loop-at.invariant.days c.loop-at.counts c.in_ok-more.more
    c.loop-at.invariant.counts c.in_ok-more.ensures.counts c.first.ensures.period.in_calendar

pub loop-at-preserved : goal.loop-at-preserved
loop-at-preserved c =
    let rows = c.args.rows.now in
    let action = c.args.action.now in
    let period = c.args.period.now in
    let old = c.args.periods.now.days in
    let part = c.part_of-part.result in
    let at = c.loop-at.at in
    let next = c.next_point-next.result in
    let i = c.loop-at.invariant in
    let follows = comes (goal.at.loop-at-preserved c).After-act_on_part in
    let mid = c.loop-at.periods.days in
    let here : IsTrue (is_point_of rows action period next) =
    next_is_point rows action period (c.number.result + 1) next i.end
    c.next_point-next.ensures.point in
    let first : IsTrue (is_point_of rows action period part.first) =
    subst (λ n. IsTrue (is_point_of rows action period n)) (sym c.part_of-part.ensures.first)
    i.point in
    let last : IsTrue (is_point_of rows action period (part.last + 1)) =
    subst (λ n. IsTrue (is_point_of rows action period n)) (sym c.part_of-part.ensures.last) here in
    record {
      from = omega (arith, i.from, c.next_point-next.ensures.after);
      to = omega (arith, c.next_point-next.ensures.before);
      end = i.end;
      point = here;
      days = days_next rows action period part at next follows old mid i.days
          c.act_on_part.new.periods.days c.in_ok-more.ensures.days;
      counts = c.sums-counts.ensures
          ∙ counts_next rows action period part at next follows old mid i.days c.loop-at.counts
          c.in_ok-more.more i.counts c.in_ok-more.ensures.counts;
      cuts = cuts_next rows action period part.first (part.last + 1) c.args.periods.now.cuts
          c.loop-at.periods.cuts c.act_on_part.new.periods.cuts i.cuts c.in_ok-more.ensures.cuts
          first last;
    }

-- the parts reached the end of the period
done : (c : After-loop-at) → c.loop-at.at ≡ c.args.period.now.last + 1
done c =
    omega (arith, c.loop-at.invariant.to, c.loop-at.invariant.end, c.loop-at-test.false)

pub returns-clause-days : goal.returns-clause-days
returns-clause-days c =
    c.loop-at.invariant.days
    ∙ days_end c.args.rows.now c.args.action.now c.args.period.now c.loop-at.at
    c.args.periods.now.days (done (goal.at.returns-clause-days c).After-loop-at)

pub returns-clause-counts : goal.returns-clause-counts
returns-clause-counts c =
    c.loop-at.invariant.counts
    ∙ counts_end c.args.rows.now c.args.action.now c.args.period.now c.loop-at.at
    c.args.periods.now.days (done (goal.at.returns-clause-counts c).After-loop-at)
