-- Each weekday is one more, and seven of them are all.
use Rattle.std.proofs.Common.{◌≡◌, ◌+◌, ◌<◌, length, map, subst, arith, slice_index_or}
use Rattle.ssim_periods.specs.internal.Numbers.{is_numbered_on, AddsDays}
use Rattle.ssim_periods.proofs.NumberPeriods.{adds-more, is_numbered_before, one-more, whole-week}
use Rattle.ssim_periods.proofs.RowLemmas.{index-default}
use Rattle.ssim_periods.proofs.range_rows.number_periods.add_row.Goals as goal

pub loop-weekday-preserved : goal.loop-weekday-preserved
loop-weekday-preserved c =
    let i = c.loop-weekday.invariant in let row = c.args.row.now in let w = c.loop-weekday.weekday in
    let week = i.week in let test = c.loop-weekday-test.true in let within : w < length row = omega arith in
    let is = index-default row w c.index-row-weekday.result 0 within in
    record {
      week = i.week;
      adds = adds-more (is_numbered_before row w c.args.from c.args.to) (is_numbered_on w (slice_index_or row w 0) c.args.from c.args.to) (is_numbered_before row (w + 1) c.args.from c.args.to)
          (map (λ list. list.items) c.args.lists.now.items) (map (λ list. list.items) c.loop-weekday.lists.items) (map (λ list. list.items) c.add_weekday.new.lists.items)
          i.adds (subst (λ number. AddsDays (is_numbered_on w number c.args.from c.args.to) (map (λ list. list.items) c.loop-weekday.lists.items) (map (λ list. list.items) c.add_weekday.new.lists.items)) is c.in_ok-add_weekday.ensures.days)
          (λ number n b. one-more row w c.args.from c.args.to number n b);
    }

pub returns : goal.returns
returns c =
    let done = c.loop-weekday-test.false in let to = c.loop-weekday.auto.weekday-end in
    let all : c.loop-weekday.weekday ≡ 7 = omega arith in
    record {
      days = whole-week c.args.row.now c.args.from c.args.to (map (λ list. list.items) c.args.lists.now.items) (map (λ list. list.items) c.loop-weekday.lists.items)
          (subst (λ w. AddsDays (is_numbered_before c.args.row.now w c.args.from c.args.to) (map (λ list. list.items) c.args.lists.now.items) (map (λ list. list.items) c.loop-weekday.lists.items)) all c.loop-weekday.invariant.adds);
    }
