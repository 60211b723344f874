use Rattle.std.proofs.Common.{◌≡◌, ◌+◌, ◌-◌, ℕ, ◌&&◌, nat_eq, length, slice_index_or, false, inl, inr, ap, sym, subst, ◌∙◌, arith}
use Rattle.std.proofs.Math.ListN.{length-set}
use Rattle.ssim_values.specs.Calendar.{slot}
use Rattle.ssim_periods.specs.internal.Count.{tally, weigh, is_counted}
use Rattle.ssim_periods.proofs.RowLemmas.{index-default}
use Rattle.ssim_periods.proofs.CountLemmas.{tally-weigh, weigh-le, counted-on, counted-off, same_below, and-left, and-none}
use Rattle.ssim_periods.proofs.range_rows.count.count_range.Goals as goal
use Rattle.ssim_periods.proofs.range_rows.count.count_range.Goals.{then-wanted, else-wanted}

pub overflow_add-counts : goal.overflow_add-counts
overflow_add-counts g c =
    let t = is_counted g.V.Value.nothing c.args.mask.now (g.C.Change.class_of c.args.change.now) c.args.row.now in
    let k = c.class-class.result in let w = c.loop-weekday.weekday in
    let five = c.class-class.ensures.below_five in
    let i = c.loop-weekday.invariant.counted k five in
    let low = c.requires.low k 0 (let n = c.told-counts in omega arith) in
    let cal = c.requires.in_calendar in let ord = c.requires.ordered in let lt = c.loop-weekday-test.true in
    let bound = weigh-le (t k) w c.args.to cal in
    let days = c.days_before.ensures in
    omega arith

pub loop-weekday-preserved : goal.loop-weekday-preserved
loop-weekday-preserved g c =
    let class_of = g.C.Change.class_of c.args.change.now in
    let mask = c.args.mask.now in let row = c.args.row.now in let w = c.loop-weekday.weekday in
    let t = is_counted g.V.Value.nothing mask class_of row in
    let i = c.loop-weekday.invariant in let lt = c.loop-weekday-test.true in
    let old = λ (k : ℕ). slice_index_or c.args.counts.now k 0 in
    record {
      classes = elim c.if-wanted.branch [ then-wanted b ↦ ap length b.counts-is ∙ simp length-set i.classes | else-wanted b ↦ ap length b.counts-is ∙ i.classes ];
      week = i.week;
      counted = elim c.if-wanted.branch [
        | then-wanted b ↦
            counted-on t b.class-class.result w c.args.from c.args.to b.days_before-then-wanted.result b.days_before.result c.loop-weekday.counts c.if-wanted.counts old b.counts-is
            (let f = b.class-class.ensures.below_five in omega arith) c.requires.ordered b.days_before.ensures b.days_before-then-wanted.ensures
            (λ k. ap (λ m. m && nat_eq (class_of (slice_index_or row w g.V.Value.nothing)) k) (and-left _ _ (sym c.has_days-wanted.ensures ∙ b.if-wanted.true))
            ∙ ap (λ n. nat_eq n k) (ap class_of (index-default row w _ _ (omega arith)) ∙ sym b.class-class.ensures.class))
            i.counted
        | else-wanted b ↦
            counted-off t w c.args.from c.args.to c.loop-weekday.counts c.if-wanted.counts old b.counts-is
            (λ k. elim (and-none (slice_index_or mask w false) _ (sym c.has_days-wanted.ensures ∙ b.if-wanted.false)) [
              | inl off ↦ inl (ap (λ m. m && nat_eq (class_of (slice_index_or row w g.V.Value.nothing)) k) off)
              | inr less ↦ inr (same_below w c.args.from c.args.to lt c.requires.ordered less)
            ]) i.counted
      ];
    }

pub returns : goal.returns
returns g c k h =
    let t = is_counted g.V.Value.nothing c.args.mask.now (g.C.Change.class_of c.args.change.now) c.args.row.now k in
    let from = c.args.from in let to = c.args.to in
    let done : c.loop-weekday.weekday ≡ 7 = omega arith in
    let i : slice_index_or c.loop-weekday.counts k 0 + weigh t 7 from ≡ slice_index_or c.args.counts.now k 0 + weigh t 7 to =
    subst (λ w. slice_index_or c.loop-weekday.counts k 0 + weigh t w from ≡ slice_index_or c.args.counts.now k 0 + weigh t w to) done (c.loop-weekday.invariant.counted k h) in
    let ord = c.requires.ordered in
    let all : from + (to - from) ≡ to = omega arith in
    let days : weigh t 7 from + tally (λ m. t (slot m)) from (to - from) ≡ weigh t 7 to = tally-weigh t from (to - from) ∙ ap (weigh t 7) all in
    omega arith
