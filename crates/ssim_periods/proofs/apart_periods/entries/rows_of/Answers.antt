use Rattle.std.proofs.Common.{◌≡◌, ◌+◌, ◌-◌, ◌<◌, length, ap, sym, ◌∙◌, arith}
use Rattle.ssim_periods.specs.internal.Apart.{value_in}
use Rattle.ssim_periods.specs.Days.{each_day}
use Rattle.ssim_periods.proofs.ApartLemmas.{rows-more, cuts-more}
use Rattle.ssim_periods.proofs.GatherLemmas.{drop-all}
use Rattle.ssim_periods.proofs.apart_periods.entries.rows_of.Goals as goal

pub loop-place-init : goal.loop-place-init
loop-place-init g c =
    record {
      within = omega arith;
      days = c.new-rows.ensures.days ∙ sym (ap (λ xs. each_day (value_in g.V.Value.nothing xs)) (drop-all c.args.entries.now (length c.args.entries.now) (omega arith)));
      cuts = λ cuts ends cut h. let none = ap length c.new-rows.ensures.cuts in let within = h.1 in absurd (omega arith);
    }

pub loop-place-preserved : goal.loop-place-preserved
loop-place-preserved g c =
    let xs = c.args.entries.now in let i = c.loop-place.place in let x = c.index-entries-place.result in
    let test = c.loop-place-test.true in let within = c.loop-place.invariant.within in
    let next : i - 1 + 1 ≡ i = omega arith in let lt : i - 1 < length xs = omega arith in
    record {
      within = omega arith;
      days = rows-more g.V.Value.nothing xs i (i - 1) x c.loop-place.rows.days c.replace.new.self.days next lt c.index-entries-place.is c.requires.once c.loop-place.invariant.days c.in_ok-replace.ensures.days;
      cuts = λ cuts ends. cuts-more xs (i - 1) x c.loop-place.rows.cuts c.replace.new.self.cuts cuts lt c.index-entries-place.is ends c.in_ok-replace.ensures.cuts (c.loop-place.invariant.cuts cuts ends);
    }
