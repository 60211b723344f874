-- The list of the number gets the days, and the others keep theirs.
use Rattle.std.proofs.Common.{◌≡◌, ◌+◌, ◌-◌, ◌<◌, ◌&&◌, ◌||◌, nat_eq, ap, ◌∙◌, arith, length}
use Rattle.std.proofs.lemmas.Result.{on_ok_weaker}
use Rattle.ssim_periods.specs.internal.Apart.{is_held}
use Rattle.ssim_values.specs.Calendar.{slot}
use Rattle.ssim_periods.specs.internal.Numbers.{is_between}
use Rattle.ssim_periods.proofs.NumberPeriods.{adds-one}
use Rattle.ssim_periods.proofs.range_rows.number_periods.add_weekday.Goals as goal

pub returns : goal.returns
returns c = record {
  days =
      let number = c.number.inside.number in let from_1 = c.if-number-eq0.false in let to = c.if-len-number.false in let len = c.len.ensures in let ok = c.args.lists.now.ok in
      let k : c.args.number ≡ number - 1 + 1 = (let view = c.number.view_is in omega arith) in
      let within : number - 1 < length c.args.lists.now.items = omega arith in
      let ordered = c.requires.ordered in let end : c.args.to - 1 + 1 ≡ c.args.to = omega arith in
      on_ok_weaker c.join.result (λ held. adds-one (λ list. list.items) c.args.weekday c.args.number c.args.from c.args.to (number - 1) c.args.lists.now.items c.index_mut.result.now c.join.new.periods k within c.index_mut.ensures.value
      (λ n. held n ∙ ap (λ b. b || is_held c.index_mut.result.now.items n) (c.one_weekday.ensures n ∙ ap (λ end. is_between c.args.from end n && nat_eq (slot n) c.args.weekday) end))) c.join.ensures;
}
