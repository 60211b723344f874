-- The text is of the month's days.
use Rattle.std.proofs.Common.{◌≤◌, Some, sym, ap, ◌∙◌, arith}
use Rattle.std.proofs.lemmas.Option.{IfSome_then}
use Rattle.ssim_columns.proofs.lemmas.Months.{day_in_month}
use Rattle.ssim_columns.proofs.latest_months.Month.day_in.Goals as goal

pub returns : goal.returns
returns c =
    let low : 1 ≤ c.in_ok-in_month.in_month = omega (arith, c.if-in_month-eq0.false) in
    let read = c.in_ok-in_month.ensures.some in
    let is = day_in_month c.args.text.now c.args.self.now.name c.args.self.now.year c.args.self.now.first c.in_ok-in_month.in_month c.requires read.1 (c.are_same_four.ensures.0 c.if-not-are_same_four.false) c.if-text-self.false c.args.self.now.is_month low c.if-in_month-gt28.false in
    IfSome_then c.from_number.result c.from_number.ensures.value (λ d e. is ∙ ap Some (sym e))
