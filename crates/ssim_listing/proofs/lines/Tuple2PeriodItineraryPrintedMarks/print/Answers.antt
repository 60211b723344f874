-- The line of the period, and then those of the legs.
use Rattle.std.proofs.Common.{◌∙◌, ◌++◌, ◌∷◌, List, ℕ, ap}
use Rattle.std.specs.List.{flat_map}
use Rattle.std.proofs.lemmas.Result.{on_ok_weaker}
use Rattle.ssim_base.specs.Export.{line}
use Rattle.ssim_base.specs.Timetable.{Legs}
use Rattle.ssim_listing.specs.Lines.{period_text}
use Rattle.ssim_listing.specs.clauses.Groups.{group_in, is_mixed}
use Rattle.ssim_listing.specs.internal.GroupedLines.{grouped_line}
use Rattle.ssim_listing.proofs.Joining.{joined}
use Rattle.ssim_listing.proofs.lines.Tuple2PeriodItineraryPrintedMarks.print.Goals as goal

pub returns : goal.returns
returns c =
    let marks = c.args.marks.now in let piece = c.args.self.now in
    let each = flat_map (grouped_line (λ (text : List ℕ). is_mixed (group_in marks.groups text))) in
    let period = line (marks.name.now ++ 32 ∷ period_text piece.0) in
    on_ok_weaker c.push_each.result
    (λ added. joined c.args.lines.now.items period (each piece.1) c.in_ok-push_period.ensures
    (added ∙ ap (λ (legs : Legs). c.push_period.new.lines.items ++ each legs) c.legs.ensures))
    c.push_each.ensures
