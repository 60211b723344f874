-- All flights.
use Rattle.std.proofs.Common.{◌∙◌, ◌++◌, List, ℕ, ap}
use Rattle.std.specs.List.{flat_map}
use Rattle.ssim_outbox.specs.internal.AddedLines.{divided_lines}
use Rattle.ssim_outbox.proofs.Divided.{lines_divided}
use Rattle.ssim_outbox.proofs.unsaid_dates.unsaid_lines.Goals as goal

pub returns : goal.returns
returns c old new is =
    let unsaid = c.args.unsaid.now in
    let airline = c.args.airline in let rows = c.args.rows.now in
    c.in_ok-push_flights.ensures
    ∙ ap (λ (none : List ℕ). none ++ flat_map (divided_lines airline rows) unsaid) c.new-lines.ensures.items
    ∙ lines_divided airline rows old new unsaid is
