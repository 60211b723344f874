-- The lines of the flights, and then the last one.
use Rattle.std.proofs.Common.{◌∙◌, ◌++◌, List, ℕ, ap}
use Rattle.std.specs.List.{flat_map}
use Rattle.ssim_difference.specs.Lines.{flight_lines, last_line}
use Rattle.ssim_difference.proofs.lines.listed.Goals as goal

pub returns : goal.returns
returns c =
    let flights = c.args.flights.now in
    c.in_ok-push_last.ensures
    ∙ ap (λ (bs : List ℕ). bs ++ last_line flights c.args.dates)
    (c.in_ok-push_each.ensures
    ∙ ap (λ (bs : List ℕ). bs ++ flat_map
    (flight_lines c.args.airline) flights) c.new-lines.ensures.items)
