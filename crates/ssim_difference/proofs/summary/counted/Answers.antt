-- The lines of the kinds, and then the last one.
use Rattle.std.proofs.Common.{◌∙◌, ◌++◌, List, ℕ, ap}
use Rattle.std.specs.List.{flat_map}
use Rattle.ssim_difference.specs.Kinds.{all_kinds}
use Rattle.ssim_difference.specs.Lines.{last_line}
use Rattle.ssim_difference.specs.internal.KindCounts.{line_of_kind}
use Rattle.ssim_difference.proofs.summary.counted.Goals as goal

pub returns : goal.returns
returns c =
    let flights = c.args.flights.now in
    c.in_ok-push_last.ensures
    ∙ ap (λ (bs : List ℕ). bs ++ last_line flights c.args.dates)
    (c.in_ok-push_each.ensures
    ∙ ap (λ (bs : List ℕ). bs ++ flat_map (line_of_kind flights) all_kinds) c.new-lines.ensures.items)
