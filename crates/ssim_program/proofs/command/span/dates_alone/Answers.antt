-- No station and no aircraft type is named.
use Rattle.std.proofs.Common.{Bor, List, map, subst, ℕ}
use Rattle.ssim_command_line.specs.Line.{ChoiceTexts, span_line}
use Rattle.ssim_program.specs.Choices.{choice_in}
use Rattle.ssim_program.proofs.command.span.dates_alone.Goals as goal

pub returns : goal.returns
returns c =
    let span = span_line c.args.span in
    subst (λ (words : ChoiceTexts). choice_in c.args.airline words
    (map (λ t. t.now) c.args.flights.now) c.choice_in.result)
    (λ i. record {
      from = span.from;
      to = span.to;
      stations = map (λ (t : Bor (List ℕ)). t.now) (c.new.ensures.items i);
      aircraft = map (λ (t : Bor (List ℕ)). t.now) (c.new-2.ensures.items i);
    })
    c.choice_in.ensures
