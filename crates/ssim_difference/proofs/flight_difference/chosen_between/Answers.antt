-- All differences, or what is chosen of them.
use Rattle.std.proofs.Common.{◌∙◌, Option, sym, ap}
use Rattle.std.specs.Option.{option_map}
use Rattle.std.proofs.lemmas.Result.{IfOk-weaker}
use Rattle.ssim_parts.specs.Chosen.{Choosing}
use Rattle.ssim_difference.specs.Differences.{differing_days}
use Rattle.ssim_difference.specs.internal.Choosing.{part}
use Rattle.ssim_difference.proofs.Between.{between_lists}
use Rattle.ssim_difference.proofs.HeldPieces.{are_disjoint}
use Rattle.ssim_difference.proofs.flight_difference.chosen_between.Goals as goal

pub returns-in-None : goal.returns-in-None
returns-in-None c before after old_is new_is =
    let flight = c.args.flight in
    IfOk-weaker c.days_between.result _ _
    (λ days is. is
    ∙ between_lists c.args.old.now c.args.new.now (before flight) (after flight) old_is new_is
    ∙ ap (λ (o : Option Choosing). differing_days (part o before after before flight)
    (part o before after after flight)) (sym (ap (option_map (λ x. x.now)) c.in-None.is)))
    (c.days_between.ensures (are_disjoint c.args.old.now (before flight) old_is)
    (are_disjoint c.args.new.now (after flight) new_is))

pub returns-in-Some : goal.returns-in-Some
returns-in-Some c before after old_is new_is =
    let flight = c.args.flight in
    IfOk-weaker c.chosen_days.result _ _
    (λ days is. is
    ∙ ap (λ (o : Option Choosing). differing_days (part o before after before flight)
    (part o before after after flight)) (sym (ap (option_map (λ x. x.now)) c.in-Some.is)))
    (c.chosen_days.ensures before after old_is new_is)
