-- The first leg record of a leg sequence.
use Rattle.std.proofs.Common.{◌≡◌, ◌||◌, nat_eq, List, [], ◌∷◌, ◌++◌, Option, subst, refl, sym, ap, ◌∙◌}
use Rattle.ssim_periods.specs.Calendar.{holds}
use Rattle.ssim_base.specs.internal.LegTable.{AddsLeg, used_of, variation_of}
use Rattle.ssim_base.specs.declared.leg_table.leg_sequence.LegSequence.{LegSequence}
use Rattle.ssim_base.proofs.LegSequences.{adds, entry-push, has-push}
use Rattle.ssim_base.proofs.leg_table.flight_legs.FlightLegs.add_first.Goals as goal
use Rattle.ssim_base.proofs.leg_table.flight_legs.FlightLegs.add_first.Goals.{then-is_empty+in_ok-reserve_exact, else-is_empty}

pub returns-clause-ok : goal.returns-clause-ok
returns-clause-ok c =
    let entries = c.args.self.now.entries.items in
    let y = c.add.new.self in
    let p = c.args.period.now in
    let same : c.if-is_empty.self.entries.items ≡ entries =
    elim c.if-is_empty.branch [
      | then-is_empty+in_ok-reserve_exact w ↦ rw w.self-is w.reserve_exact.ensures.items
      | else-is_empty w ↦ rw w.self-is refl
    ] in
    subst (λ (es : List LegSequence). AddsLeg entries es c.args.sequence c.args.variation p) (ap (λ (es : List LegSequence). es ++ y ∷ []) (sym same) ∙ sym c.in_ok-push.ensures.items)
    (adds entries (entries ++ y ∷ []) c.args.sequence c.args.variation p y
    (λ t. entry-push entries c.args.sequence t y c.requires.first (c.add.ensures.number ∙ c.new-entry.ensures.number))
    (λ w. c.in_ok-met.ensures.variations w
    ∙ ap (λ b. nat_eq w c.args.variation || b) (c.new-entry.ensures.variations w ∙ ap (λ (o : Option LegSequence). variation_of o w) (sym c.requires.first)))
    (λ n. c.in_ok-met.ensures.dates n ∙ ap (λ b. holds p n || b) (c.new-entry.ensures.dates n ∙ ap (λ (o : Option LegSequence). used_of o n) (sym c.requires.first)))
    (has-push entries y))
