-- One more leg goes to its group.
use Rattle.std.proofs.Common.{ℕ, List, ◌≡◌, ◌∙◌, ◌+◌, ◌++◌, ◌∷◌, [], sym, ap, append_assoc, take}
use Rattle.std.proofs.Common.{arith}
use Rattle.std.proofs.lemmas.Grind.{common_steps}
use Rattle.ssim_base.specs.Timetable.{Legs}
use Rattle.ssim_listing.specs.clauses.Groups.{group_in, group_of, with_leg}
use Rattle.ssim_listing.proofs.Grouping.{group_more}
use Rattle.ssim_page.specs.LegRow.{leg_row}
use Rattle.ssim_page.proofs.leg_row.add_legs.Goals as goal

pub loop-leg-preserved : goal.loop-leg-preserved
loop-leg-preserved c = λ before h row.
    let i = c.loop-leg.leg-index in
    let legs = c.args.legs.now in
    let leg = c.leg-item.result in
    let more : take (i + 1) legs ≡ take i legs ++ leg ∷ [] = grind (arith, common_steps) in
    c.in_ok-add_leg.ensures row
    ∙ (ap (λ (own : List ℕ). with_leg own leg row (group_in c.loop-leg.groups row)) c.in_ok-row.ensures
    ∙ (ap (with_leg (leg_row leg) leg row) (c.loop-leg.invariant before h row)
    ∙ (sym (group_more leg_row (before ++ take i legs) leg row)
    ∙ ap (λ (ls : Legs). group_of leg_row ls row)
    (append_assoc before (take i legs) (leg ∷ []) ∙ ap (λ (ls : Legs). before ++ ls) (sym more)))))
