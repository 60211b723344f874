-- If there are legs, and each line has its leg, the new legs are those with the lines' times.
use Rattle.std.proofs.Common.{◌≡◌, Bool, true, false, List, [], ◌∷◌, refl, sym, ap, ◌∙◌}
use Rattle.ssim_text.specs.declared.leg.LegLine.{LegLine}
use Rattle.ssim_schedule.specs.Effect.{have_legs, retime, with_lines}
use Rattle.ssim_base.specs.Timetable.{Legs}
use Rattle.ssim_base.proofs.Results.{if_ok}
use Rattle.ssim_schedule.proofs.effect.sub_message_change.retimed.Goals as goal

retime_is : (lines : List LegLine) (old : Legs) (empty : Bool) → (old ≡ [] → empty ≡ true) → empty ≡ false → have_legs old lines ≡ true → (retime lines old).0 ≡ with_lines lines old
retime_is lines [] empty is not has = let bad : true ≡ false = sym (is refl) ∙ not in absurd cc
retime_is lines (leg ∷ legs) empty is not has = rw has refl

pub returns : goal.returns
returns c =
    let lines = c.args.lines.now in
    let old = c.args.old.now in
    let has : have_legs old lines ≡ true = ap (λ (legs : Legs). have_legs legs lines) (sym c.legs.ensures) ∙ sym c.have_all.ensures ∙ c.if-not-have_all.false in
    let new : c.in_ok-legs.legs.items ≡ with_lines lines old = c.in_ok-legs.ensures ∙ ap (λ (legs : Legs). with_lines lines legs) c.legs-2.ensures in
    let is = new ∙ sym (retime_is lines old c.is_empty.result c.is_empty.ensures.1 c.if-is_empty.false has) in
    if_ok c.of.result (λ itinerary made. made ∙ is) c.of.ensures
