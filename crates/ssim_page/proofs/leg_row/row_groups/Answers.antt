-- The legs of one more itinerary.
use Rattle.std.proofs.Common.{◌≡◌, ◌∙◌, ◌+◌, ◌++◌, ◌∷◌, [], Bor, ap, append-nil, map, sym, take, arith}
use Rattle.std.proofs.lemmas.Grind.{common_steps, flat_map-append}
use Rattle.std.proofs.lemmas.List.{map-append}
use Rattle.ssim_base.specs.Timetable.{Legs}
use Rattle.ssim_listing.specs.clauses.Groups.{group_of}
use Rattle.ssim_page.specs.Flight.{all_legs}
use Rattle.ssim_page.specs.LegRow.{leg_row}
use Rattle.ssim_page.proofs.leg_row.row_groups.Goals as goal

pub loop-itinerary-preserved : goal.loop-itinerary-preserved
loop-itinerary-preserved c = λ row.
    let i = c.loop-itinerary.itinerary-index in
    let all = c.args.itineraries.now in
    let legs = c.itinerary-item.result in
    let now = λ (x : Bor Legs). x.now in
    let so_far = map now (take i all) in
    let more : take (i + 1) all ≡ take i all ++ legs ∷ [] = grind (arith, common_steps) in
    let seen : map now (take (i + 1) all) ≡ so_far ++ legs.now ∷ [] =
    ap (map now) more ∙ map-append now (take i all) (legs ∷ []) in
    c.in_ok-add_legs.ensures (all_legs so_far) c.loop-itinerary.invariant row
    ∙ ap (λ (ls : Legs). group_of leg_row ls row)
    (ap (λ (ls : Legs). all_legs so_far ++ ls) (c.legs.ensures ∙ sym (append-nil legs.now))
    ∙ (sym (flat_map-append (λ (x : Legs). x) so_far (legs.now ∷ [])) ∙ ap all_legs (sym seen)))
