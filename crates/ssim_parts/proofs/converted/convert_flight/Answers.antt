-- The dates with each shift are put, and each date has its fate.
use Rattle.std.proofs.Common.{◌≡◌, ◌∙◌, ℕ, [], List, map, sym, ap, subst, Result, Ok, Err}
use Rattle.std.proofs.Common.{OnOk}
use Rattle.std.specs.List.{AllByRecursion}
use Rattle.std.proofs.lemmas.Result.{IfOk-weaker}
use Rattle.ssim_periods.specs.Days.{each_day}
use Rattle.ssim_periods.specs.Pieces.{ArePieces, pieces_of}
use Rattle.ssim_periods.proofs.DayLemmas.{each_day-same}
use Rattle.ssim_periods.proofs.PieceLaw.{pieces_law}
use Rattle.ssim_base.specs.Export.{same_itinerary}
use Rattle.ssim_base.specs.clauses.ItineraryLaws.{exact_itinerary}
use Rattle.ssim_parts.specs.Converted.{converted_on, fate_on}
use Rattle.ssim_parts.specs.Fates.{same_fate}
use Rattle.ssim_parts.specs.MovedLegs.{moved_flight}
use Rattle.ssim_parts.specs.declared.fate.Fate.TheVariants.{Absent}
use Rattle.ssim_parts.specs.internal.Changes.{ChangesFlight}
use Rattle.ssim_parts.specs.internal.KeptDates.{or_legs}
use Rattle.ssim_parts.specs.internal.Placed.{IsFit, MovedPiece, fate_in, legs_put}
use Rattle.ssim_parts.proofs.Changing.{changed_as}
use Rattle.ssim_parts.proofs.MovedFlights.{days_are, fates_are, put_thrice}
use Rattle.ssim_parts.proofs.converted.convert_flight.Goals as goal

on_ok_any : {A E P : Type 0} (r : Result A E) → P → OnOk r P
on_ok_any (Ok a) p = p
on_ok_any (Err e) p = tt

pub put_all-requires : goal.put_all-requires
put_all-requires c =
    subst (AllByRecursion IsFit) (sym c.deref.ensures.value) (c.in_ok-parts.ensures.fit c.requires)

pub returns-clause-days : goal.returns-clause-days
returns-clause-days c = λ days whole is.
    let rows = c.args.rows.now in
    let wanted = c.args.wanted in
    let parts = c.in_ok-parts.parts.items in
    let law : ArePieces same_itinerary [] days c.args.pieces.now =
    subst (ArePieces same_itinerary [] days) (sym is)
    (pieces_law same_itinerary [] exact_itinerary days) in
    let held = λ (n : ℕ). c.in_ok-parts.ensures.held n
    ∙ ap (map (moved_flight rows wanted n)) (law.on_each_day n) in
    let fit = c.in_ok-parts.ensures.fit c.requires in
    let put = subst (λ (ps : List MovedPiece). ChangesFlight c.args.flight (λ m before.
    legs_put 0 ps m (legs_put 1 ps m (legs_put 2 ps m before))) c.args.schedule.now
    c.put_all.new.schedule) c.deref.ensures.value c.in_ok-put_all.ensures in
    let done = changed_as c.args.flight (λ m before.
    legs_put 0 parts m (legs_put 1 parts m (legs_put 2 parts m before)))
    (λ m before. or_legs before (converted_on rows wanted days m)) c.args.schedule.now
    c.put_all.new.schedule (λ n within legs. put_thrice parts n legs
    ∙ ap (or_legs legs) (days_are rows wanted days whole parts held fit n)) put in
    on_ok_any c.pieces-2.result done

pub returns-clause-fates : goal.returns-clause-fates
returns-clause-fates c = λ days whole is.
    let rows = c.args.rows.now in
    let wanted = c.args.wanted in
    let parts = c.in_ok-parts.parts.items in
    let law : ArePieces same_itinerary [] days c.args.pieces.now =
    subst (ArePieces same_itinerary [] days) (sym is)
    (pieces_law same_itinerary [] exact_itinerary days) in
    let held = λ (n : ℕ). c.in_ok-parts.ensures.held n
    ∙ ap (map (moved_flight rows wanted n)) (law.on_each_day n) in
    let fit = c.in_ok-parts.ensures.fit c.requires in
    let fates : c.in_ok-fates_of_parts.field-0.days ≡ each_day (fate_on rows wanted days) =
    c.in_ok-fates_of_parts.ensures
    ∙ ap (λ (ps : List MovedPiece). each_day (fate_in ps)) c.deref-2.ensures.value
    ∙ each_day-same (fate_in parts) (fate_on rows wanted days)
    (λ n within. fates_are rows wanted days whole parts held fit n) in
    IfOk-weaker c.pieces-2.result _ _ (λ found is. is ∙ ap (pieces_of same_fate Absent) fates)
    c.pieces-2.ensures.pieces
