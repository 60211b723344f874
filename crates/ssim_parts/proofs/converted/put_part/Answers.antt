-- The legs are put on the days of the moved period.
use Rattle.std.proofs.Common.{◌≡◌, ◌∙◌, ◌<◌, ℕ, [], ◌∷◌, false, sym, Option, subst}
use Rattle.std.specs.Prelude.{IfNone, IfSome}
use Rattle.ssim_values.specs.Period.{DayRange}
use Rattle.ssim_periods.specs.Calendar.{holds}
use Rattle.ssim_base.proofs.Results.{on_ok}
use Rattle.ssim_base.specs.Timetable.{Above, Legs}
use Rattle.ssim_parts.specs.internal.KeptDates.{came_from, or_legs}
use Rattle.ssim_parts.specs.internal.Placed.{legs_put}
use Rattle.ssim_parts.proofs.Changing.{changed_flight, unchanged}
use Rattle.ssim_parts.proofs.Held.{none_put, nothing_put, part_put}
use Rattle.ssim_parts.proofs.converted.put_part.Goals as goal

both_above : (legs others : Legs) → Above 0 legs → Above 0 others → Above 0 (or_legs legs others)
both_above [] others a b = b
both_above (leg ∷ legs) others a b = a

pub returns-then-not-is_kept_with : goal.returns-then-not-is_kept_with
returns-then-not-is_kept_with c =
    unchanged c.args.flight (legs_put c.args.shift (c.args.part.now ∷ [])) c.args.schedule.now
    (λ n within legs. nothing_put c.args.shift c.args.part.now
    (sym c.is_kept_with.ensures ∙ c.if-not-is_kept_with.true) n legs)

pub returns-in-None : goal.returns-in-None
returns-in-None c =
    let none = subst (λ (found : Option DayRange). IfNone found ((m : ℕ) → m < 36525
    → came_from (holds c.args.part.now.0) c.args.shift m ≡ false)) c.in-None.is
    c.moved_period.ensures.none in
    unchanged c.args.flight (legs_put c.args.shift (c.args.part.now ∷ [])) c.args.schedule.now
    (λ n within legs. none_put c.args.shift c.args.part.now n legs (none n within))

pub change-requires : goal.change-requires
change-requires c = record {
  in_order = λ legs above.
      both_above legs c.args.part.now.1.legs above c.requires.fit.in_order;
}

pub returns-in-Some : goal.returns-in-Some
returns-in-Some c =
    let s = c.args.shift in
    let part = c.args.part.now in
    let is = subst (λ (found : Option DayRange). IfSome found (λ moved. (m : ℕ) → m < 36525
    → holds moved m ≡ came_from (holds part.0) s m)) c.in-Some.is c.moved_period.ensures.some in
    on_ok c.change.result
    (changed_flight c.args.flight (holds c.in-Some.moved) (λ legs. or_legs legs part.1.legs)
    (legs_put s (part ∷ [])) c.args.schedule.now c.change.new.self
    (λ n within legs. part_put s part n legs (holds c.in-Some.moved n)
    (sym c.is_kept_with.ensures ∙ c.if-not-is_kept_with.false) (is n within)))
    c.change.ensures.days
