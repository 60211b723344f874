-- There is an itinerary.
use Rattle.std.proofs.Common.{◌≡◌, ◌∷◌, [], List, ℕ, IfOk, refl, sym, subst}
use Rattle.ssim_values.specs.declared.designator.Designator.{Designator}
use Rattle.ssim_base.specs.Timetable.{Legs}
use Rattle.ssim_program.specs.print.Calendar.{drawn, drawn_or_none}
use Rattle.ssim_program.proofs.command.calendar.drawn_or_none.Goals as goal

there_is_one : (designator : Designator) (itineraries : List Legs) (letters : List ℕ) (first : Legs) (later : List Legs) → itineraries ≡ first ∷ later
    → drawn_or_none designator itineraries letters ≡ drawn designator itineraries letters
there_is_one designator [] letters first later is = absurd cc
there_is_one designator (legs ∷ others) letters first later is = refl

pub returns-in-Some : goal.returns-in-Some
returns-in-Some c =
    subst (λ (bytes : List ℕ). IfOk c.drawn.result (λ lines. lines.items ≡ bytes))
    (sym (there_is_one c.args.designator c.args.itineraries.now c.args.letters.now c.in-Some.field-0.0.now c.in-Some.field-0.1.now c.in-Some.ensures.cases.0)) c.drawn.ensures
