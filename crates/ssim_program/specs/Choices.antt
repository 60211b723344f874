-- The choice of flight dates that words make.
use Rattle.std.specs.Prelude.{◌≤◌, ℕ, List, All, map, Option, Some, None}
use Rattle.ssim_values.specs.declared.fault.Fault.TheVariants as value_fault
use Rattle.ssim_base.specs.declared.resolution.ResolveFault.TheVariants as resolve_fault
use Rattle.ssim_held.specs.declared.fault.DeskFault.TheVariants as desk_fault
use Rattle.ssim_words.specs.Aircraft.{typed_aircraft}
use Rattle.ssim_words.specs.Date.{typed_day}
use Rattle.ssim_words.specs.Flight.{NameEach}
use Rattle.ssim_words.specs.Several.{each_read}
use Rattle.ssim_words.specs.Station.{typed_station}
use Rattle.ssim_parts.specs.Chosen.{Choosing}
use Rattle.ssim_command_line.specs.Line.{ChoiceTexts, Text}
use Rattle.ssim_program.specs.Answer.{Answer, Gives, OneOr, OrElse, Require, ◌>>=◌}
use Rattle.ssim_program.specs.Desks.{other_airline}
use Rattle.ssim_program.specs.Messages.{IsOf}
use Rattle.ssim_program.specs.declared.refusal.Refusal.{Refusal}
use Rattle.ssim_program.specs.declared.refusal.Refusal.TheVariants as refused

-- the date that a word spells, or this one if there is no word
abbrev pub dated : ℕ → Option Text → Option ℕ
dated other None = Some other
dated other (Some word) = typed_day word

-- the first date is after the last
abbrev pub turned_dates : Refusal
turned_dates = refused.Desk (desk_fault.Resolve (resolve_fault.Period 0))

-- The choice of flight dates of the airline that words make: without dates it is from the first day
-- of the calendar to the last.
abbrev pub choice_in : List ℕ → ChoiceTexts → List Text → Answer Choosing
choice_in airline words flights = do
  room ← Gives (tt {0})
  named ← OneOr (NameEach airline flights) (refused.Value value_fault.BadDesignator)
  stations ← OrElse (each_read typed_station words.stations) (refused.Value value_fault.BadStation)
  aircraft ← OrElse (each_read typed_aircraft words.aircraft) refused.Aircraft
  first ← OrElse (dated 0 words.from) (refused.Value value_fault.BadDate)
  last ← OrElse (dated 36524 words.to) (refused.Value value_fault.BadDate)
  here ← Require (All (IsOf airline) named) other_airline
  rising ← Require (first ≤ last) turned_dates
  Gives (record {
    flights = map (λ d. d.flight) named;
    first = first;
    last = last;
    stations = stations;
    aircraft = aircraft;
  })
