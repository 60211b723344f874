-- Of equal files the makers of dates are the same.
use Rattle.std.proofs.Common.{◌≡◌, ℕ, List, ap, map, if◌then◌else◌, refl, subst}
use Rattle.std.specs.Prelude.{All, Bool, Some}
use Rattle.ssim_values.specs.Flight.{FlightNumber}
use Rattle.ssim_values.specs.declared.designator.Designator.{Designator}
use Rattle.ssim_values.specs.declared.fault.Fault.TheVariants as value_fault
use Rattle.ssim_records.specs.Frames.{FramesAreOne}
use Rattle.ssim_words.proofs.OneFlight.{name_once}
use Rattle.ssim_words.specs.Flight.{NameEach}
use Rattle.ssim_base.specs.Base.{airline_of}
use Rattle.ssim_base.specs.Reading.{SameBytesSameBase}
use Rattle.ssim_held.specs.Entries.{DeskSeen}
use Rattle.ssim_held.specs.File.{NoTwoDesks}
use Rattle.ssim_blame.specs.Lines.{blame_lines}
use Rattle.ssim_blame.specs.Makers.{blamed_among}
use Rattle.ssim_blame.specs.Rows.{blame_rows}
use Rattle.ssim_command_line.specs.Line.{Blame, Text}
use Rattle.ssim_program.specs.Acts.{prints}
use Rattle.ssim_program.specs.Answer.{Answer, Gives, OneOr, Require, ◌>>=◌}
use Rattle.ssim_program.specs.Desks.{other_airline}
use Rattle.ssim_program.specs.EqualFiles.{AreAlike, DoesTheSame}
use Rattle.ssim_program.specs.Files.{Files}
use Rattle.ssim_program.specs.Messages.{IsOf, flights_named}
use Rattle.ssim_program.specs.Timetables.{shown_in}
use Rattle.ssim_program.specs.declared.refusal.Refusal.TheVariants as refused
use Rattle.ssim_program.proofs.Alike.{Equal, Nothing, gives_alike, one_or_alike, prints_alike}
use Rattle.ssim_program.proofs.Alike.{require_alike, then_alike}
use Rattle.ssim_program.proofs.EqualFiles.{airlines_same, seen}
use Rattle.ssim_program.proofs.SameReading.{SameDesk, shown_alike}

-- flights of one airline, from the flights on
abbrev of_airline : List ℕ → List Designator → Answer (List FlightNumber)
of_airline airline flights = do
  here ← Require (All (IsOf airline) flights) other_airline
  Gives (map (λ d. d.flight) flights)

of_airline_alike : (airline : List ℕ) (flights others : List Designator) → flights ≡ others
    → AreAlike Equal (of_airline airline flights) (of_airline airline others)
of_airline_alike airline flights others same =
    subst (λ (ds : List Designator).
    AreAlike Equal (of_airline airline flights) (of_airline airline ds)) same
    (then_alike Nothing Equal (Require (All (IsOf airline) flights) other_airline)
    (Require (All (IsOf airline) flights) other_airline)
    (λ here. Gives (map (λ d. d.flight) flights)) (λ here. Gives (map (λ d. d.flight) flights))
    (require_alike (All (IsOf airline) flights) other_airline)
    (λ x y both. gives_alike (map (λ d. d.flight) flights) (map (λ d. d.flight) flights) refl))

abbrev named_of : List ℕ → List Text → Unit {0} → Answer (List FlightNumber)
named_of airline words room =
    OneOr (NameEach airline words) (refused.Value value_fault.BadDesignator) >>= of_airline airline

named_alike : (airline other : List ℕ) (words : List Text) → airline ≡ other
    → AreAlike Equal (flights_named airline words) (flights_named other words)
named_alike airline other words same =
    let named : Answer (List Designator) =
    OneOr (NameEach airline words) (refused.Value value_fault.BadDesignator) in
    subst (λ (a : List ℕ). AreAlike Equal (flights_named airline words) (flights_named a words)) same
    (then_alike Equal Equal (Gives (tt {0})) (Gives (tt {0})) (named_of airline words)
    (named_of airline words) (gives_alike (tt {0}) (tt {0}) refl)
    (λ x y both. then_alike Equal Equal named named (of_airline airline) (of_airline airline)
    (one_or_alike (NameEach airline words) (refused.Value value_fault.BadDesignator)
    (name_once airline words)) (of_airline_alike airline)))

abbrev lines_of : Bool → DeskSeen → List FlightNumber → List ℕ
lines_of csv desk flights =
    if csv then blame_rows (airline_of desk.base.records) (blamed_among desk flights)
    else blame_lines (airline_of desk.base.records) (blamed_among desk flights)

abbrev blamed_in : Bool → List Text → DeskSeen → Answer (List ℕ)
blamed_in csv words desk = do
  flights ← flights_named (airline_of desk.base.records) words
  Gives (lines_of csv desk flights)

module _ (frames : FramesAreOne) (one_base : SameBytesSameBase) (no_two : NoTwoDesks) where
  pub blame_alike : (csv : Bool) (flights : List Text)
      → DoesTheSame (λ file. Blame csv file flights)
  blame_alike csv words files others name another same =
      let mine = shown_in (Some files) name in
      let theirs = shown_in (Some others) another in
      let next = blamed_in csv words in
      prints_alike (mine >>= next) (theirs >>= next)
      (then_alike SameDesk Equal mine theirs next next
      (shown_alike files others name another same frames one_base no_two)
      (λ desk other one. then_alike Equal Equal
      (flights_named (airline_of desk.base.records) words)
      (flights_named (airline_of other.base.records) words)
      (λ flights. Gives (lines_of csv desk flights)) (λ flights. Gives (lines_of csv other flights))
      (named_alike (airline_of desk.base.records) (airline_of other.base.records) words
      (airlines_same desk other one))
      (λ flights that both. gives_alike (lines_of csv desk flights) (lines_of csv other that)
      (λ i. lines_of csv (seen (one.0 i) (one.1 i)) (both i)))))
