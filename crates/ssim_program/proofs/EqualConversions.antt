-- The timetable of equal files has one data set in a time mode, and what is printed of it is the same.
use Rattle.std.proofs.Common.{◌≡◌, ◌∙◌, ◌∷◌, [], List, Ok, Some, ap, refl, subst, sym, ℕ}
use Rattle.ssim_values.specs.declared.time_mode.TimeMode.{TimeMode}
use Rattle.ssim_values.specs.declared.time_mode.TimeMode.TheVariants.{Utc, Local}
use Rattle.ssim_records.specs.Carrier.{CarrierFields}
use Rattle.ssim_records.specs.Frames.{FramesAreOne}
use Rattle.ssim_base.specs.Base.{airline_of}
use Rattle.ssim_base.specs.BaseSeen.{BaseSeen}
use Rattle.ssim_base.specs.Reading.{SameBytesSameBase}
use Rattle.ssim_held.specs.Entries.{DeskSeen, Entry}
use Rattle.ssim_held.specs.File.{NoTwoDesks}
use Rattle.ssim_desk.specs.Desk.{days_of_desk}
use Rattle.ssim_parts.specs.ConversionLines.{conversion_lines, unconverted_lines}
use Rattle.ssim_command_line.specs.Line.{Convert, Text}
use Rattle.ssim_command_line.specs.declared.command_line.ModeWord.{ModeWord}
use Rattle.ssim_program.specs.Acts.{Act, Keep, Print}
use Rattle.ssim_program.specs.Answer.{Answer, Gives, ◌>>=◌}
use Rattle.ssim_program.specs.Converting.{between, converted, days_in_mode, in_mode, in_other_mode}
use Rattle.ssim_program.specs.Converting.{in_own_mode, mode_named}
use Rattle.ssim_program.specs.EqualFiles.{AreAlike, MakesTheSame}
use Rattle.ssim_program.specs.Exports.{export_in}
use Rattle.ssim_program.specs.Timetables.{carrier_of}
use Rattle.ssim_program.proofs.Alike.{Equal, gives_alike, then_alike}
use Rattle.ssim_program.proofs.EqualFiles.{carrier_alike, export_in_alike, seen}
use Rattle.ssim_program.proofs.SameReading.{SameDesk, timetable_alike}

-- a data set and what is printed
abbrev Made : Type 0
Made = List ℕ × List ℕ

-- a step, and then the next one of its value
step : {A B : Type 0} (one : Answer A) (next : A → Answer B) → AreAlike Equal one one
    → ((a : A) → AreAlike Equal (next a) (next a)) → AreAlike Equal (one >>= next) (one >>= next)
step one next alike later = then_alike Equal Equal one one next next alike
    (λ a b same. subst (λ (x : _). AreAlike Equal (next a) (next x)) same (later a))

-- an answer that depends on the base of a desk and on what it holds
of_same : (answer : DeskSeen → Answer Made) (desk other : DeskSeen) → SameDesk desk other
    → AreAlike Equal (answer desk) (answer (seen desk.base desk.held))
    → AreAlike Equal (answer desk) (answer (seen other.base other.held))
of_same answer desk other one own =
    subst (λ (held : List Entry). AreAlike Equal (answer desk) (answer (seen other.base held))) one.1
    (subst (λ (base : BaseSeen). AreAlike Equal (answer desk) (answer (seen base desk.held))) one.0
    own)

own_alike : (desk other : DeskSeen) → SameDesk desk other
    → AreAlike Equal (in_own_mode desk) (in_own_mode other)
own_alike desk other one =
    let lines = unconverted_lines (days_of_desk desk) in
    let with_lines : List ℕ → Answer Made = λ bytes. Gives (bytes, lines) in
    of_same in_own_mode desk other one
    (step (export_in desk.base.records (days_of_desk desk)) with_lines
    (export_in_alike desk.base.records (days_of_desk desk))
    (λ bytes. gives_alike (bytes, lines) (bytes, lines) refl))

other_alike : (mode : TimeMode) (desk other : DeskSeen) → SameDesk desk other
    → AreAlike Equal (in_other_mode mode desk) (in_other_mode mode other)
other_alike mode desk other one =
    let lines = conversion_lines (airline_of desk.base.records) desk.base.rows mode
    (days_of_desk desk) in
    let with_lines : List ℕ → Answer Made = λ bytes. Gives (bytes, lines) in
    of_same (in_other_mode mode) desk other one
    (step (export_in (in_mode mode desk.base.records) (days_in_mode mode desk)) with_lines
    (export_in_alike (in_mode mode desk.base.records) (days_in_mode mode desk))
    (λ bytes. gives_alike (bytes, lines) (bytes, lines) refl))

between_alike : (from to : TimeMode) (desk other : DeskSeen) → SameDesk desk other
    → AreAlike Equal (between from to desk) (between from to other)
between_alike Utc Utc desk other one = own_alike desk other one
between_alike Utc Local desk other one = other_alike Local desk other one
between_alike Local Utc desk other one = other_alike Utc desk other one
between_alike Local Local desk other one = own_alike desk other one

conversions_alike : (mode : TimeMode) (desk other : DeskSeen) → SameDesk desk other
    → AreAlike Equal (converted mode desk) (converted mode other)
conversions_alike mode desk other one =
    let mine : CarrierFields → Answer Made = λ carrier. between carrier.time_mode mode desk in
    let theirs : CarrierFields → Answer Made = λ carrier. between carrier.time_mode mode other in
    then_alike Equal Equal (carrier_of desk.base.records) (carrier_of other.base.records) mine theirs
    (carrier_alike desk.base.records other.base.records
    (ap (λ (base : BaseSeen). base.records) one.0))
    (λ carrier that same. subst (λ (c : CarrierFields). AreAlike Equal (mine carrier) (theirs c)) same
    (between_alike carrier.time_mode mode desk other one))

module _ (frames : FramesAreOne) (one_base : SameBytesSameBase) (no_two : NoTwoDesks) where
  pub convert_same : (mode : ModeWord) (out : Text) → MakesTheSame (λ file. Convert mode file out)
  convert_same mode out files others name another acts again same
      (_, may, (desk, read, (made, makes, (itself, are))))
      (_, may_too, (other, read_too, (that, makes_too, (itself_too, are_too)))) =
      let one = (timetable_alike files others name another same frames one_base no_two).values
      desk other read read_too in
      let both = (conversions_alike (mode_named mode) desk other one).values made that makes
      makes_too in
      are_too ∙ ap (λ (m : Made). Keep out m.0 ∷ Print m.1 ∷ []) (sym both) ∙ sym are
