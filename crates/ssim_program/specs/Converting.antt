-- The timetable of a file in a time mode, as the data set that `convert` keeps.
use Rattle.std.specs.Prelude.{ℕ, List, ◌∷◌}
use Rattle.ssim_values.specs.declared.time_mode.TimeMode.{TimeMode}
use Rattle.ssim_values.specs.declared.time_mode.TimeMode.TheVariants.{Utc, Local}
use Rattle.ssim_values.specs.Flight.{FlightNumber}
use Rattle.ssim_records.specs.declared.record.Record.{Record}
use Rattle.ssim_records.specs.declared.record.Record.TheVariants.{Carrier}
use Rattle.ssim_base.specs.Base.{airline_of}
use Rattle.ssim_base.specs.Timetable.{Days}
use Rattle.ssim_held.specs.Entries.{DeskSeen}
use Rattle.ssim_desk.specs.Desk.{days_of_desk}
use Rattle.ssim_parts.specs.Converted.{converted_days}
use Rattle.ssim_parts.specs.ConversionLines.{conversion_lines, unconverted_lines}
use Rattle.ssim_command_line.specs.declared.command_line.ModeWord.{ModeWord}
use Rattle.ssim_command_line.specs.declared.command_line.ModeWord.TheVariants as word
use Rattle.ssim_program.specs.Answer.{Answer, Gives, ◌>>=◌}
use Rattle.ssim_program.specs.Exports.{export_in}
use Rattle.ssim_program.specs.Timetables.{carrier_of}

-- the time mode of a word
abbrev pub mode_named : ModeWord → TimeMode
mode_named word.Utc = Utc
mode_named word.Local = Local

-- the records of a base, with this time mode in the carrier record
abbrev pub in_mode : TimeMode → List Record → List Record
in_mode mode (header ∷ Carrier carrier ∷ later) =
    header ∷ Carrier (record carrier { time_mode = mode }) ∷ later
in_mode mode records = records

-- the timetable of a desk in the other time mode, which this one is
abbrev pub days_in_mode : TimeMode → DeskSeen → FlightNumber → Days
days_in_mode mode desk flight = converted_days desk.base.rows mode (days_of_desk desk flight)

-- a data set in the time mode of the desk, which is its export, and the number of flight dates
abbrev pub in_own_mode : DeskSeen → Answer (List ℕ × List ℕ)
in_own_mode desk = do
  bytes ← export_in desk.base.records (days_of_desk desk)
  Gives (bytes, unconverted_lines (days_of_desk desk))

-- a data set in the other time mode, which this one is, and a line for each period that is left
abbrev pub in_other_mode : TimeMode → DeskSeen → Answer (List ℕ × List ℕ)
in_other_mode mode desk = do
  bytes ← export_in (in_mode mode desk.base.records) (days_in_mode mode desk)
  Gives (
    bytes,
    conversion_lines (airline_of desk.base.records) desk.base.rows mode
        (days_of_desk desk),
  )

-- a data set in the second time mode of a desk in the first one, and what is printed
abbrev pub between : TimeMode → TimeMode → DeskSeen → Answer (List ℕ × List ℕ)
between Utc Utc desk = in_own_mode desk
between Local Local desk = in_own_mode desk
between Utc Local desk = in_other_mode Local desk
between Local Utc desk = in_other_mode Utc desk

-- the data set of a desk in a time mode, and what is printed
abbrev pub converted : TimeMode → DeskSeen → Answer (List ℕ × List ℕ)
converted mode desk = do
  carrier ← carrier_of desk.base.records
  between carrier.time_mode mode desk
