-- Small examples of lines and rows, checked by computation.
use Rattle.std.specs.Prelude.{◌≡◌, ℕ, true, false, List, [], ◌∷◌, ◌++◌, codes, refl, replicate}
use Rattle.csv.specs.Records.{trim_end, trim_start}
use Rattle.csv.specs.Writing.{escaped, fields_text, is_blank}
use Rattle.ssim_values.specs.Calendar.{day_of_month, month_of, year_of}
use Rattle.ssim_values.specs.Day.{day_text}
use Rattle.ssim_values.specs.Period.{DayRange}
use Rattle.ssim_base.specs.Export.{Piece}
use Rattle.ssim_base.specs.Timetable.{LegValue}
use Rattle.ssim_listing.specs.Dates.{date_line, dates_on}
use Rattle.ssim_listing.specs.Lines.{flight_lines}
use Rattle.ssim_listing.specs.Marks.{is_like}
use Rattle.ssim_listing.specs.Rows.{iso_date, iso_time, leg_row, period_head}

-- columns 14, 37 to 127 and 129 to 194 of a leg with these bookings
abbrev columns_with : List ℕ → List ℕ
columns_with bookings =
    codes "J" ++ codes "ZRH12451245+0200 1LHR13251325+0100  320" ++ bookings ++ replicate 32 32
    ++ replicate 44 32 ++ codes "Y150\"F6\"            00"

abbrev leg : LegValue
leg = record { sequence = 1; columns = columns_with (codes "CY                  "); tails = [] }

abbrev other_leg : LegValue
other_leg = record { sequence = 1; columns = columns_with (codes "Y                   "); tails = [] }

-- two days from 28MAR27, a Sunday, and two days from 29MAR27, in days from 01JAN00
abbrev sundays : DayRange
sundays = record {
  first = 9948;
  last = 9955;
  days = false ∷ false ∷ false ∷ false ∷ false ∷ false ∷ true ∷ [];
}

abbrev mondays : DayRange
mondays = record {
  first = 9949;
  last = 9956;
  days = true ∷ false ∷ false ∷ false ∷ false ∷ false ∷ false ∷ [];
}

abbrev two_pieces : List Piece
two_pieces = (sundays, leg ∷ []) ∷ (mondays, other_leg ∷ []) ∷ []

they_differ : is_like leg other_leg ≡ true
they_differ = refl

-- the legs differ in their bookings alone, so both are marked
their_lines : flight_lines (codes "LX544") two_pieces
    ≡ codes "LX544 28MAR27 04APR27 ......7\n  01 ZRH 1245 1245 +0200 LHR 1325 1325 +0100 00 J 320 *\n"
    ++ codes "LX544 29MAR27 05APR27 1......\n  01 ZRH 1245 1245 +0200 LHR 1325 1325 +0100 00 J 320 *\n"
unfolding day_text day_of_month month_of year_of
their_lines = refl

-- each date has the legs of the piece that holds it
their_dates : dates_on two_pieces 9948 ++ dates_on two_pieces 9949 ++ dates_on two_pieces 9950
    ≡ (9948, leg ∷ []) ∷ (9949, other_leg ∷ []) ∷ []
their_dates = refl

one_date : date_line (codes "LX544") 9949 other_leg
    ≡ codes "LX544 29MAR27 01 ZRH 1245 1245 +0200 LHR 1325 1325 +0100 00 J 320\n"
unfolding day_text day_of_month month_of year_of
one_date = refl

the_date : iso_date 9948 ≡ codes "2027-03-28"
unfolding day_of_month month_of year_of
the_date = refl

-- a blank time stays blank
the_times : iso_time (codes "0630") ++ iso_time (codes "    ") ≡ codes "06:30     "
the_times = refl

-- fields without the blanks at their ends, and with quotes where `csv` sets them
one_row : leg_row (period_head (codes "LX544") sundays) leg
    ≡ codes "LX544,2027-03-28,2027-04-04,7,01,ZRH,12:45,12:45,+0200,LHR,13:25,13:25,+0100,0,0,J,320,"
    ++ codes "CY,\"Y150\"\"F6\"\"\",1,\n"
unfolding day_of_month month_of year_of trim_start trim_end escaped fields_text is_blank
one_row = refl
