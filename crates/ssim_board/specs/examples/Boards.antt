-- Small examples of times and boards, checked by computation.
use Rattle.std.specs.Prelude.{◌≡◌, ℕ, true, false, List, [], ◌∷◌, ◌++◌, replicate, codes, refl}
use Rattle.std.specs.Prelude.{Some, None}
use Rattle.std.specs.Fmt.{decimal}
use Rattle.ssim_values.specs.Calendar.{day_of_month, month_of, year_of}
use Rattle.ssim_values.specs.Clock.{clock_of}
use Rattle.ssim_values.specs.Day.{day_text}
use Rattle.ssim_values.specs.Flight.{FlightNumber}
use Rattle.ssim_values.specs.Variation.{variation_of}
use Rattle.ssim_values.specs.declared.time_mode.TimeMode.TheVariants.{Utc, Local}
use Rattle.ssim_records.specs.Columns.{utc_variation_of}
use Rattle.ssim_base.specs.Timetable.{LegValue}
use Rattle.ssim_board.specs.InOrder.{by_time, minute_count}
use Rattle.ssim_board.specs.Kinds.{of_kind}
use Rattle.ssim_board.specs.LegTimes.{arrival_time, departure_time, is_uncertain}
use Rattle.ssim_board.specs.LocalTime.{moment_on}
use Rattle.ssim_board.specs.Lines.{board_lines, shift_text}
use Rattle.ssim_board.specs.Movements.{is_there, leg_movements, movement}
use Rattle.ssim_board.specs.declared.board.Board.{Board}
use Rattle.ssim_board.specs.declared.movement.MovementKind.TheVariants.{Departure, Arrival}

-- the columns of a leg: 14; 37 to 75 as given; blanks to 192; 193 and 194 as given
abbrev columns_of : List ℕ → List ℕ → List ℕ
columns_of middle variations =
    codes "J" ++ middle ++ replicate 52 32 ++ replicate 64 32 ++ variations

-- 0630 in summer at Friedrichshafen, 0755 at Hamburg
abbrev morning : List ℕ
morning = columns_of (codes "FDH06300630+0200  HAM07550755+0200  E90") (codes "00")

-- the times of the data set, in local mode: 15JUN27 is day 10,027, and day 10,028 of local times
in_local_mode : departure_time Local 10027 morning ∷ arrival_time Local 10027 morning ∷ []
    ≡ moment_on 10028 390 ∷ moment_on 10028 475 ∷ []
unfolding departure_time arrival_time clock_of
in_local_mode = refl

-- the same times as UTC are 0830 and 0955
in_utc_mode : departure_time Utc 10027 morning ∷ arrival_time Utc 10027 morning ∷ []
    ≡ moment_on 10028 510 ∷ moment_on 10028 595 ∷ []
unfolding departure_time arrival_time clock_of utc_variation_of variation_of
in_utc_mode = refl

-- 0030 UTC at -0100 is 2330 of the day before; 2330 UTC at +0200 is 0130 of the next day
abbrev over_midnight : List ℕ
over_midnight = columns_of (codes "PDL00300030-0100  FDH23302330+0200  320") (codes "00")

day_before_and_next : departure_time Utc 0 over_midnight ∷ arrival_time Utc 0 over_midnight ∷ []
    ≡ moment_on 0 1410 ∷ moment_on 2 90 ∷ []
unfolding departure_time arrival_time clock_of utc_variation_of variation_of
day_before_and_next = refl

-- 2400 stays 2400 at +0000, and is 0100 of the next day at +0100
abbrev midnight : List ℕ
midnight = columns_of (codes "KEF24002400+0000  LIS24002400+0100  320") (codes "00")

at_midnight : departure_time Utc 5 midnight ∷ arrival_time Utc 5 midnight ∷ []
    ≡ moment_on 6 1440 ∷ moment_on 7 60 ∷ []
unfolding departure_time arrival_time clock_of utc_variation_of variation_of
at_midnight = refl

-- the same in local mode
local_midnight : departure_time Local 5 midnight ∷ arrival_time Local 5 midnight ∷ []
    ≡ moment_on 6 1440 ∷ moment_on 6 1440 ∷ []
unfolding departure_time arrival_time clock_of
local_midnight = refl

-- date variations 1 and 2
later_days : (let d = columns_of (codes "FDH22302230+0200  DXB06400640+0400  320") (codes "12") in
    departure_time Local 10027 d ∷ arrival_time Local 10027 d ∷ [])
    ≡ moment_on 10029 1350 ∷ moment_on 10030 400 ∷ []
unfolding departure_time arrival_time clock_of
later_days = refl

-- a letter as a date variation adds nothing and is uncertain; a blank adds nothing and is not
abbrev lettered : List ℕ
lettered = columns_of (codes "FDH22302230       DXB06400640+0400  320") (codes "A ")

unknown_variation : departure_time Utc 10027 lettered ≡ moment_on 10028 1350
unfolding departure_time clock_of utc_variation_of variation_of
unknown_variation = refl

abbrev no_variation : List ℕ
no_variation = columns_of (codes "FDH22302230       DXB06400640+0400  320") (codes "  ")

-- a blank UTC variation is uncertain in UTC mode alone
uncertain_ones : is_uncertain Local lettered ∷ is_uncertain Local no_variation
    ∷ is_uncertain Utc no_variation ∷ is_uncertain Utc morning ∷ []
    ≡ true ∷ false ∷ true ∷ false ∷ []
unfolding is_uncertain utc_variation_of variation_of
uncertain_ones = refl

-- ---- a board

abbrev fdh : Board
fdh = record { station = codes "FDH"; day = 10027; mode = Local }

-- a flight without a suffix
abbrev flight : ℕ → FlightNumber
flight number = record { number = number; suffix = 32 }

abbrev leg : List ℕ → LegValue
leg columns = record { sequence = 1; columns = columns; tails = [] }

-- FDH to FDH at one time: a departure and an arrival of one leg
abbrev round : LegValue
round = leg (columns_of (codes "FDH06300630+0200  FDH06300630+0200  E90") (codes "00"))

-- a leg that arrives a day after its date of origin
abbrev overnight : LegValue
overnight = leg (columns_of (codes "DXB23002300+0400  FDH06300630+0200  320") (codes "01"))

-- the flight of the day departs, but not the flight of the day before
on_its_day : is_there fdh 10027 (leg morning) Departure ∷ is_there fdh 10026 (leg morning) Departure
    ∷ is_there fdh 10027 (leg morning) Arrival ∷ []
    ≡ true ∷ false ∷ false ∷ []
unfolding is_there departure_time arrival_time
on_its_day = refl

-- the flight of the day before arrives
from_the_day_before : is_there fdh 10026 overnight Arrival
    ∷ is_there fdh 10027 overnight Arrival ∷ []
    ≡ true ∷ false ∷ []
unfolding is_there arrival_time
from_the_day_before = refl

both_ends : leg_movements fdh (flight 5) 10027 round
    ≡ movement fdh (flight 5) 10027 round Departure
    ∷ movement fdh (flight 5) 10027 round Arrival ∷ []
unfolding leg_movements is_there departure_time arrival_time
both_ends = refl

-- departures before arrivals of the same minute, then as they come
their_order : by_time (movement fdh (flight 1) 10026 overnight Arrival
    ∷ movement fdh (flight 5) 10027 round Departure ∷ movement fdh (flight 5) 10027 round Arrival
    ∷ movement fdh (flight 7) 10027 (leg morning) Departure ∷ [])
    ≡ movement fdh (flight 5) 10027 round Departure
    ∷ movement fdh (flight 7) 10027 (leg morning) Departure
    ∷ movement fdh (flight 1) 10026 overnight Arrival
    ∷ movement fdh (flight 5) 10027 round Arrival ∷ []
unfolding by_time minute_count movement departure_time arrival_time clock_of
their_order = refl

-- the departures alone, and the arrivals alone
one_kind : (let all = movement fdh (flight 5) 10027 round Departure
    ∷ movement fdh (flight 1) 10026 overnight Arrival
    ∷ movement fdh (flight 5) 10027 round Arrival ∷ [] in
    of_kind (Some Departure) all ∷ of_kind (Some Arrival) all ∷ of_kind None all ∷ [])
    ≡ (movement fdh (flight 5) 10027 round Departure ∷ [])
    ∷ (movement fdh (flight 1) 10026 overnight Arrival
    ∷ movement fdh (flight 5) 10027 round Arrival ∷ [])
    ∷ (movement fdh (flight 5) 10027 round Departure
    ∷ movement fdh (flight 1) 10026 overnight Arrival
    ∷ movement fdh (flight 5) 10027 round Arrival ∷ []) ∷ []
unfolding movement
one_kind = refl

-- ---- lines

-- 0630 departs to Hamburg, where it is 0755 of the same day
its_line : board_lines (codes "ZZ ") 10027
    (movement fdh (flight 7) 10027 (leg morning) Departure ∷ [])
    ≡ codes "0630 dep ZZ007    15JUN27 01 E90 HAM 0755\n"
unfolding movement is_uncertain departure_time arrival_time clock_of
    day_text day_of_month month_of year_of
its_line = refl

-- 2300 of the day before, where 0630 arrives from: day 10,027 of local times
the_day_before : shift_text 10027 (movement fdh (flight 1) 10026 overnight Arrival).other_time.days
    ≡ codes " -" ++ decimal 1
unfolding movement departure_time
the_day_before = refl

no_line : board_lines (codes "ZZ ") 10027 [] ≡ codes "no flight\n"
no_line = refl
