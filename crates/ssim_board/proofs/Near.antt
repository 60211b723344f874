-- A local time is on the day of its record, the day before or the next; so only dates of origin near
-- the date of a board have something on it.
use Rattle.std.proofs.Common.{◌≡◌, ◌⊎◌, inl, inr, ℕ, ◌+◌, ◌-◌, ◌*◌, ◌<◌, ◌≤◌, ◌==◌, ◌&&◌, nat_eq, Bool, true, false, if◌then◌else◌, List, [], ◌∷◌, ◌++◌, Option, Some, None, IfSome, option_map, refl, ap₂, arith}
use Rattle.std.specs.Prelude.{unwrap_or}
use Rattle.std.specs.List.{list_all}
use Rattle.std.specs.Str.{bytes_eq}
use Rattle.std.proofs.lemmas.Bool.Decides.{nat_tests}
use Rattle.ssim_values.specs.Clock.{clock_of}
use Rattle.ssim_values.specs.Flight.{FlightNumber}
use Rattle.ssim_values.specs.Variation.{Offset, variation_of}
use Rattle.ssim_values.specs.declared.time_mode.TimeMode.{TimeMode}
use Rattle.ssim_values.specs.declared.time_mode.TimeMode.TheVariants.{Utc, Local}
use Rattle.ssim_values.proofs.ClockLaws.{clock_of-sound, variation_of-sound}
use Rattle.ssim_records.specs.Columns.{utc_variation_of}
use Rattle.ssim_records.specs.Numbers.{is_blank}
use Rattle.ssim_records.specs.Leg.{leg_columns}
use Rattle.ssim_base.specs.Timetable.{LegValue, on_day}
use Rattle.ssim_board.specs.LegTimes.{arrival_time, date_variation, days_added, departure_time, time_in, variation_in}
use Rattle.ssim_board.specs.LocalTime.{Moment, local_time, moment, moment_on, moved_by}
use Rattle.ssim_board.specs.Movements.{OnlyNearDates, is_there, leg_movements, movement, station_of, time_of}
use Rattle.ssim_board.specs.internal.DaysThere.{days_after}
use Rattle.ssim_board.specs.declared.board.Board.{Board}
use Rattle.ssim_board.specs.declared.movement.MovementKind.{MovementKind}
use Rattle.ssim_board.specs.declared.movement.MovementKind.TheVariants.{Departure, Arrival}
use Rattle.ssim_board.proofs.Lists.{none_made}

-- a local time is on this day, the day before or the next, and its minutes are at most those of 2400
pub record IsNear (days : ℕ) (time : Moment) : Type 0 where
  pub before : days ≤ time.days + 1
  pub after : time.days ≤ days + 1
  pub within : time.minutes ≤ 1440

same_day : (days minutes : ℕ) → minutes ≤ 1440 → IsNear days (moment_on days minutes)
same_day days minutes h = record { before = omega arith; after = omega arith; within = h }

moment_near : (days n : ℕ) → days * 1440 ≤ n + 1440 → n < days * 1440 + 2880 → IsNear days (moment n)
moment_near days n low high = record { before = omega arith; after = omega arith; within = omega arith }

either_near : (days minutes a b : ℕ) (zero negative : Bool) → minutes ≤ 1440 → days * 1440 ≤ a + 1440 → a < days * 1440 + 2880
    → days * 1440 ≤ b + 1440 → b < days * 1440 + 2880
    → IsNear days (if zero then moment_on days minutes else (if negative then moment a else moment b))
either_near days minutes a b true negative small low high down up = same_day days minutes small
either_near days minutes a b false true small low high down up = moment_near days a low high
either_near days minutes a b false false small low high down up = moment_near days b down up

moved_near : (v : Offset) (days minutes : ℕ) → minutes ≤ 1440 → v.minutes ≤ 900 → IsNear days (moved_by v days minutes)
moved_near v days minutes small few =
    either_near days minutes (days * 1440 + minutes - v.minutes) (days * 1440 + minutes + v.minutes) (v.minutes == 0) v.negative small
    (omega arith) (omega arith) (omega arith) (omega arith)

abbrev IsSmall : Option Offset → Type 0
IsSmall v = IfSome v (λ (o : Offset). o.minutes ≤ 900)

local_near : (mode : TimeMode) (v : Option Offset) (days minutes : ℕ) → minutes ≤ 1440 → IsSmall v → IsNear days (local_time mode v days minutes)
local_near Local v days minutes small few = same_day days minutes small
local_near Utc None days minutes small few = same_day days minutes small
local_near Utc (Some v) days minutes small few = moved_near v days minutes small few

-- ---- what the columns of a leg may say

time_small : (o : Option ℕ) → ((n : ℕ) → o ≡ Some n → n ≤ 1440) → unwrap_or o 0 ≤ 1440
time_small None h = omega arith
time_small (Some n) h = h n refl

clock_small : (text : List ℕ) → unwrap_or (clock_of text) 0 ≤ 1440
clock_small text = time_small (clock_of text) (λ n e. (clock_of-sound n text e).to)

variation_small : (blank : Bool) (o : Option Offset) → ((v : Offset) → o ≡ Some v → v.minutes ≤ 900)
    → IsSmall (unwrap_or (if blank then Some None else option_map (λ v. Some v) o) None)
variation_small true o h = tt
variation_small false None h = tt
variation_small false (Some v) h = h v refl

offset_small : (text : List ℕ) → IsSmall (unwrap_or (utc_variation_of text) None)
unfolding utc_variation_of
offset_small text = variation_small (list_all is_blank text) (variation_of text) (λ v e. (variation_of-sound v text e).to)

few_days : (b : ℕ) → days_added b ≤ 9
few_days b = grind (arith, nat_tests)

few_after : (columns : List ℕ) (kind : MovementKind) → days_after columns kind ≤ 9
few_after columns Departure = few_days (date_variation 0 columns)
few_after columns Arrival = few_days (date_variation 1 columns)

departure_near : (mode : TimeMode) (date : ℕ) (columns : List ℕ) → IsNear (date + days_added (date_variation 0 columns) + 1) (departure_time mode date columns)
unfolding departure_time
departure_near mode date columns =
    local_near mode (variation_in 48 52 columns) (date + days_added (date_variation 0 columns) + 1) (time_in 44 47 columns) (clock_small (leg_columns 44 47 columns)) (offset_small (leg_columns 48 52 columns))

arrival_near : (mode : TimeMode) (date : ℕ) (columns : List ℕ) → IsNear (date + days_added (date_variation 1 columns) + 1) (arrival_time mode date columns)
unfolding arrival_time
arrival_near mode date columns =
    local_near mode (variation_in 66 70 columns) (date + days_added (date_variation 1 columns) + 1) (time_in 58 61 columns) (clock_small (leg_columns 58 61 columns)) (offset_small (leg_columns 66 70 columns))

pub end_near : (mode : TimeMode) (date : ℕ) (columns : List ℕ) (kind : MovementKind)
    → IsNear (date + days_after columns kind + 1) (time_of mode date columns kind)
end_near mode date columns Departure = departure_near mode date columns
end_near mode date columns Arrival = arrival_near mode date columns

-- ---- dates of origin that are far from the date of a board

abbrev IsFar : Board → ℕ → Type 0
IsFar board date = (date + 10 < board.day) ⊎ (board.day + 1 < date)

other_day : (day date added : ℕ) (time : Moment) → added ≤ 9 → IsNear (date + added + 1) time → (date + 10 < day) ⊎ (day + 1 < date) → nat_eq time.days (day + 1) ≡ false
other_day day date added time few near (inl early) = let far = near.after in grind (arith, nat_tests)
other_day day date added time few near (inr late) = let far = near.before in grind (arith, nat_tests)

and_false : (b c : Bool) → c ≡ false → (b && c) ≡ false
and_false true c e = e
and_false false c e = refl

not_there : (board : Board) (date : ℕ) (leg : LegValue) (kind : MovementKind) → IsFar board date
    → is_there board date leg kind ≡ false
unfolding is_there
not_there board date leg kind far =
    and_false (bytes_eq (station_of leg.columns kind) board.station)
    (nat_eq (time_of board.mode date leg.columns kind).days (board.day + 1))
    (other_day board.day date (days_after leg.columns kind) (time_of board.mode date leg.columns kind)
    (few_after leg.columns kind) (end_near board.mode date leg.columns kind) far)

none_far : (board : Board) (flight : FlightNumber) (date : ℕ) (leg : LegValue) → IsFar board date → leg_movements board flight date leg ≡ []
unfolding leg_movements
none_far board flight date leg far =
    ap₂ (λ (a b : Bool). (if a then movement board flight date leg Departure ∷ [] else []) ++ (if b then movement board flight date leg Arrival ∷ [] else []))
    (not_there board date leg Departure far) (not_there board date leg Arrival far)

pub only_near : OnlyNearDates
only_near board flight days date far = none_made (leg_movements board flight date) (on_day days date) (λ leg. none_far board flight date leg far)
