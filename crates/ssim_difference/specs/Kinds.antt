-- Of which kind a change of a flight date is, and how many changes of each kind there are.
use Rattle.std.specs.Prelude.{◌≡◌, ℕ, Bool, true, false, not, ◌&&◌, nat_eq, nat_lt, if◌then◌else◌}
use Rattle.std.specs.Prelude.{List, [], ◌∷◌, ◌++◌, codes}
use Rattle.std.specs.Fmt.{decimal}
use Rattle.std.specs.List.{count_by, flat_map, range_with_len, sum_by}
use Rattle.std.specs.Str.{bytes_eq}
use Rattle.ssim_columns.specs.Leg.{leg_columns}
use Rattle.ssim_values.specs.Flight.{FlightNumber}
use Rattle.ssim_periods.specs.Calendar.{day_count}
use Rattle.ssim_base.specs.Export.{all_flights, line, same_itinerary}
use Rattle.ssim_base.specs.Timetable.{Days, Legs, on_day}
use Rattle.ssim_difference.specs.Differences.{date_count, differences, differs_on}
use Rattle.ssim_difference.specs.Lines.{last_line}
use Rattle.ssim_difference.specs.declared.change_kind.ChangeKind.{ChangeKind}
use Rattle.ssim_difference.specs.declared.change_kind.ChangeKind.TheVariants.{Added, Cancelled}
use Rattle.ssim_difference.specs.declared.change_kind.ChangeKind.TheVariants.{Equipment, Other}
use Rattle.ssim_difference.specs.declared.change_kind.ChangeKind.TheVariants.{Rerouted, Retimed}

-- ---- a flight date

-- whether columns first to last of two legs are the same
abbrev pub same_columns : ℕ → ℕ → List ℕ → List ℕ → Bool
same_columns first last old new = bytes_eq (leg_columns first last old) (leg_columns first last new)

-- whether the stations of two legs are the same
unfoldable pub same_stations : List ℕ → List ℕ → Bool
same_stations old new = same_columns 37 39 old new && same_columns 55 57 old new

-- whether the times and the date variations of two legs are the same
unfoldable pub same_times : List ℕ → List ℕ → Bool
same_times old new =
    (((same_columns 40 43 old new && same_columns 44 47 old new) && same_columns 58 61 old new)
    && same_columns 62 65 old new)
    && same_columns 193 194 old new

-- whether the equipment of two legs is the same: what a message `EQT` gives to a leg
unfoldable pub same_equipment : List ℕ → List ℕ → Bool
same_equipment old new =
    ((same_columns 14 14 old new && same_columns 73 75 old new) && same_columns 76 95 old new)
    && same_columns 173 192 old new

-- whether two itineraries have as many legs, whose columns are alike one by one
abbrev pub each_alike : (List ℕ → List ℕ → Bool) → Legs → Legs → Bool
each_alike alike [] [] = true
each_alike alike [] (new ∷ news) = false
each_alike alike (old ∷ olds) [] = false
each_alike alike (old ∷ olds) (new ∷ news) =
    alike old.columns new.columns && each_alike alike olds news

-- the kind of a change of the legs of a date: the first of these that fits
abbrev pub changed_kind : Legs → Legs → ChangeKind
changed_kind old new =
    if not (each_alike same_stations old new) then Rerouted
    else if not (each_alike same_times old new) then Retimed
    else if not (each_alike same_equipment old new) then Equipment
    else Other

-- the kind of a change of a flight date, by its old and its new itinerary
abbrev pub kind_of : Legs → Legs → ChangeKind
kind_of [] new = Added
kind_of (leg ∷ legs) [] = Cancelled
kind_of (leg ∷ legs) (other ∷ others) = changed_kind (leg ∷ legs) (other ∷ others)

-- the place of a kind among all
abbrev pub kind_place : ChangeKind → ℕ
kind_place Added = 0
kind_place Cancelled = 1
kind_place Rerouted = 2
kind_place Retimed = 3
kind_place Equipment = 4
kind_place Other = 5

-- all kinds, in the order of their lines
abbrev pub all_kinds : List ChangeKind
all_kinds = Added ∷ Cancelled ∷ Rerouted ∷ Retimed ∷ Equipment ∷ Other ∷ []

-- whether a change is of a kind
abbrev pub is_of_kind : ChangeKind → Legs → Legs → Bool
is_of_kind kind old new = nat_eq (kind_place (kind_of old new)) (kind_place kind)

-- ---- all flights

-- whether a flight differs on a day, by a change of a kind
abbrev pub changes_on : ChangeKind → Days → Days → ℕ → Bool
changes_on kind old new n =
    differs_on old new n && is_of_kind kind (on_day old n) (on_day new n)

-- on how many dates a flight has a change of a kind
abbrev pub changed_dates : ChangeKind → Days → Days → ℕ
changed_dates kind old new = count_by (changes_on kind old new) (range_with_len 0 day_count)

-- how many flights have a change of a kind on some date
abbrev pub flights_of : ChangeKind → (FlightNumber → Days) → (FlightNumber → Days) → ℕ
flights_of kind old new =
    count_by (λ flight. nat_lt 0 (changed_dates kind (old flight) (new flight))) all_flights

-- on how many dates flights have a change of a kind, all together
abbrev pub dates_of : ChangeKind → (FlightNumber → Days) → (FlightNumber → Days) → ℕ
dates_of kind old new = sum_by (λ flight. changed_dates kind (old flight) (new flight)) all_flights

-- ---- the lines

-- the word of a kind
abbrev pub kind_name : ChangeKind → List ℕ
kind_name Added = codes "added"
kind_name Cancelled = codes "cancelled"
kind_name Rerouted = codes "rerouted"
kind_name Retimed = codes "retimed"
kind_name Equipment = codes "equipment"
kind_name Other = codes "other"

-- the line of a kind: how many flights have a change of it, and on how many dates; none if there
-- are no dates
abbrev pub counted_line : ChangeKind → ℕ → ℕ → List ℕ
counted_line kind flights dates =
    if nat_lt 0 dates
    then line (kind_name kind ++ codes " flights " ++ decimal flights ++ codes " dates "
    ++ decimal dates)
    else []

-- the line of the changes of a kind
abbrev pub kind_line : (FlightNumber → Days) → (FlightNumber → Days) → ChangeKind → List ℕ
kind_line old new kind = counted_line kind (flights_of kind old new) (dates_of kind old new)

-- the lines of two timetables: of each kind that has dates, and the last line
abbrev pub summary_lines : (FlightNumber → Days) → (FlightNumber → Days) → List ℕ
summary_lines old new =
    flat_map (kind_line old new) all_kinds ++ last_line (differences old new) (date_count old new)

-- ---- laws

-- the kind of a change if the old and the new itinerary are exchanged
abbrev pub turned : ChangeKind → ChangeKind
turned Added = Cancelled
turned Cancelled = Added
turned Rerouted = Rerouted
turned Retimed = Retimed
turned Equipment = Equipment
turned Other = Other

-- The law of changes turned round: what was added is cancelled, and the other kinds stay.
abbrev pub TurnedKinds : Type 0
TurnedKinds = (old new : Legs) → same_itinerary old new ≡ false
    → kind_of new old ≡ turned (kind_of old new)

-- The law of all kinds: each flight date that differs is counted with exactly one kind.
abbrev pub KindsAreAll : Type 0
KindsAreAll = (old new : Days) (n : ℕ)
    → count_by (λ kind. changes_on kind old new n) all_kinds
    ≡ (if differs_on old new n then 1 else 0)
