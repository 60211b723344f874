-- Covers and pieces worked out by hand on lists of 40 days, of which day 0 is a Saturday.
use Rattle.std.specs.Prelude.{◌≡◌, ℕ, ◌%◌, Bool, true, false, not, ◌&&◌, ◌||◌, nat_le, nat_lt, nat_eq, if◌then◌else◌, Some, List, [], ◌∷◌, map, replicate}
use Rattle.ssim_values.specs.Period.{DayRange}
use Rattle.ssim_periods.specs.Calendar.{holds}
use Rattle.ssim_periods.specs.Days.{changed_on, counts_on}
use Rattle.ssim_periods.specs.Cover.{cover, holding}
use Rattle.ssim_periods.specs.internal.Apart.{is_held, last_values}
use Rattle.ssim_periods.specs.internal.Gather.{gathered, numbered}
use Rattle.ssim_periods.specs.Pieces.{pieces_of, held_on}

-- all seven weekdays
abbrev pub daily : List Bool
daily = true ∷ true ∷ true ∷ true ∷ true ∷ true ∷ true ∷ []

-- Monday alone
abbrev pub mondays : List Bool
mondays = true ∷ false ∷ false ∷ false ∷ false ∷ false ∷ false ∷ []

-- all weekdays but Monday
abbrev pub no_mondays : List Bool
no_mondays = false ∷ true ∷ true ∷ true ∷ true ∷ true ∷ true ∷ []

-- Tuesday alone
abbrev pub tuesdays : List Bool
tuesdays = false ∷ true ∷ false ∷ false ∷ false ∷ false ∷ false ∷ []

-- all weekdays but Tuesday
abbrev pub no_tuesdays : List Bool
no_tuesdays = true ∷ false ∷ true ∷ true ∷ true ∷ true ∷ true ∷ []

-- Saturday and Sunday
abbrev pub weekends : List Bool
weekends = false ∷ false ∷ false ∷ false ∷ false ∷ true ∷ true ∷ []

-- the period from a first to a last day on some weekdays
abbrev pub on_days : ℕ → ℕ → List Bool → DayRange
on_days first last days = record { first = first; last = last; days = days }

-- a list of days with this value on those of a period
abbrev pub days_with : DayRange → ℕ → List ℕ → List ℕ
days_with period v = changed_on (holds period) (λ _. v) 0

-- a list of 40 days without a value
abbrev pub no_values : List ℕ
no_values = replicate 40 0

-- 7 on each day from day 3 to day 36, then 8 on the Mondays from day 9 to day 23
abbrev pub season : List ℕ
season = days_with (on_days 9 23 mondays) 8 (days_with (on_days 3 36 daily) 7 no_values)

-- 7 on each day from day 1 to day 30, then 8 on three of the Tuesdays
abbrev pub june : List ℕ
june = days_with (on_days 10 24 tuesdays) 8 (days_with (on_days 1 30 daily) 7 no_values)

-- 7 from day 2 to day 11, and from day 12 to day 30
abbrev pub divided : List ℕ
divided = days_with (on_days 12 30 daily) 7 (days_with (on_days 2 11 daily) 7 no_values)

-- two days are missing, less than a week
abbrev pub with_gap : ℕ → Bool
with_gap n = nat_lt n 12 || (nat_le 14 n && nat_lt n 16)

-- each eighth day is missing
abbrev pub no_eighth_days : ℕ → Bool
no_eighth_days n = nat_lt n 24 && not (nat_eq (n % 8) 7)

-- the pieces of the example after one change on its Mondays
pub record WorkedPieces : Type 0 where
  -- of the days of the changed period, the three Mondays had the value 8 and are counted
  pub counts : counts_on (holds (on_days 9 23 mondays)) (λ v. if nat_eq v 7 then 1 else 0) season ≡ 3 ∷ 0 ∷ 0 ∷ 0 ∷ 0 ∷ []
  -- 7 on all days but Mondays up to day 29, 8 on the three Mondays, 7 daily from the next Monday on
  pub mondays_changed : pieces_of nat_eq 0 season ≡ (on_days 3 29 no_mondays, 7) ∷ (on_days 9 23 mondays, 8) ∷ (on_days 30 36 daily, 7) ∷ []
  -- only the piece with 8 holds a changed Monday, and no piece holds an empty day
  pub one_holds : held_on (pieces_of nat_eq 0 season) 16 ≡ 8 ∷ []
  pub none_holds : held_on (pieces_of nat_eq 0 season) 38 ≡ []
  -- the days before and after the changed Tuesdays are not joined over the Tuesdays that keep their
  -- value
  pub tuesdays_changed : pieces_of nat_eq 0 june ≡ (on_days 1 9 daily, 7) ∷ (on_days 10 24 tuesdays, 8) ∷ (on_days 11 30 no_tuesdays, 7) ∷ []
  -- two neighbouring periods with one value are one piece
  pub joined : pieces_of nat_eq 0 divided ≡ (on_days 2 30 daily, 7) ∷ []
  -- a period that holds no day changes none
  pub no_day : days_with (on_days 3 3 mondays) 8 season ≡ season
  -- a set that ends with the calendar, no day, and one day
  pub last_days : cover (λ n. nat_le 30 n && nat_lt n 40) 40 ≡ on_days 30 39 daily ∷ []
  pub no_days : cover (λ n. false) 40 ≡ []
  pub one_day : cover (λ n. nat_eq n 3) 40 ≡ on_days 3 3 tuesdays ∷ []
  -- a gap of less than a week divides, and so does each missing eighth day
  pub gap : cover with_gap 40 ≡ on_days 0 11 daily ∷ on_days 14 15 weekends ∷ []
  pub eighth_days : cover no_eighth_days 40 ≡ on_days 0 6 daily ∷ on_days 8 14 daily ∷ on_days 16 22 daily ∷ []
  -- a day of the set is in one period of its cover
  pub in_one : holding (cover with_gap 40) 14 ≡ 1
  -- the distinct values of 0, 7, 9 and 7 have the numbers 0, 1 and 2, if 0 is the empty value
  pub numbers : map (numbered 0 (gathered nat_eq 0 [] (0 ∷ 7 ∷ 9 ∷ 7 ∷ []))) (0 ∷ 1 ∷ 2 ∷ []) ≡ Some 0 ∷ Some 7 ∷ Some 9 ∷ []
  -- two neighbouring periods hold the days of one, and the cover of periods that lie apart is these
  pub neighbours : cover (is_held (on_days 2 11 daily ∷ on_days 12 30 daily ∷ [])) 40 ≡ on_days 2 30 daily ∷ []
  pub lying_apart : cover (is_held (on_days 2 9 mondays ∷ on_days 23 30 mondays ∷ [])) 40 ≡ on_days 2 9 mondays ∷ on_days 23 30 mondays ∷ []
  -- of the values 7, 8 and 7 the last 7 comes first
  pub last_first : last_values nat_eq ((on_days 2 2 mondays, 7) ∷ (on_days 3 3 tuesdays, 8) ∷ (on_days 9 9 mondays, 7) ∷ []) ≡ 7 ∷ 8 ∷ []
