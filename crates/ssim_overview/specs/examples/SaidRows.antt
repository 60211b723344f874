-- Rows of a station, computed.
use Rattle.std.specs.Prelude.{◌≡◌, [], ◌∷◌, Bool, true, false, None, Some, codes, refl}
use Rattle.ssim_values.specs.Variation.{Offset}
use Rattle.ssim_overview.specs.SaidRows.{cut, end_says, said}
use Rattle.ssim_overview.specs.declared.sayings.Saying.{Saying}

abbrev two_hours : Offset
two_hours = record { negative = false; minutes = 120 }

abbrev three_hours : Offset
three_hours = record { negative = false; minutes = 180 }

abbrev minus_zero : Offset
minus_zero = record { negative = true; minutes = 0 }

abbrev plus_zero : Offset
plus_zero = record { negative = false; minutes = 0 }

abbrev end : Offset → Bool → Saying
end v is_own = record { station = codes "ATH"; variation = v; is_own = is_own }

-- an end with a date variation of 1 is not on the date of origin
next_day : end_says (codes "ATH") (Some three_hours) 49 ≡ end three_hours false ∷ []
next_day = refl

-- a blank says nothing
blank : end_says (codes "ATH") None 48 ≡ []
blank = refl

-- two say +0300 and one +0200
most_say : said (end two_hours true ∷ end three_hours true ∷ end three_hours true ∷ []) ≡ Some three_hours
most_say = refl

-- as many say each: the first by bytes
as_many : said (end minus_zero true ∷ end plus_zero true ∷ []) ≡ Some plus_zero
as_many = refl

-- one end on its date counts more than two of the day before
own_date : said (end two_hours false ∷ end three_hours true ∷ end two_hours false ∷ []) ≡ Some three_hours
own_date = refl

-- where there are no others, they count
other_dates : said (end two_hours false ∷ []) ≡ Some two_hours
other_dates = refl

-- four weeks without a date are within a row, more are not
four_weeks : cut (codes "ATH") ((100, three_hours) ∷ (128, three_hours) ∷ (157, three_hours) ∷ [])
    ≡ record { station = codes "ATH"; first = 100; last = 128; variation = three_hours }
    ∷ record { station = codes "ATH"; first = 157; last = 157; variation = three_hours } ∷ []
four_weeks = refl

-- another variation begins a row
changed : cut (codes "ATH") ((100, two_hours) ∷ (107, three_hours) ∷ (114, three_hours) ∷ [])
    ≡ record { station = codes "ATH"; first = 100; last = 100; variation = two_hours }
    ∷ record { station = codes "ATH"; first = 107; last = 114; variation = three_hours } ∷ []
changed = refl
