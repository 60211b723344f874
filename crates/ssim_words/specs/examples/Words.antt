-- Words as people type them, checked by computation.
use Rattle.std.specs.Prelude.{◌≡◌, None, Some, codes, refl}
use Rattle.ssim_values.specs.Day.{day_of}
use Rattle.ssim_words.specs.Aircraft.{typed_aircraft}
use Rattle.ssim_words.specs.Date.{typed_day}
use Rattle.ssim_words.specs.Typed.{typed}

small_letters : typed (codes " z7 101d ") ≡ codes "Z7101D"
small_letters = refl

one_digit : typed_day (codes "5jun27") ≡ day_of (codes "05JUN27")
one_digit = refl

blanks : typed_day (codes "05 Jun 2027") ≡ day_of (codes "05JUN27")
blanks = refl

year_first : typed_day (codes "2027-06-05") ≡ day_of (codes "05JUN27")
year_first = refl

-- twelve July of 2020, not the first of July
two_digits_of_the_year : typed_day (codes "12JUL20") ≡ day_of (codes "12JUL20")
two_digits_of_the_year = refl

other_century : typed_day (codes "5JUN1927") ≡ None
other_century = refl

no_month : typed_day (codes "2027-13-05") ≡ None
no_month = refl

two_readings : typed_day (codes "05/06/2027") ≡ None
two_readings = refl

short_aircraft : typed_aircraft (codes "e9") ≡ Some (codes "E9 ")
short_aircraft = refl

no_aircraft : typed_aircraft (codes "A-3") ≡ None
no_aircraft = refl
