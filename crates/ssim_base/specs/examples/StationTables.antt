-- Two rows and a line that is none, computed.
use Rattle.std.specs.Prelude.{◌≡◌, ℕ, false, List, Some, None, codes, refl}
use Rattle.ssim_values.specs.Calendar.{day_number, leap_years, months_length}
use Rattle.ssim_values.specs.Day.{day_of}
use Rattle.ssim_values.specs.Variation.{variation_of}
use Rattle.ssim_base.specs.Stations.{Row}
use Rattle.ssim_base.specs.internal.StationRows.{row_of}

abbrev row_from : ℕ → ℕ → ℕ → List ℕ → Row
row_from minutes first last station = record { station = station; first = first; last = last; variation = record { negative = false; minutes = minutes } }

zurich_summer : row_of (codes "ZRH 30MAR25 25OCT25 +0200") ≡ Some (row_from 120 9220 9429 (codes "ZRH"))
unfolding row_of day_of day_number leap_years months_length variation_of
zurich_summer = refl

london_winter : row_of (codes "LHR  26OCT25 28MAR26   +0000") ≡ Some (row_from 0 9430 9583 (codes "LHR"))
unfolding row_of day_of day_number leap_years months_length variation_of
london_winter = refl

ends_first : row_of (codes "ZRH 30MAR25 29MAR25 +0200") ≡ None
unfolding row_of day_of day_number leap_years months_length variation_of
ends_first = refl
