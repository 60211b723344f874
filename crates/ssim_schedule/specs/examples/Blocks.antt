-- Small examples of the blocks of a schedule, checked by computation.
use Rattle.std.specs.Prelude.{◌≡◌, ℕ, [], ◌∷◌, refl}
use Rattle.ssim_values.specs.Flight.{FlightNumber}
use Rattle.ssim_schedule.specs.internal.Blocks.{AreOf, block_of, all_entries}
use Rattle.ssim_schedule.specs.declared.timetable.flight_table.FlightPeriods.{FlightPeriods}

abbrev numbered_flight : ℕ → ℕ → FlightNumber
numbered_flight number suffix = record { number = number; suffix = suffix }

-- LX544 is in the block of the flights 531 to 568, and 9999 with suffix Z in the last of 264
block_of_a_flight : block_of (numbered_flight 544 32) ≡ 14
block_of_a_flight = refl

last_block : block_of (numbered_flight 9999 90) ≡ 263
last_block = refl

abbrev entry : ℕ → FlightPeriods
entry number = record { flight = numbered_flight number 32; periods = record { days = []; cuts = [] } }

three_blocks : all_entries ((entry 1 ∷ entry 2 ∷ []) ∷ [] ∷ (entry 544 ∷ []) ∷ [])
    ≡ entry 1 ∷ entry 2 ∷ entry 544 ∷ []
three_blocks = refl

own_flights : AreOf 0 (entry 1 ∷ entry 2 ∷ [])
own_flights = (refl, (refl, tt))
