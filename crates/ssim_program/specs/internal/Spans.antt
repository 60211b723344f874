-- Sub-messages that act on chosen dates alone.
use Rattle.std.specs.Prelude.{if◌then◌else◌, List, flat_map, map, nat_le}
use Rattle.ssim_values.specs.Flight.{FlightNumber}
use Rattle.ssim_values.specs.Period.{DayRange}
use Rattle.ssim_base.specs.declared.sub_message.ResolvedSub.{ResolvedSub}
use Rattle.ssim_held.specs.Entries.{Entry}
use Rattle.ssim_parts.specs.Chosen.{Choosing}

-- the chosen part of a period; if its first day is after its last, it holds no day
abbrev pub part_of : Choosing → DayRange → DayRange
part_of choice period = record {
  first = if nat_le period.first choice.first then choice.first else period.first;
  last = if nat_le period.last choice.last then period.last else choice.last;
  days = period.days;
}

-- a sub-message with the chosen part of its period
abbrev pub part_sub : Choosing → ResolvedSub → ResolvedSub
part_sub choice sub = record { flight = sub.flight; period = part_of choice sub.period }

-- a message whose sub-messages have these parts
abbrev pub part_entry : Choosing → Entry → Entry
part_entry choice e = record e { dates = map (part_sub choice) e.dates }

-- the flights that messages name
abbrev pub flights_named : List Entry → List FlightNumber
flights_named entries = flat_map (λ e. map (λ sub. sub.flight) e.dates) entries
