-- Sets of flights, and the records of the flights of a set.
use Rattle.std.specs.Prelude.{Bool, false, List, slice_index_or}
use Rattle.ssim_values.specs.Flight.{FlightNumber}
use Rattle.ssim_records.specs.declared.record.Record.{Record}
use Rattle.ssim_records.specs.declared.record.Record.TheVariants.{Header, Carrier, Leg, Segment, Trailer}
use Rattle.ssim_base.specs.ReadBack.{place_of}

-- whether the mark of the flight is set
abbrev pub is_marked : List Bool → FlightNumber → Bool
is_marked marks flight = slice_index_or marks (place_of flight) false

-- whether a record is a leg or a segment of a flight of the set
abbrev pub is_record_of : (FlightNumber → Bool) → Record → Bool
is_record_of is_in (Header r) = false
is_record_of is_in (Carrier r) = false
is_record_of is_in (Leg r) = is_in r.name.flight
is_record_of is_in (Segment r) = is_in r.name.flight
is_record_of is_in (Trailer r) = false
