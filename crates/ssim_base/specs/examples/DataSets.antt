-- Small examples, checked by computation.
use Rattle.std.specs.Prelude.{◌≡◌, ℕ, true, false, List, [], ◌∷◌, Some, None, refl}
use Rattle.ssim_values.specs.Flight.{FlightNumber}
use Rattle.ssim_records.specs.declared.record.Record.{Record}
use Rattle.ssim_records.specs.declared.record.Record.TheVariants.{Header, Carrier, Leg, Segment, Trailer}
use Rattle.ssim_values.specs.declared.time_mode.TimeMode.TheVariants.{Utc}
use Rattle.ssim_columns.specs.declared.field.end_code.EndCode.TheVariants as code
use Rattle.ssim_base.specs.Timetable.{LegValue, itinerary}
use Rattle.ssim_base.specs.Export.{flight_at}
use Rattle.ssim_base.specs.ReadBack.{place_of}
use Rattle.ssim_base.specs.clauses.ReadBack.{section_items}
use Rattle.ssim_base.specs.Base.{Done, first_refusal, notes_of, end_of}
use Rattle.ssim_base.specs.declared.fault.BaseFault.TheVariants.{Refused}
use Rattle.ssim_base.specs.declared.fault.BaseRefusal.TheVariants as refused
use Rattle.ssim_base.specs.declared.note.Note.TheVariants.{Serial, CheckReference}

abbrev flight : FlightNumber
flight = record { number = 544; suffix = 32 }

abbrev top : Record
top = Header (record { details = []; serial = 1 })

abbrev airline : List ℕ
airline = 76 ∷ 88 ∷ 32 ∷ []

abbrev season : Record
season = Carrier (record { time_mode = Utc; airline = airline; season = []; first = 9220; last = Some 9429; created = 9163; details = []; serial = 2 })

-- daily but on Sundays, days 10 to 16, which begin on a Tuesday
abbrev leg : Record
leg = Leg (record { name = record { airline = airline; flight = flight; variation = 1; sequence = 2 }; first = 10; last = Some 16; days = true ∷ true ∷ true ∷ true ∷ true ∷ true ∷ false ∷ []; rate = 32; columns = 7 ∷ []; overflow = 32; serial = 3 })

abbrev tail : Record
tail = Segment (record { name = record { airline = airline; flight = flight; variation = 1; sequence = 2 }; service = 74; tail = 9 ∷ []; overflow = 32; serial = 4 })

abbrev bottom : ℕ → ℕ → Record
bottom check serial = Trailer (record { spare = 32; airline = airline; release = []; check = check; code = code.End; serial = serial })

abbrev its : LegValue
its = record { sequence = 2; columns = 7 ∷ []; tails = (9 ∷ []) ∷ [] }

flies : itinerary (top ∷ season ∷ leg ∷ tail ∷ bottom 4 5 ∷ []) flight 10 ≡ its ∷ []
flies = refl

rests : itinerary (top ∷ season ∷ leg ∷ tail ∷ bottom 4 5 ∷ []) flight 15 ≡ []
rests = refl

other_flight : itinerary (top ∷ season ∷ leg ∷ tail ∷ bottom 4 5 ∷ []) (record { number = 544; suffix = 65 }) 10 ≡ []
other_flight = refl

empty : first_refusal (Done 1) [] [] ≡ Some (Refused 1 refused.NoHeader)
empty = refl

no_header : first_refusal (Done 3) [] ((1, season) ∷ (2, leg) ∷ []) ≡ Some (Refused 1 refused.NoHeader)
no_header = refl

no_carrier : first_refusal (Done 2) [] ((1, top) ∷ []) ≡ Some (Refused 2 refused.NoCarrier)
no_carrier = refl

no_trailer : first_refusal (Done 4) [] ((1, top) ∷ (2, season) ∷ (3, leg) ∷ []) ≡ Some (Refused 4 refused.NoTrailer)
no_trailer = refl

no_leg : first_refusal (Done 5) [] ((1, top) ∷ (2, season) ∷ (3, tail) ∷ (4, bottom 3 4) ∷ []) ≡ Some (Refused 3 refused.Segment)
no_leg = refl

accepted : first_refusal (Done 6) [] ((1, top) ∷ (2, season) ∷ (3, leg) ∷ (4, tail) ∷ (5, bottom 4 5) ∷ []) ≡ None
accepted = refl

-- the trailer's serial is wrong, and its check reference is not: one note
one_note : notes_of 0 ((1, top) ∷ (2, season) ∷ (3, leg) ∷ (4, bottom 3 9) ∷ []) ≡ Serial 4 ∷ []
one_note = refl

two_notes : notes_of 0 ((1, top) ∷ (2, season) ∷ (3, leg) ∷ (4, bottom 2 9) ∷ []) ≡ Serial 4 ∷ CheckReference 4 ∷ []
two_notes = refl

-- an open end means 730 days after the start: 30MAR25 to 30MAR27
open_end : end_of (record { time_mode = Utc; airline = airline; season = []; first = 9220; last = None; created = 9163; details = []; serial = 2 }) ≡ 9950
open_end = refl

-- ---- the export

abbrev numbered_flight : ℕ → ℕ → FlightNumber
numbered_flight number suffix = record { number = number; suffix = suffix }

-- flights are ordered by number and then by suffix, the blank suffix first
first_flight : flight_at 0 ≡ numbered_flight 0 32
first_flight = refl

blank_first : flight_at 14688 ≡ numbered_flight 544 32
blank_first = refl

then_letters : flight_at 14689 ≡ numbered_flight 544 65
then_letters = refl

place_of_letter : place_of (numbered_flight 544 90) ≡ 14714
place_of_letter = refl

-- a section of one record has four of fill, and one of five has none
filled : section_items (top ∷ []) ≡ Some top ∷ None ∷ None ∷ None ∷ None ∷ []
filled = refl

full : section_items (leg ∷ tail ∷ leg ∷ tail ∷ tail ∷ []) ≡ Some leg ∷ Some tail ∷ Some leg ∷ Some tail ∷ Some tail ∷ []
full = refl

empty_section : section_items [] ≡ []
empty_section = refl
