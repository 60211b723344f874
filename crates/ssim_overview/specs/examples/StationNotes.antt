-- What gives a note, computed.
use Rattle.std.specs.Prelude.{◌≡◌, [], ◌∷◌, true, false, Option, None, Some, codes, refl}
use Rattle.ssim_values.specs.Variation.{Offset}
use Rattle.ssim_base.specs.Stations.{variation_at}
use Rattle.ssim_overview.specs.StationNotes.{gives_note, is_noted, leg_end}
use Rattle.ssim_overview.specs.declared.leg_ends.LegEnd.{LegEnd}
use Rattle.ssim_overview.specs.declared.table_notes.NoteKind.TheVariants.{Missing, Other}

abbrev two_hours : Offset
two_hours = record { negative = false; minutes = 120 }

abbrev three_hours : Offset
three_hours = record { negative = false; minutes = 180 }

abbrev minus_zero : Offset
minus_zero = record { negative = true; minutes = 0 }

abbrev plus_zero : Offset
plus_zero = record { negative = false; minutes = 0 }

-- an end at ATH on its date of origin
abbrev own : Option Offset → LegEnd
own v = leg_end (codes "ATH") v 48

-- without a row an end gives `missing`, whether it says a variation or not
missing : gives_note Missing None (own (Some three_hours)) ≡ true
missing = refl

missing_blank : gives_note Missing None (own None) ≡ true
missing_blank = refl

-- the row has another variation than the end
other : gives_note Other (Some two_hours) (own (Some three_hours)) ≡ true
other = refl

-- it has the same
same : gives_note Other (Some three_hours) (own (Some three_hours)) ≡ false
same = refl

-- a blank says nothing
blank : gives_note Other (Some two_hours) (own None) ≡ false
blank = refl

-- an end on the day after the date of origin says what is true on another day
next_day : gives_note Other (Some two_hours) (leg_end (codes "ATH") (Some three_hours) 49) ≡ false
next_day = refl

-- `+0000` and `-0000` are different
zero : gives_note Other (Some plus_zero) (own (Some minus_zero)) ≡ true
zero = refl

-- of two rows that cover a date the first counts
abbrev rows_of_two : Option Offset
rows_of_two = variation_at
    (record { station = codes "ATH"; first = 100; last = 128; variation = three_hours }
    ∷ record { station = codes "ATH"; first = 120; last = 157; variation = two_hours } ∷ [])
    (codes "ATH") 128

first_row : gives_note Other rows_of_two (own (Some three_hours)) ≡ false
first_row = refl

-- without leg records there is nothing to note
nothing : is_noted [] [] (codes "ATH") Missing 100 ≡ false
nothing = refl
