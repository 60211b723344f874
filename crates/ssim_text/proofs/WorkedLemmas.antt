-- The worked texts, computed on the definitions.
use Rattle.std.proofs.Common.{◌≡◌, ◌≤◌, ℕ, List, length, refl, sym, subst, codes, arith, None}
use Rattle.std.specs.List.{AllZip}
use Rattle.ssim_values.specs.Calendar.{day_number, leap_years, months_length, year_of, month_of, day_of_month}
use Rattle.ssim_values.specs.Day.{day_of, day_text}
use Rattle.ssim_values.specs.DayMonth.{month_day_of}
use Rattle.ssim_values.specs.DayMask.{days_of}
use Rattle.ssim_values.specs.Clock.{clock_of}
use Rattle.ssim_values.specs.Designator.{SpellsDesignator}
use Rattle.ssim_text.specs.Message.{MessageValue}
use Rattle.ssim_text.specs.Lines.{originator_of, numbers_of, reference_of, period_of, equipment_of, variations_of, end_of, leg_of, segment_of}
use Rattle.ssim_text.specs.Grammar.{Spells, IsShape}
use Rattle.ssim_text.specs.Left.{lines_left, texts, first_unprintable}
use Rattle.ssim_text.specs.Canonical.{canonical_parts, canonical}
use Rattle.ssim_text.specs.examples.Texts.{text_of, IsWorked, WorkedTexts, swiss, week_cancelled, week_cancelled_lines, season_cancelled, season_cancelled_lines, retimed, retimed_lines, put_back, put_back_lines, other_equipment, other_equipment_lines, leap_day_cancelled, leap_day_cancelled_lines, one_date, one_date_lines, every_part, every_part_lines, originated, originated_lines, with_segments, with_segments_lines}
use Rattle.ssim_text.proofs.ReadsBack.{canonical_has}

by_lines : (m : MessageValue) (lines : List (List ℕ)) → texts (lines_left (text_of lines)) ≡ lines → first_unprintable (lines_left (text_of lines)) ≡ None → length (text_of lines) ≤ 65536 → IsShape m → AllZip Spells (canonical_parts m) lines → canonical m ≡ text_of lines → IsWorked m lines
by_lines m lines left printable short shape spelled written = record {
  spells = record {
    short = short;
    printable = printable;
    spelled = record { shape = shape; parts = canonical_parts m; has_parts = canonical_has m; spelled = subst (λ (x : List (List ℕ)). AllZip Spells (canonical_parts m) x) (sym left) spelled };
    canonical_short = subst (λ (x : List ℕ). length x ≤ 65536) (sym written) short;
  };
  written = written;
}

flight_544 : SpellsDesignator (swiss 544) (codes "LX544")
flight_544 = record {
  is_code = refl;
  rest = codes "544";
  flight = record { digits = codes "544"; is_number = record { from = omega arith; to = omega arith; all = refl; number = refl }; suffixed = refl; spelled = refl };
  spelled = refl;
}

flight_700 : SpellsDesignator (swiss 700) (codes "LX700")
flight_700 = record {
  is_code = refl;
  rest = codes "700";
  flight = record { digits = codes "700"; is_number = record { from = omega arith; to = omega arith; all = refl; number = refl }; suffixed = refl; spelled = refl };
  spelled = refl;
}

flight_7A : SpellsDesignator (record { airline = codes "SWR"; flight = record { number = 7; suffix = 65 } }) (codes "SWR007A")
flight_7A = record {
  is_code = refl;
  rest = codes "007A";
  flight = record { digits = codes "007"; is_number = record { from = omega arith; to = omega arith; all = refl; number = refl }; suffixed = refl; spelled = refl };
  spelled = refl;
}

week_cancelled_worked : IsWorked week_cancelled week_cancelled_lines
unfolding originator_of reference_of numbers_of month_day_of period_of day_of day_number leap_years months_length days_of equipment_of leg_of end_of variations_of clock_of segment_of day_text year_of month_of day_of_month
week_cancelled_worked =
    by_lines week_cancelled week_cancelled_lines refl refl (omega arith)
    (record { some = omega arith; few = omega arith; subs = (record { dates = tt; body = tt }, tt); free = tt })
    (refl, (refl, (refl, (refl, (flight_544, (refl, tt)))))) refl

season_cancelled_worked : IsWorked season_cancelled season_cancelled_lines
unfolding originator_of reference_of numbers_of month_day_of period_of day_of day_number leap_years months_length days_of equipment_of leg_of end_of variations_of clock_of segment_of day_text year_of month_of day_of_month
season_cancelled_worked =
    by_lines season_cancelled season_cancelled_lines refl refl (omega arith)
    (record { some = omega arith; few = omega arith; subs = (record { dates = tt; body = tt }, tt); free = tt })
    (refl, (refl, (refl, (refl, (flight_544, (refl, tt)))))) refl

retimed_worked : IsWorked retimed retimed_lines
unfolding originator_of reference_of numbers_of month_day_of period_of day_of day_number leap_years months_length days_of equipment_of leg_of end_of variations_of clock_of segment_of day_text year_of month_of day_of_month
retimed_worked =
    by_lines retimed retimed_lines refl refl (omega arith)
    (record { some = omega arith; few = omega arith; subs = (record { dates = tt; body = (omega arith, omega arith) }, tt); free = tt })
    (refl, (refl, (refl, (refl, (flight_544, (refl, (refl, tt))))))) refl

put_back_worked : IsWorked put_back put_back_lines
unfolding originator_of reference_of numbers_of month_day_of period_of day_of day_number leap_years months_length days_of equipment_of leg_of end_of variations_of clock_of segment_of day_text year_of month_of day_of_month
put_back_worked =
    by_lines put_back put_back_lines refl refl (omega arith)
    (record { some = omega arith; few = omega arith; subs = (record { dates = tt; body = record { some = omega arith; legs = omega arith; segments = omega arith; flown = tt } }, tt); free = tt })
    (refl, (refl, (refl, (refl, (flight_544, (refl, (refl, (refl, tt)))))))) refl

other_equipment_worked : IsWorked other_equipment other_equipment_lines
unfolding originator_of reference_of numbers_of month_day_of period_of day_of day_number leap_years months_length days_of equipment_of leg_of end_of variations_of clock_of segment_of day_text year_of month_of day_of_month
other_equipment_worked =
    by_lines other_equipment other_equipment_lines refl refl (omega arith)
    (record { some = omega arith; few = omega arith; subs = (record { dates = tt; body = tt }, tt); free = tt })
    (refl, (refl, (refl, (refl, (flight_544, (refl, (refl, tt))))))) refl

leap_day_cancelled_worked : IsWorked leap_day_cancelled leap_day_cancelled_lines
unfolding originator_of reference_of numbers_of month_day_of period_of day_of day_number leap_years months_length days_of equipment_of leg_of end_of variations_of clock_of segment_of day_text year_of month_of day_of_month
leap_day_cancelled_worked =
    by_lines leap_day_cancelled leap_day_cancelled_lines refl refl (omega arith)
    (record { some = omega arith; few = omega arith; subs = (record { dates = tt; body = tt }, tt); free = tt })
    (refl, (refl, (refl, (refl, (flight_544, (refl, tt)))))) refl

one_date_worked : IsWorked one_date one_date_lines
unfolding originator_of reference_of numbers_of month_day_of period_of day_of day_number leap_years months_length days_of equipment_of leg_of end_of variations_of clock_of segment_of day_text year_of month_of day_of_month
one_date_worked =
    by_lines one_date one_date_lines refl refl (omega arith)
    (record { some = omega arith; few = omega arith; subs = (record { dates = tt; body = record { some = omega arith; legs = omega arith; segments = omega arith; flown = tt } }, tt); free = tt })
    (refl, (refl, (refl, (refl, (record { designator_spelled = flight_544; date_spelled = refl }, (refl, (refl, tt))))))) refl

every_part_worked : IsWorked every_part every_part_lines
unfolding originator_of reference_of numbers_of month_day_of period_of day_of day_number leap_years months_length days_of equipment_of leg_of end_of variations_of clock_of segment_of day_text year_of month_of day_of_month
every_part_worked =
    by_lines every_part every_part_lines refl refl (omega arith)
    (record { some = omega arith; few = omega arith; subs = (record { dates = tt; body = record { some = omega arith; legs = omega arith; segments = omega arith; flown = tt } }, tt); free = refl })
    (refl, (refl, (refl, (refl, (record { designator_spelled = flight_7A; date_spelled = refl }, (refl, (refl, (refl, (refl, tt))))))))) refl

originated_worked : IsWorked originated originated_lines
unfolding originator_of reference_of numbers_of month_day_of period_of day_of day_number leap_years months_length days_of equipment_of leg_of end_of variations_of clock_of segment_of day_text year_of month_of day_of_month
originated_worked =
    by_lines originated originated_lines refl refl (omega arith)
    (record { some = omega arith; few = omega arith; subs = (record { dates = tt; body = tt }, tt); free = tt })
    (refl, (refl, (refl, (refl, (refl, (flight_544, (refl, (refl, tt)))))))) refl

with_segments_worked : IsWorked with_segments with_segments_lines
unfolding originator_of reference_of numbers_of month_day_of period_of day_of day_number leap_years months_length days_of equipment_of leg_of end_of variations_of clock_of segment_of day_text year_of month_of day_of_month
with_segments_worked =
    by_lines with_segments with_segments_lines refl refl (omega arith)
    (record { some = omega arith; few = omega arith; subs = (record { dates = tt; body = record { some = omega arith; legs = omega arith; segments = omega arith; flown = (refl, (refl, (refl, tt))) } }, tt); free = tt })
    (refl, (refl, (refl, (refl, (flight_700, (refl, (refl, (refl, (refl, (refl, (refl, (refl, tt)))))))))))) refl

pub worked_texts : WorkedTexts
worked_texts = record {
  week_cancelled = week_cancelled_worked;
  season_cancelled = season_cancelled_worked;
  retimed = retimed_worked;
  put_back = put_back_worked;
  other_equipment = other_equipment_worked;
  leap_day_cancelled = leap_day_cancelled_worked;
  one_date = one_date_worked;
  every_part = every_part_worked;
  originated = originated_worked;
  with_segments = with_segments_worked;
}
