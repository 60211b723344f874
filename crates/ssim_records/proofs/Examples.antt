-- The worked data set, by computing.
use Rattle.std.proofs.Common.{◌≡◌, refl, arith}
use Rattle.std.specs.Prelude.{take, drop}
use Rattle.ssim_values.specs.Calendar.{day_number, leap_years, months_length, year_of, month_of, day_of_month}
use Rattle.ssim_values.specs.Day.{day_of, day_text}
use Rattle.ssim_values.specs.DayMask.{days_of}
use Rattle.ssim_values.specs.Clock.{clock_of}
use Rattle.ssim_values.specs.Variation.{variation_of}
use Rattle.ssim_columns.specs.Columns.{end_from, passenger_time_of, utc_variation_of, time_mode_of, end_code_of, is_title, dates_fault}
use Rattle.ssim_records.specs.Frames.{is_fill}
use Rattle.ssim_records.specs.Header.{SpellsHeader, written_header}
use Rattle.ssim_records.specs.Carrier.{SpellsCarrier, written_carrier}
use Rattle.ssim_columns.specs.Leg.{SpellsLeg, written_leg}
use Rattle.ssim_columns.specs.LegParts.{new_leg, station_columns, with_equipment, with_times}
use Rattle.ssim_columns.specs.Numbers.{digits_of, number_of, sequence_of, drop_blanks_at_end}
use Rattle.ssim_records.specs.Record.{table_of}
use Rattle.ssim_records.specs.Trailer.{SpellsTrailer, written_trailer}
use Rattle.ssim_records.specs.examples.DataSet.{WorkedRecords, carrier_bytes, data_set, header_bytes, leg_bytes, the_carrier, the_header, the_leg, the_trailer, trailer_bytes}

header_spelt : SpellsHeader the_header header_bytes
unfolding is_title digits_of
header_spelt = record { kind = refl; valid = (refl, (refl, (refl, tt))); details = refl; serial = refl }

header_written : written_header the_header ≡ header_bytes
header_written = refl

carrier_spelt : SpellsCarrier the_carrier carrier_bytes
unfolding time_mode_of dates_fault end_from day_of day_number leap_years months_length digits_of
carrier_spelt = record { kind = refl; valid = (refl, (refl, (refl, (refl, (refl, (refl, (refl, tt))))))); time_mode = refl; airline = refl; season = refl; first = refl; last = refl; created = refl; details = refl; serial = refl }

carrier_written : written_carrier the_carrier ≡ carrier_bytes
unfolding day_text year_of month_of day_of_month
carrier_written = refl

leg_spelt : SpellsLeg the_leg leg_bytes
unfolding number_of drop_blanks_at_end sequence_of dates_fault end_from day_of day_number leap_years months_length days_of clock_of passenger_time_of variation_of utc_variation_of digits_of
leg_spelt = record { kind = refl; valid = (refl, (refl, (refl, (refl, (refl, (refl, (refl, (refl, (refl, (refl, (refl, (refl, (refl, (refl, (refl, (refl, (refl, (refl, (refl, (refl, (refl, (refl, tt)))))))))))))))))))))); name = record { suffix = refl; airline = refl; number = refl; variation = refl; sequence = refl }; first = refl; last = refl; days = refl; rate = refl; own = refl; overflow = refl; serial = refl }

leg_written : written_leg the_leg ≡ leg_bytes
unfolding day_text year_of month_of day_of_month
leg_written = refl

trailer_spelt : SpellsTrailer the_trailer trailer_bytes
unfolding end_code_of digits_of
trailer_spelt = record { kind = refl; valid = (refl, (refl, (refl, (refl, (refl, (refl, tt)))))); spare = refl; airline = refl; release = refl; check = refl; code = refl; serial = refl }

trailer_written : written_trailer the_trailer ≡ trailer_bytes
trailer_written = refl

pub worked_records : WorkedRecords
unfolding is_fill table_of new_leg station_columns with_equipment with_times number_of drop_blanks_at_end sequence_of dates_fault end_from day_of day_number leap_years months_length days_of clock_of passenger_time_of variation_of utc_variation_of digits_of
worked_records =
    record {
      header = (header_spelt, header_written);
      carrier = (carrier_spelt, carrier_written);
      leg = (leg_spelt, leg_written);
      trailer = (trailer_spelt, trailer_written);
      framed = (drop 200 data_set, refl, refl, omega arith, (drop 401 data_set, refl, refl, omega arith, (drop 602 data_set, refl, refl, omega arith, (drop 803 data_set, refl, refl, omega arith, (refl, omega arith)))));
      numbered = refl;
      cut = (drop 200 (take 802 data_set), refl, refl, omega arith, (drop 401 (take 802 data_set), refl, refl, omega arith, (drop 602 (take 802 data_set), refl, refl, omega arith, (refl, omega arith))));
      other_station = refl;
      other_end = refl;
      other_byte = refl;
      other_type = refl;
      new = refl;
      retimed = refl;
      equipped = refl;
    }
