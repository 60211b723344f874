-- No two rows of a table have one key.
use Rattle.std.proofs.Common.{List, subst}
use Rattle.ssim_base.specs.Timetable.{days_of}
use Rattle.ssim_text.specs.declared.reference.Reference.{Reference}
use Rattle.ssim_desk.specs.Desk.{days_of_desk}
use Rattle.ssim_desk.specs.Meaning.{found_by}
use Rattle.ssim_schedule.specs.FlightPieces.{divided_flights}
use Rattle.ssim_sql.specs.Keys.{AreDistinct, NoKeyTwice}
use Rattle.ssim_sql.specs.LegRows.{flight_legs}
use Rattle.ssim_sql.proofs.ChangeKeys.{change_keys}
use Rattle.ssim_sql.proofs.LegKeys.{leg_keys}
use Rattle.ssim_sql.proofs.MessageKeys.{findings_distinct, message_keys_are, places_distinct}
use Rattle.ssim_sql.proofs.MessageKeys.{references_distinct, segments_distinct, subs_distinct}

pub no_key_twice : NoKeyTwice
no_key_twice desk rising old new =
    let legs = leg_keys (days_of_desk desk) new in
    let messages = references_distinct desk.held rising in
    record {
      legs = legs;
      segments = segments_distinct (flight_legs (divided_flights (days_of_desk desk))) legs;
      stations = places_distinct 1 desk.base.rows;
      messages = subst (λ (rs : List Reference). AreDistinct rs) (message_keys_are 1 desk.held)
          messages;
      subs = subs_distinct desk.held _
          (findings_distinct desk.held (found_by desk.base desk.held) messages);
      changes = change_keys (days_of desk.base.records) (days_of_desk desk) old new;
    }
