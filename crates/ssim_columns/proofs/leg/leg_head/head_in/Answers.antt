-- The fields that were read are those of the table.
use Rattle.std.specs.Prelude.{IsTrue}
use Rattle.std.specs.List.{list_all}
use Rattle.ssim_columns.specs.Columns.{columns, is_carried}
use Rattle.ssim_columns.specs.internal.LegPoints.{departure_is_valid, arrival_is_valid}
use Rattle.ssim_columns.proofs.lemmas.Days.{is_end}
use Rattle.ssim_columns.proofs.lemmas.ReadOnce.{leg_stands}
use Rattle.ssim_columns.proofs.leg.leg_head.head_in.Goals as goal

pub returns : goal.returns
returns c =
    let b = c.args.bytes.now in
    let all : IsTrue (list_all is_carried (columns 3 194 b)) = simp (c.middle_is_carried.ensures) at c.if-not-middle_is_carried.false in
    let departure : IsTrue (departure_is_valid b) = simp (c.departure_is_valid.ensures) at c.if-not-departure_is_valid.false in
    let arrival : IsTrue (arrival_is_valid b) = simp (c.arrival_is_valid.ensures) at c.if-not-arrival_is_valid.false in
    let dates = c.in_ok-dates.ensures in
    record {
      valid = leg_stands b c.in_ok-name.name c.in_ok-dates.dates.first c.in_ok-dates.dates.last c.in_ok-dates.dates.days c.in_ok-serial.serial all departure arrival c.in_ok-name.ensures.is_name c.in_ok-name.ensures.spells dates.first dates.last dates.days c.in_ok-serial.ensures.value;
      name = c.in_ok-name.ensures.spells;
      is_name = c.in_ok-name.ensures.is_name;
      first = dates.first;
      last = dates.last;
      is_end = is_end c.in_ok-dates.dates.first _ c.in_ok-dates.dates.last dates.last;
      days = dates.days;
      serial = c.in_ok-serial.ensures.value;
      small = c.in_ok-serial.ensures.below;
    }
