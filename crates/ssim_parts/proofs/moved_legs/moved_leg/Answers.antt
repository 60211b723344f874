-- Its columns have the moved ends, and the reasons are those of its ends.
use Rattle.std.proofs.Common.{refl}
use Rattle.ssim_parts.proofs.moved_legs.moved_leg.Goals as goal

pub returns : goal.returns
returns c = record {
  leg_is = rw (
    c.set_columns.ensures,
    c.with_ends.ensures,
    c.moved-new_departure.ensures.value,
    c.moved-new_arrival.ensures.value,
    c.departure_of-departure.ensures,
    c.arrival_of-arrival.ensures,
    c.columns-columns.ensures,
    c.in_ok-moved.ensures,
  ) refl;
  unknown_is = rw (
    c.or_reason.ensures,
    c.end_unknown-first.ensures,
    c.end_unknown-second.ensures,
    c.departure_of-departure.ensures,
    c.arrival_of-arrival.ensures,
    c.columns-columns.ensures,
    c.sequence-sequence.ensures.value,
  ) refl;
  beyond_is = rw (
    c.or_reason-2.ensures,
    c.end_beyond-third.ensures,
    c.end_beyond-fourth.ensures,
    c.moved-new_departure.ensures.value,
    c.moved-new_arrival.ensures.value,
    c.departure_of-departure.ensures,
    c.arrival_of-arrival.ensures,
    c.columns-columns.ensures,
    c.sequence-sequence.ensures.value,
  ) refl;
}
