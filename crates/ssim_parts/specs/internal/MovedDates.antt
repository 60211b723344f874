-- Legs in the new time mode, and the reasons in them for which a flight date is left.
use Rattle.std.specs.Prelude.{◌≡◌, ℕ, List, map}
use Rattle.ssim_values.specs.declared.time_mode.TimeMode.{TimeMode}
use Rattle.ssim_base.specs.Stations.{Row}
use Rattle.ssim_base.specs.Timetable.{LegValue, Legs}
use Rattle.ssim_parts.specs.MovedEnds.{arrival_of, departure_of}
use Rattle.ssim_parts.specs.MovedLegs.{beyond_in, end_beyond, end_unknown, moved_end, moved_leg}
use Rattle.ssim_parts.specs.MovedLegs.{or_reason, unknown_in}
use Rattle.ssim_parts.specs.declared.moved_legs.MovedLeg.{MovedLeg}
use Rattle.ssim_parts.specs.declared.moved_legs.MovedLegs.{MovedLegs}

-- a leg of date n in the new time mode
pub record IsMovedLeg (rows : List Row) (wanted : TimeMode) (n shift : ℕ) (leg : LegValue)
    (moved : MovedLeg) : Type 0 where
  pub leg_is : moved.leg ≡ moved_leg rows wanted n shift leg
  pub unknown_is : moved.unknown
      ≡ or_reason (end_unknown rows n leg.sequence (departure_of leg.columns))
      (end_unknown rows n leg.sequence (arrival_of leg.columns))
  pub beyond_is : moved.beyond
      ≡ or_reason
      (end_beyond leg.sequence shift (moved_end rows wanted n (departure_of leg.columns)))
      (end_beyond leg.sequence shift (moved_end rows wanted n (arrival_of leg.columns)))

-- the legs of date n in the new time mode
pub record AreMoved (rows : List Row) (wanted : TimeMode) (n shift : ℕ) (legs : Legs)
    (moved : MovedLegs) : Type 0 where
  pub legs_are : moved.legs.items ≡ map (moved_leg rows wanted n shift) legs
  pub unknown_is : moved.unknown ≡ unknown_in rows n legs
  pub beyond_is : moved.beyond ≡ beyond_in rows wanted n shift legs
