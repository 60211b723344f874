-- A flight on one date.
use Rattle.std.specs.Prelude.{ℕ}
use Rattle.ssim_base.specs.Timetable.{Legs}

-- what contracts see of a flight on one date: the day, and the legs
pub record DateSeen : Type 0 where
  pub day : ℕ
  pub legs : Legs
