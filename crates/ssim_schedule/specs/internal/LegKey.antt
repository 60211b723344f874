-- The name of a leg as one number.
use Rattle.std.specs.Prelude.{ℕ, ◌+◌, ◌*◌, ◌<◌}
use Rattle.ssim_values.specs.Flight.{IsFlight}
use Rattle.ssim_records.specs.Leg.{Name}
use Rattle.ssim_base.specs.ReadBack.{place_of}

-- the number of a leg's name, which gives its flight, itinerary variation and sequence
abbrev pub name_place : Name → ℕ
name_place n = (place_of n.flight * 100 + n.variation) * 100 + n.sequence

-- the parts of a leg's name that its number keeps are in range
pub record IsPlaced (n : Name) : Type 0 where
  pub flight : IsFlight n.flight
  pub variation : n.variation < 100
  pub sequence : n.sequence < 100
