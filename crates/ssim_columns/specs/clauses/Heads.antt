-- What is parsed of the columns of a flight leg or segment record.
use Rattle.std.specs.Prelude.{ℕ, ◌≡◌, ◌<◌, List, Some, IsSome}
use Rattle.ssim_values.specs.Day.{day_of}
use Rattle.ssim_values.specs.DayMask.{days_of}
use Rattle.ssim_columns.specs.declared.leg.leg_head.LegHead.{LegHead}
use Rattle.ssim_columns.specs.declared.segment.segment_head.SegmentHead.{SegmentHead}
use Rattle.ssim_columns.specs.Numbers.{digits_of}
use Rattle.ssim_columns.specs.Columns.{columns, end_from, EachIsValid}
use Rattle.ssim_columns.specs.Leg.{IsName, SpellsName, IsEnd, leg_table}
use Rattle.ssim_columns.specs.Segment.{segment_table}

-- each field of the flight leg record is valid, and the parsed columns spell this
pub record IsLegHead (h : LegHead) (bytes : List ℕ) : Type 0 where
  pub valid : EachIsValid bytes leg_table
  pub name : SpellsName h.name bytes
  pub is_name : IsName h.name
  pub first : day_of (columns 15 21 bytes) ≡ Some h.first
  pub last : end_from (Some h.first) (columns 22 28 bytes) ≡ Some h.last
  pub is_end : IsEnd h.first h.last
  pub days : days_of (columns 29 35 bytes) ≡ Some h.days
  pub serial : digits_of (columns 195 200 bytes) ≡ Some h.serial
  pub small : h.serial < 1000000

-- each field of the segment record is valid, and the parsed columns spell this
pub record IsSegmentHead (h : SegmentHead) (bytes : List ℕ) : Type 0 where
  pub valid : EachIsValid bytes segment_table
  pub name : SpellsName h.name bytes
  pub is_name : IsName h.name
  pub serial : digits_of (columns 195 200 bytes) ≡ Some h.serial
  pub small : h.serial < 1000000

-- the numbers of a name are digits without blanks
pub record HasDigits (bytes : List ℕ) : Type 0 where
  pub number : IsSome (digits_of (columns 6 9 bytes))
  pub variation : IsSome (digits_of (columns 10 11 bytes))
  pub sequence : IsSome (digits_of (columns 12 13 bytes))
