-- Records without an open end.
use Rattle.std.specs.Prelude.{IsSome}
use Rattle.ssim_records.specs.declared.record.Record.{Record}
use Rattle.ssim_records.specs.declared.record.Record.TheVariants.{Leg}

-- the end of a leg record is a date
abbrev pub IsClosed : Record → Type 0
IsClosed (Leg r) = IsSome r.last
IsClosed _ = Unit {0}
