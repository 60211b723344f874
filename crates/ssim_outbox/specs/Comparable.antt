-- Whether two bases are of one airline and one time mode.
use Rattle.std.specs.Prelude.{◌≡◌, ◌≢◌, ◌⊎◌, List}
use Rattle.ssim_records.specs.Carrier.{CarrierFields}
use Rattle.ssim_base.specs.Export.{Frame}
use Rattle.ssim_base.specs.ReadBack.{HasFrame}
use Rattle.ssim_records.specs.declared.record.Record.{Record}
use Rattle.ssim_outbox.specs.declared.fault.OutboxFault.{OutboxFault}
use Rattle.ssim_outbox.specs.declared.fault.OutboxFault.TheVariants as fault

-- the carrier records of two bases
pub record HaveCarriers (from to : List Record) : Type 0 where
  pub mine : Frame
  pub theirs : Frame
  pub has : HasFrame mine from
  pub has_too : HasFrame theirs to

-- the carrier records have the same airline and the same time mode
pub record AreComparable (from to : List Record) : Type 0 where
  pub carriers : HaveCarriers from to
  pub airline : carriers.theirs.carrier.airline ≡ carriers.mine.carrier.airline
  pub mode : carriers.theirs.carrier.time_mode ≡ carriers.mine.carrier.time_mode

-- the carrier records have different airlines
pub record AreOfOtherAirlines (from to : List Record) : Type 0 where
  pub carriers : HaveCarriers from to
  pub other : carriers.theirs.carrier.airline ≢ carriers.mine.carrier.airline

-- the carrier records have the same airline and different time modes
pub record AreOfOtherModes (from to : List Record) : Type 0 where
  pub carriers : HaveCarriers from to
  pub airline : carriers.theirs.carrier.airline ≡ carriers.mine.carrier.airline
  pub other : carriers.theirs.carrier.time_mode ≢ carriers.mine.carrier.time_mode

-- why two timetables cannot be compared, by their carrier records: the airline differs (41), or it
-- is the same and the time mode differs (40)
abbrev pub RefusesCarriers : CarrierFields → CarrierFields → OutboxFault → Type 0
RefusesCarriers mine theirs refusal =
    ((refusal ≡ fault.OtherAirline) × (theirs.airline ≢ mine.airline))
    ⊎ ((refusal ≡ fault.OtherMode) × (theirs.airline ≡ mine.airline)
    × (theirs.time_mode ≢ mine.time_mode))
