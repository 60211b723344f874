-- Bytes that spell a record, and a record with another serial.
use Rattle.std.specs.Prelude.{ℕ, List, Option, Some, None}
use Rattle.ssim_records.specs.declared.record.Record.{Record}
use Rattle.ssim_records.specs.declared.record.Record.TheVariants.{Header, Carrier, Leg, Segment}
use Rattle.ssim_records.specs.declared.record.Record.TheVariants.{Trailer}
use Rattle.ssim_records.specs.Record.{Spells}

-- the record that was put in is the one that the bytes spell
abbrev pub HasSpelt : Option Record → List ℕ → Type 0
HasSpelt None bytes = ⊥
HasSpelt (Some r) bytes = Spells r bytes

-- ---- serials

-- a record with this serial
abbrev pub with_serial : ℕ → Record → Record
with_serial n (Header r) = Header (record r { serial = n })
with_serial n (Carrier r) = Carrier (record r { serial = n })
with_serial n (Leg r) = Leg (record r { serial = n })
with_serial n (Segment r) = Segment (record r { serial = n })
with_serial n (Trailer r) = Trailer (record r { serial = n })
