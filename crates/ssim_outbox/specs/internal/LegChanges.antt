-- The parts of a change of legs that are made beforehand.
use Rattle.std.specs.Prelude.{◌≡◌, map}
use Rattle.ssim_outbox.specs.Reason.{Change, have_other_equipment, leg_line}
use Rattle.ssim_outbox.specs.declared.leg_change.LegChange.{LegChange}

-- what definitions see of it
abbrev pub change_of : LegChange → Change
change_of c = record {
  rows = c.rows.now;
  day = c.day;
  old = c.old.now;
  new = c.new.now;
  first = c.first;
}

-- the leg lines are those of the new legs, and it was tested whether the equipment is another one
pub record IsPrepared (c : LegChange) : Type 0 where
  pub lines : c.lines.items ≡ map leg_line c.new.now
  pub equipment : c.has_other_equipment ≡ have_other_equipment c.old.now c.new.now
