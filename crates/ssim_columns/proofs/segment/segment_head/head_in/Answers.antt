-- The fields that were read are those of the table.
use Rattle.std.specs.Prelude.{IsTrue}
use Rattle.std.specs.List.{list_all}
use Rattle.ssim_columns.specs.Columns.{columns, is_carried}
use Rattle.ssim_columns.proofs.lemmas.ReadOnce.{segment_stands}
use Rattle.ssim_columns.proofs.segment.segment_head.head_in.Goals as goal

pub returns : goal.returns
returns c =
    let b = c.args.bytes.now in
    let all : IsTrue (list_all is_carried (columns 3 194 b)) = simp (c.middle_is_carried.ensures) at c.if-not-middle_is_carried.false in
    record {
      valid = segment_stands b c.in_ok-name.name c.in_ok-serial.serial all c.in_ok-name.ensures.is_name c.in_ok-name.ensures.spells c.in_ok-serial.ensures.value;
      name = c.in_ok-name.ensures.spells;
      is_name = c.in_ok-name.ensures.is_name;
      serial = c.in_ok-serial.ensures.value;
      small = c.in_ok-serial.ensures.below;
    }
