-- The parts come one after another, and are valid in their columns.
use Rattle.std.proofs.Common.{◌≡◌, refl, sym, subst}
use Rattle.std.specs.List.{concat}
use Rattle.ssim_columns.specs.Leg.{AreLegColumns}
use Rattle.ssim_parts.specs.MovedEnds.{with_ends}
use Rattle.ssim_parts.proofs.MovedColumns.{end_rows, ends_valid, length_ends}
use Rattle.ssim_parts.proofs.moved_columns.bytes_with.Goals as goal

pub join-requires : goal.join-requires
join-requires c =
    let d = c.args.columns.now in
    let len =
    length_ends c.args.departure.now c.args.arrival.now c.args.shift d c.text.ensures.valid.len in
    rw (
      c.text.ensures.value,
      c.text-2.ensures.value,
      c.passenger_text.ensures,
      c.clock_text.ensures,
      c.write.ensures.value,
      c.text-3.ensures.value,
      c.text-4.ensures.value,
      c.clock_text-2.ensures,
      c.passenger_text-2.ensures,
      c.write-2.ensures.value,
      c.text-5.ensures.value,
      c.text-6.ensures.value,
      c.text-7.ensures.value,
      c.date_variation.ensures.value,
      c.date_variation-2.ensures.value,
    ) len

-- the bytes are the parts one after another
all_joined : (c : goal.After-bytes-2-1) → c.join.new.out
    ≡ concat (end_rows c.args.departure.now c.args.arrival.now c.args.shift c.args.columns.now)
all_joined c =
    rw (
      c.join.ensures,
      c.text.ensures.value,
      c.text-2.ensures.value,
      c.passenger_text.ensures,
      c.clock_text.ensures,
      c.write.ensures.value,
      c.text-3.ensures.value,
      c.text-4.ensures.value,
      c.clock_text-2.ensures,
      c.passenger_text-2.ensures,
      c.write-2.ensures.value,
      c.text-5.ensures.value,
      c.text-6.ensures.value,
      c.text-7.ensures.value,
      c.date_variation.ensures.value,
      c.date_variation-2.ensures.value,
    ) refl

pub returns-clause-value : goal.returns-clause-value
unfolding with_ends
returns-clause-value c = all_joined c

pub returns-clause-valid : goal.returns-clause-valid
returns-clause-valid c =
    let h = c.text.ensures.valid in
    subst AreLegColumns (sym (all_joined c))
    (ends_valid c.args.departure.now c.args.arrival.now c.args.shift c.args.columns.now h.len h
    c.requires.departure c.requires.arrival)
