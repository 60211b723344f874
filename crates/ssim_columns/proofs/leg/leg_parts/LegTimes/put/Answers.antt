-- The five texts are written one after another, and no two of them touch.
use Rattle.std.proofs.Common.{◌≡◌, ◌∙◌, refl, sym, subst}
use Rattle.ssim_columns.specs.clauses.LegParts.{ChangesTimes}
use Rattle.ssim_columns.proofs.lemmas.LegChanges.{time_writes, times_change, times_written}
use Rattle.ssim_columns.proofs.lemmas.Overlay.{written}
use Rattle.ssim_columns.proofs.leg.leg_parts.LegTimes.put.Goals as goal

all_written : (c : goal.After-put-5) → c.put-5.new.bytes ≡ written (time_writes c.args.self.now) c.args.bytes.now
all_written c =
    rw (
      c.put-5.ensures,
      c.put-4.ensures,
      c.put-3.ensures,
      c.put-2.ensures,
      c.put.ensures,
      c.write.ensures.value,
      c.write-2.ensures.value,
      c.write-3.ensures.value,
      c.write-4.ensures.value,
      c.last_digit.ensures,
      c.last_digit-2.ensures,
    ) refl

pub returns-clause-value : goal.returns-clause-value
returns-clause-value c = all_written c ∙ times_written c.args.self.now c.args.bytes.now c.told-bytes

pub returns-clause-changes : goal.returns-clause-changes
returns-clause-changes c = subst (ChangesTimes c.args.self.now c.args.bytes.now) (sym (all_written c)) (times_change c.args.self.now c.args.bytes.now c.told-bytes)
