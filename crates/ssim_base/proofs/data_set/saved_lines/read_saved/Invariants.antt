-- The records so far are kept, their lines were used, and what is left can only begin with the lines
-- of records that complete a base.
use Rattle.std.proofs.Common.{◌≡◌, ◌≤◌, ◌-◌, ◌++◌, ℕ, List, length, reverse}
use Rattle.ssim_records.specs.Device.{Reader}
use Rattle.ssim_records.specs.clauses.InputBuffer.{Gives, Input, Uses}
use Rattle.ssim_records.specs.declared.record.Record.{Record}
use Rattle.ssim_base.specs.SavedBase.{saved}
use Rattle.ssim_base.specs.internal.Acceptance.{HasAccepted}
use Rattle.ssim_base.specs.declared.data_set.acceptance.Acceptance.{Acceptance}
use Rattle.ssim_base.proofs.SavedLines.{IsLeft}
use Rattle.ssim_base.proofs.data_set.saved_lines.read_saved.Given as goal

pub record Goes {R : Type 0} (state : R → Reader)
    (count done : ℕ) (kept : Acceptance) (records : List Record)
    (old new : Input) (before reader : R) : Type 0 where
  pub earlier : List Record
  pub is_kept : HasAccepted kept earlier
  pub is_left : (rest : List ℕ) → IsLeft (saved (reverse earlier) ++ rest) rest count earlier
  pub has : records ≡ reverse earlier
  pub number : length earlier ≡ done
  pub few : done ≤ count
  pub limit : new.limit ≡ old.limit
  pub uses : Uses (saved (reverse earlier)) old (state before).left new (state reader).left
  pub gives : Gives (state before) (state reader) old.came new.came

abbrev pub invariant-loop-done : goal.invariant-loop-done
invariant-loop-done g l = Goes g.R.Source.state
    l.count l.done l.kept l.records.items l.initial.input l.input l.initial.reader l.reader

abbrev pub decreases-loop-done : goal.decreases-loop-done
decreases-loop-done g l = l.count - l.done
