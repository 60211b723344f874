-- Records with the same columns have the same ends.
use Rattle.std.proofs.Common.{Some, sym, ap, ◌∙◌}
use Rattle.ssim_values.specs.Day.{day_of}
use Rattle.ssim_columns.specs.Columns.{end_from}
use Rattle.ssim_columns.proofs.lemmas.SameColumns.{same_ends}
use Rattle.ssim_columns.proofs.latest_columns.LegEndsInColumns14.read.Goals as goal

pub returns : goal.returns
returns c = λ same e.
    same_ends (record { first = c.in_ok-first.first; last = c.in_ok-last.last }) c.args.bytes.now same e record {
      first = ap day_of (sym c.text-first_text.ensures.value) ∙ sym c.in_ok-first.ensures;
      last = ap (end_from (Some c.in_ok-first.first)) (sym c.text-last_text.ensures.value) ∙ sym c.in_ok-last.ensures;
    }
