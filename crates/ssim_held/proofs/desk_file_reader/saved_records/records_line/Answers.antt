-- Nothing follows the line.
use Rattle.std.proofs.Common.{◌∙◌, [], ap, sym, codes, length, Some, arith}
use Rattle.std.proofs.lemmas.List.{append-nil}
use Rattle.ssim_held.specs.File.{counted}
use Rattle.ssim_held.proofs.desk_file_reader.saved_records.records_line.Goals as goal

pub returns-in_err-count-clause-only : goal.returns-in_err-count-clause-only
returns-in_err-count-clause-only c = λ n h e. absurd (c.in_err-count.ensures.only n [] h (e ∙ sym (append-nil (counted (codes "RECORDS") n))))

pub returns-in_default-empty-clause-only : goal.returns-in_default-empty-clause-only
returns-in_default-empty-clause-only c = λ n h e. let is = c.in_ok-count.ensures.only n [] h (e ∙ sym (append-nil (counted (codes "RECORDS") n))) in ap Some is.0

pub returns-in_default-clause-only : goal.returns-in_default-clause-only
returns-in_default-clause-only c = λ n h e. let is = c.in_ok-count.ensures.only n [] h (e ∙ sym (append-nil (counted (codes "RECORDS") n))) in absurd (omega (arith, ap length is.1, c.in_default.len_at_least))
