-- The line that says the number is the first one.
use Rattle.std.proofs.Common.{◌≡◌, ◌++◌, [], ℕ, List, None, refl, ◌∙◌}
use Rattle.ssim_text.specs.Bytes.{from}
use Rattle.ssim_held.proofs.Inputs.{of_known, some_map}
use Rattle.ssim_held.proofs.NextLines.{count_is, first_line_is, no_count}
use Rattle.ssim_held.proofs.SavedInputs.{SaysOnly}
use Rattle.ssim_held.proofs.desk_file_reader.saved_records.take_count.Goals as goal

pub returns-in-Some-clause-only : goal.returns-in-Some-clause-only
returns-in-Some-clause-only g c =
    let items = c.in-Some.line.items in
    let line = rw c.in-Some.is at c.in_ok-line.ensures.some in
    of_known (SaysOnly c.records_line.result) items _ _ line.3.next
    (λ rest at n later low e.
    let first = first_line_is line.0 items (items ++ rest) rest line.1 line.2 refl in
    c.records_line.ensures.only n low (c.deref.ensures.value ∙ (count_is n (items ++ rest) later items rest low e first refl).0))

pub returns-in-None-clause-only : goal.returns-in-None-clause-only
returns-in-None-clause-only g c =
    some_map (λ (bs : List ℕ). from 10 bs ≡ []) (SaysOnly None) _ (λ bs none n later low e. absurd (no_count n bs later low e none)) (rw c.in-None.is at c.in_ok-line.ensures.none)
