-- Words make one choice of the flight dates of two pairs of equal files, and the differences that are
-- chosen have the same lines.
use Rattle.std.proofs.Common.{◌≡◌, ℕ, Bool, List, Some, ap}
use Rattle.ssim_records.specs.Carrier.{CarrierFields}
use Rattle.ssim_records.specs.Frames.{FramesAreOne}
use Rattle.ssim_base.specs.Reading.{SameBytesSameBase}
use Rattle.ssim_held.specs.Entries.{DeskSeen}
use Rattle.ssim_held.specs.File.{NoTwoDesks}
use Rattle.ssim_desk.specs.Desk.{days_of_desk}
use Rattle.ssim_parts.specs.Chosen.{Choosing}
use Rattle.ssim_difference.specs.ChosenDates.{chosen_side}
use Rattle.ssim_command_line.specs.Line.{ChoiceTexts, Diff, Text}
use Rattle.ssim_command_line.specs.declared.command_line.DiffForm.{DiffForm}
use Rattle.ssim_program.specs.Answer.{Gives, ◌>>=◌}
use Rattle.ssim_program.specs.Choices.{choice_in}
use Rattle.ssim_program.specs.EqualFiles.{DoesTheSameOfPairs}
use Rattle.ssim_program.specs.Timetables.{timetable_in}
use Rattle.ssim_program.specs.print.Difference.{reported_difference}
use Rattle.ssim_program.proofs.Alike.{Equal, gives_alike, reports_alike, then_alike}
use Rattle.ssim_program.proofs.EqualFiles.{Made, pairs_alike, seen, to_new}
use Rattle.ssim_program.proofs.EqualParts.{choice_alike}

abbrev chosen_report : DiffForm → DeskSeen → DeskSeen → CarrierFields → Choosing → List ℕ × Bool
chosen_report form old new mine choice = reported_difference form mine.airline
    (chosen_side choice (days_of_desk old) (days_of_desk new) (days_of_desk old))
    (chosen_side choice (days_of_desk old) (days_of_desk new) (days_of_desk new))

abbrev differing : DiffForm → ChoiceTexts → List Text → Made (List ℕ × Bool)
differing form words flights old new mine theirs = do
  choice ← choice_in mine.airline words flights
  Gives (chosen_report form old new mine choice)

module _ (frames : FramesAreOne) (one_base : SameBytesSameBase) (no_two : NoTwoDesks) where
  pub diff_alike : (form : DiffForm) (words : ChoiceTexts) (flights : List Text)
      → DoesTheSameOfPairs (λ from to. Diff form words from to flights)
  diff_alike form words flights files others from to here there is_one is_other =
      let made = differing form words flights in
      reports_alike form.status (timetable_in (Some files) from >>= to_new made files to)
      (timetable_in (Some others) here >>= to_new made others there)
      (pairs_alike frames one_base no_two made
      (λ old first new second one two mine ours theirs that_carrier same same_too.
      then_alike Equal Equal (choice_in mine.airline words flights)
      (choice_in ours.airline words flights) (λ choice. Gives (chosen_report form old new mine choice))
      (λ choice. Gives (chosen_report form first second ours choice))
      (choice_alike mine.airline ours.airline words flights
      (ap (λ (c : CarrierFields). c.airline) same))
      (λ choice that both. gives_alike (chosen_report form old new mine choice)
      (chosen_report form first second ours that)
      (λ i. chosen_report form (seen (one.0 i) (one.1 i)) (seen (two.0 i) (two.1 i)) (same i) (both i))))
      files others from to here there is_one is_other)
