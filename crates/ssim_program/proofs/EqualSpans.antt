-- Words choose the same sub-messages of equal desk files, and these find the same.
use Rattle.std.proofs.Common.{◌≡◌, ℕ, Bool, List, Some}
use Rattle.ssim_held.specs.Entries.{DeskSeen}
use Rattle.ssim_held.specs.File.{NoTwoDesks}
use Rattle.ssim_parts.specs.Chosen.{Choosing}
use Rattle.ssim_command_line.specs.Line.{Findings, Line, SpanTexts, Text, Texts}
use Rattle.ssim_command_line.specs.declared.command_line.FindingsForm.{FindingsForm}
use Rattle.ssim_program.specs.Answer.{Answer, ◌>>=◌}
use Rattle.ssim_program.specs.Desks.{desk_in}
use Rattle.ssim_program.specs.EqualFiles.{AreAlike, DoesTheSame, PrintTheSame}
use Rattle.ssim_program.specs.Acts.{prints}
use Rattle.ssim_program.specs.Messages.{printed_messages}
use Rattle.ssim_program.specs.Spans.{dates_alone, has_end, lines_found}
use Rattle.ssim_program.specs.print.Shown.{findings_lines}
use Rattle.ssim_program.proofs.Alike.{Equal, prints_alike, then_alike}
use Rattle.ssim_program.proofs.EqualFiles.{seen}
use Rattle.ssim_program.proofs.EqualParts.{lines_alike, lines_of}
use Rattle.ssim_program.proofs.SameReading.{SameDesk, desk_alike}

abbrev texts_of : Bool → Bool → DeskSeen → Choosing → List ℕ
texts_of csv spanned desk choice = printed_messages csv spanned choice desk.held

abbrev findings_of : FindingsForm → Bool → DeskSeen → Choosing → List ℕ
findings_of form spanned desk choice =
    findings_lines form spanned choice (lines_found spanned choice desk)

module _ (no_two : NoTwoDesks) where
  pub texts_alike : (csv : Bool) (span : SpanTexts) (words : List Text)
      → DoesTheSame (λ file. Texts csv span file words)
  texts_alike csv span words files others name another same =
      let mine = desk_in (Some files) name in
      let theirs = desk_in (Some others) another in
      let lines = texts_of csv (has_end span) in
      let printed = lines_of lines (dates_alone span) words in
      prints_alike (mine >>= printed) (theirs >>= printed)
      (then_alike SameDesk Equal mine theirs printed printed
      (desk_alike files others name another same no_two)
      (lines_alike lines
      (λ desk other choice that one both. λ i. lines (seen (one.0 i) (one.1 i)) (both i))
      (dates_alone span) words))

  pub findings_alike : (form : FindingsForm) (span : SpanTexts) (words : List Text)
      → DoesTheSame (λ file. Findings form span file words)
  findings_alike form span words files others name another same =
      let mine = desk_in (Some files) name in
      let theirs = desk_in (Some others) another in
      let lines = findings_of form (has_end span) in
      let printed = lines_of lines (dates_alone span) words in
      prints_alike (mine >>= printed) (theirs >>= printed)
      (then_alike SameDesk Equal mine theirs printed printed
      (desk_alike files others name another same no_two)
      (lines_alike lines
      (λ desk other choice that one both. λ i. lines (seen (one.0 i) (one.1 i)) (both i))
      (dates_alone span) words))
