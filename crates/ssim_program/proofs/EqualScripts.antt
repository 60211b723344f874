-- Equal files have equal scripts of SQL: a script hangs on the kind, the base and the messages alone.
use Rattle.std.proofs.Common.{◌≡◌, ◌∙◌, Bool, ℕ, List, Some, refl, sym}
use Rattle.ssim_records.specs.Carrier.{CarrierFields}
use Rattle.ssim_records.specs.Frames.{FramesAreOne}
use Rattle.ssim_base.specs.Reading.{SameBytesSameBase}
use Rattle.ssim_held.specs.Entries.{DeskSeen}
use Rattle.ssim_held.specs.File.{NoTwoDesks}
use Rattle.ssim_sql.specs.Messages.{held_statements}
use Rattle.ssim_sql.specs.Script.{script_of, script_of_flights}
use Rattle.ssim_command_line.specs.Line.{Sql}
use Rattle.ssim_program.specs.Answer.{Answer, Gives, ◌>>=◌}
use Rattle.ssim_program.specs.Answers.{is_desk}
use Rattle.ssim_program.specs.EqualFiles.{DoesTheSame}
use Rattle.ssim_program.specs.Timetables.{carrier_of, known_in}
use Rattle.ssim_program.specs.declared.explain.file_kind.FileKind.{FileKind}
use Rattle.ssim_program.proofs.Alike.{Equal, gives_alike, prints_alike, then_alike}
use Rattle.ssim_program.proofs.EqualFiles.{carrier_alike, records_same, seen}
use Rattle.ssim_program.proofs.SameReading.{SameKnown, known_alike}

seen_script : (carrier : CarrierFields) (of_desk : Bool) (desk : DeskSeen)
    → script_of carrier of_desk desk ≡ script_of carrier of_desk (seen desk.base desk.held)
unfolding script_of_flights held_statements
seen_script carrier of_desk desk = refl

abbrev script_of_known : FileKind × DeskSeen → Answer (List ℕ)
script_of_known known = carrier_of known.1.base.records
    >>= (λ carrier. Gives (script_of carrier (is_desk known.0) known.1))

module _ (frames : FramesAreOne) (one_base : SameBytesSameBase) (no_two : NoTwoDesks) where
  pub sql_alike : DoesTheSame Sql
  sql_alike files others name another same =
      let mine = known_in (Some files) name in
      let theirs = known_in (Some others) another in
      prints_alike (mine >>= script_of_known) (theirs >>= script_of_known)
      (then_alike SameKnown Equal mine theirs script_of_known script_of_known
      (known_alike files others name another same frames one_base no_two)
      (λ known other one. then_alike Equal Equal (carrier_of known.1.base.records)
      (carrier_of other.1.base.records)
      (λ carrier. Gives (script_of carrier (is_desk known.0) known.1))
      (λ carrier. Gives (script_of carrier (is_desk other.0) other.1))
      (carrier_alike known.1.base.records other.1.base.records
      (records_same known.1 other.1 one.1))
      (λ carrier those both. gives_alike (script_of carrier (is_desk known.0) known.1)
      (script_of those (is_desk other.0) other.1)
      (seen_script carrier (is_desk known.0) known.1
      ∙ (λ i. script_of (both i) (is_desk (one.0 i)) (seen (one.1.0 i) (one.1.1 i)))
      ∙ sym (seen_script those (is_desk other.0) other.1)))))
