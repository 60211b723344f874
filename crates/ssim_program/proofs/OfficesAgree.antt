-- Each desk file has the messages that were brought to it, over histories; and so two offices agree.
use Rattle.std.proofs.Common.{◌≡◌, ◌∙◌, ℕ, List, []}
use Rattle.std.proofs.Common.{Some, sym, ap, subst}
use Rattle.std.specs.FinMap.{entries, get}
use Rattle.ssim_base.specs.BaseSeen.{BaseSeen}
use Rattle.ssim_base.specs.Reading.{SameBytesSameBase}
use Rattle.ssim_base.specs.Stations.{SameBytesSameRows}
use Rattle.ssim_text.specs.Grammar.{OneMessage}
use Rattle.ssim_text.specs.Reference.{OneReference}
use Rattle.ssim_text.specs.Spelling.{CanonicalReadsBack}
use Rattle.ssim_held.proofs.Entries.{entries-map_of}
use Rattle.ssim_held.specs.Entries.{Entry, keyed, map_of}
use Rattle.ssim_held.specs.File.{NoTwoDesks, desk_file}
use Rattle.ssim_held.specs.Held.{DeskState}
use Rattle.ssim_desk.proofs.Agreeing.{same_desk}
use Rattle.ssim_command_line.specs.Line.{Text}
use Rattle.ssim_program.specs.Files.{Files, file_of}
use Rattle.ssim_program.specs.Made.{file_limit}
use Rattle.ssim_program.specs.Offices.{BeganFrom, Began, Brought}
use Rattle.ssim_program.specs.Offices.{Happened, History, HoldsWhatWasBrought, IsIn}
use Rattle.ssim_program.specs.Offices.{OfficesAgree, Then, files_of}
use Rattle.ssim_program.specs.Offices.{origin_of}
use Rattle.ssim_program.specs.Offices as office
use Rattle.ssim_program.proofs.Origins.{comes, same_some}
use Rattle.ssim_program.proofs.SavedDesks.{same_file}
use Rattle.ssim_program.proofs.OfficeFiles.{Holding, IsFounded}
use Rattle.ssim_program.proofs.Offices.{founded, holding, one_desk, reads_of, saved}

module _ (one : OneMessage) (again : CanonicalReadsBack) (one_each : OneReference)
    (no_two : NoTwoDesks) where
  at_beginning : (files : Files) (name : Text)
      → Holding (file_of files name) (Brought (Began files) name)
  at_beginning files name base held (bytes, short, is, desk) r m = (
    λ h. (bytes, is, (base, held, short, desk, h)),
    λ x. let found = x.2 in
        subst (λ (es : List Entry). get (map_of es) r ≡ Some m)
        (one_desk one again one_each no_two (file_of files name) found.0 base found.1 held (x.0, found.2, x.1, found.3)
        (bytes, short, is, desk)).1 found.4,
  )

  each_holds : (history : History) → Happened history → (name : Text)
      → Holding (file_of (files_of history) name) (Brought history name)
  each_holds (Began files) happened name = at_beginning files name
  each_holds (Then history event files) happened name =
      holding one again one_each no_two (files_of history) (Brought history) (each_holds history happened.0)
      (origin_of event name) (file_of files name)
      (comes event (files_of history) files name happened.1)

  each_founded : (history : History) → Happened history → (name : Text) (d s : List ℕ)
      → BeganFrom history name d s
      → IsFounded (file_of (files_of history) name) (Brought history name) d s
  each_founded (Began files) happened name d s (bytes, is, from) =
      saved one again one_each no_two bytes d s (file_of files name) (Brought (Began files) name) is
      (λ r m. (
        λ x. (bytes, is, x),
        λ x. subst (λ (bs : List ℕ). IsIn bs r m)
            (same_some x.0 bytes (sym x.1 ∙ is)) x.2,
      )) from
  each_founded (Then history event files) happened name d s from =
      founded one again one_each no_two (files_of history) (Brought history) (each_holds history happened.0) (BeganFrom history)
      d s (λ other began. each_founded history happened.0 other d s began)
      (origin_of event name) (file_of files name)
      (comes event (files_of history) files name happened.1) from

  pub holds_what_was_brought : HoldsWhatWasBrought
  holds_what_was_brought history name desk happened reads =
      each_holds history happened name desk.base desk.held
      (reads_of one again one_each no_two (files_of history) name desk reads)

  -- two desks over one base with the same messages have one file
  pub offices_agree : SameBytesSameBase → SameBytesSameRows → OfficesAgree
  offices_agree same_base same_rows here there name another happened also brought =
      let mine = each_founded here happened name brought.dataset brought.stations brought.began_one in
      let theirs =
      each_founded there also another brought.dataset brought.stations brought.began_other in
      let records =
      (same_base brought.dataset file_limit file_limit mine.0.records theirs.0.records mine.1.0
      theirs.1.0 mine.1.1 theirs.1.1).0 in
      let rows = same_rows brought.stations mine.0.rows theirs.0.rows mine.1.2 theirs.1.2 in
      let base : mine.0 ≡ theirs.0 = λ i. record { records = records i; rows = rows i } in
      let held =
      same_desk (record { base = mine.0; held = map_of mine.2.held })
      (record { base = theirs.0; held = map_of theirs.2.held }) base
      (λ r m h. (theirs.2.holds r m).1 ((brought.same r m).0 ((mine.2.holds r m).0 h)))
      (λ r m h. (mine.2.holds r m).1 ((brought.same r m).1 ((theirs.2.holds r m).0 h))) in
      let all : keyed mine.2.held ≡ keyed theirs.2.held =
      sym (entries-map_of mine.2.held mine.2.can.entries_are.rising)
      ∙ ap (λ (x : DeskState). entries x.held) held
      ∙ entries-map_of theirs.2.held theirs.2.can.entries_are.rising in
      let files : desk_file mine.0 mine.2.held ≡ desk_file theirs.0 theirs.2.held =
      same_file mine.0 mine.2.held theirs.2.held all
      ∙ ap (λ (b : BaseSeen). desk_file b theirs.2.held) base in (
        desk_file mine.0 mine.2.held,
        mine.2.is,
        theirs.2.is
            ∙ ap (λ (bytes : List ℕ). Some bytes) (sym files),
      )
