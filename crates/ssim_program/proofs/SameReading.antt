-- Equal files are read as one value, or are refused for one reason: a desk file is of one desk, and a
-- data set of one base.
use Rattle.std.proofs.Common.{◌≡◌, ◌∙◌, ◌⊎◌, inl, inr, ℕ, ◌≤◌, ◌<◌, List, [], ◌∷◌, Option, Some, None}
use Rattle.std.proofs.Common.{Ok, Err, length, sym, ap, ap₂, subst, codes, arith}
use Rattle.std.specs.Prelude.{IfSome}
use Rattle.ssim_records.specs.Frames.{FramesAreOne}
use Rattle.ssim_records.specs.declared.record.Record.{Record}
use Rattle.ssim_base.specs.Base.{Outcome}
use Rattle.ssim_base.specs.BaseSeen.{BaseSeen, base_with}
use Rattle.ssim_base.specs.Problems.{HasProblems, SameBytesSameProblems}
use Rattle.ssim_base.specs.Reading.{IsWholeOf, SameBytesSameBase}
use Rattle.ssim_base.specs.declared.fault.BaseFault.{BaseFault}
use Rattle.ssim_base.specs.declared.note.Note.{Note}
use Rattle.ssim_base.specs.declared.problems.Problems.{Problems}
use Rattle.ssim_held.specs.Entries.{DeskSeen, Entry}
use Rattle.ssim_held.specs.File.{IsDeskFile, NoTwoDesks}
use Rattle.ssim_command_line.specs.Line.{Text}
use Rattle.ssim_program.specs.Answer.{Answer}
use Rattle.ssim_program.specs.Desks.{IsNoDeskFile, desk_in, desk_of_file}
use Rattle.ssim_program.specs.EqualFiles.{AreAlike, AreOneRefusal}
use Rattle.ssim_program.specs.Files.{Files}
use Rattle.ssim_program.specs.Made.{HasFile, IsMissing, IsOfBytes, ReadsFile, RefusesFile, RefusesLoad}
use Rattle.ssim_program.specs.Made.{data_set_in, file_in, file_limit, problems_in}
use Rattle.ssim_program.specs.Offices.{IsSameFile}
use Rattle.ssim_program.specs.Timetables.{BeginsAs, ReadsAs, ReadsAsDesk, ReadsTimetable, RefusesAs}
use Rattle.ssim_program.specs.Timetables.{RefusesReading, known_in, no_desk_file, shown_in, timetable_in}
use Rattle.ssim_program.specs.Timetables.{timetable_kind}
use Rattle.ssim_program.specs.declared.explain.file_kind.FileKind.{FileKind}
use Rattle.ssim_program.specs.declared.explain.file_kind.FileKind.TheVariants as kind
use Rattle.ssim_program.specs.print.Refusal.{IsMemory, IsOfFile}
use Rattle.ssim_program.specs.declared.refusal.Refusal.{Refusal}
use Rattle.ssim_program.specs.declared.refusal.Refusal.TheVariants as refused
use Rattle.ssim_program.proofs.Alike.{Equal, then_alike}
use Rattle.ssim_program.proofs.FirstProblem.{fault_in}
use Rattle.ssim_program.proofs.OneOutcome.{one_outcome}
use Rattle.ssim_program.proofs.Origins.{same_some}
use Rattle.ssim_program.proofs.Timetables.{as_timetable, begins_as}

-- desks with one base and the same messages
abbrev pub SameDesk : DeskSeen → DeskSeen → Type 0
SameDesk desk other = (desk.base ≡ other.base) × (desk.held ≡ other.held)

-- files of one kind, and such desks
abbrev pub SameKnown : FileKind × DeskSeen → FileKind × DeskSeen → Type 0
SameKnown known other = (known.0 ≡ other.0) × SameDesk known.1 other.1

-- bytes within the limit are no other bytes
abbrev pub SameWithin : List ℕ → List ℕ → Type 0
SameWithin bytes others = (bytes ≡ others) × (length others ≤ file_limit)

module _ (files others : Files) (name another : Text) (same : IsSameFile files name others another)
  where
    abbrev bytes : List ℕ
    bytes = same.0

    -- ---- loading

    loaded : (mine : List ℕ) → HasFile (Some files) name mine → (mine ≡ bytes)
        × (length bytes ≤ file_limit)
    loaded mine has =
        let is : mine ≡ bytes = same_some mine bytes (sym has.1 ∙ same.1) in
        (is, subst (λ (bs : List ℕ). length bs ≤ file_limit) is has.0)

    loaded_too : (theirs : List ℕ) → HasFile (Some others) another theirs → (theirs ≡ bytes)
        × (length bytes ≤ file_limit)
    loaded_too theirs has =
        let is : theirs ≡ bytes = same_some theirs bytes (sym has.1 ∙ same.2) in
        (is, subst (λ (bs : List ℕ). length bs ≤ file_limit) is has.0)

    not_loaded : (why : Refusal) → length bytes ≤ file_limit → RefusesLoad (Some files) name why
        → IsMemory why
    not_loaded why within (inl memory) = memory
    not_loaded why within (inr (of, missing)) =
        let above : file_limit < length bytes =
        subst (λ (f : Option (List ℕ)). IfSome f (λ b. file_limit < length b)) same.1 missing in
        absurd (omega (arith, above, within))

    not_loaded_too : (that : Refusal) → length bytes ≤ file_limit
        → RefusesLoad (Some others) another that → IsMemory that
    not_loaded_too that within (inl memory) = memory
    not_loaded_too that within (inr (of, missing)) =
        let above : file_limit < length bytes =
        subst (λ (f : Option (List ℕ)). IfSome f (λ b. file_limit < length b)) same.2 missing in
        absurd (omega (arith, above, within))

    neither_loaded : (why that : Refusal) → RefusesLoad (Some files) name why
        → RefusesLoad (Some others) another that → AreOneRefusal why that
    neither_loaded why that (inl memory) q = inl memory
    neither_loaded why that (inr p) (inl memory) = inr (inl memory)
    neither_loaded why that (inr (of, missing)) (inr (of_too, missing_too)) =
        inr (inr (inr (inl ((name, of), (another, of_too)))))

    file_alike : AreAlike SameWithin (file_in (Some files) name) (file_in (Some others) another)
    file_alike = record {
      values = λ mine theirs has has_too. let one = loaded mine has in
          let two = loaded_too theirs has_too in (one.0 ∙ sym two.0, has_too.0);
      refusals = neither_loaded;
      first = λ mine that has refuses. not_loaded_too that (loaded mine has).1 refuses;
      second = λ why theirs refuses has. not_loaded why (loaded_too theirs has).1 refuses;
    }

    -- ---- a desk file

    module _ (no_two : NoTwoDesks) where
      desk_of_alike : (mine theirs : List ℕ) → SameWithin mine theirs
          → AreAlike SameDesk (desk_of_file mine) (desk_of_file theirs)
      desk_of_alike mine theirs (equal, within) = record {
        values = λ desk other is are. no_two theirs desk.base other.base desk.held other.held
            (omega (arith, within))
            (subst (λ (bs : List ℕ). IsDeskFile bs desk.base desk.held) equal is)
            are;
        refusals = λ why that p q. inr (inr (inr (inr ((p.1, p.2), (q.1, q.2)))));
        first = λ desk that is q. absurd
            (q.0 desk.base desk.held
            (subst (λ (bs : List ℕ). IsDeskFile bs desk.base desk.held) equal is));
        second = λ why other p are. absurd
            (p.0 other.base other.held
            (subst (λ (bs : List ℕ). IsDeskFile bs other.base other.held) (sym equal) are));
      }

      pub desk_alike : AreAlike SameDesk (desk_in (Some files) name) (desk_in (Some others) another)
      desk_alike =
          then_alike SameWithin SameDesk (file_in (Some files) name) (file_in (Some others) another)
          desk_of_file desk_of_file file_alike desk_of_alike

    -- ---- a data set

    -- what the bytes of the files are read as
    read_here : (outcome : Outcome) → ReadsFile (Some files) name outcome
        → IsWholeOf file_limit (Some bytes) outcome
    read_here outcome (_, (mine, at, left), read) =
        subst (λ (l : Option (List ℕ)). IsWholeOf file_limit l outcome) (left ∙ sym at ∙ same.1) read

    read_there : (outcome : Outcome) → ReadsFile (Some others) another outcome
        → IsWholeOf file_limit (Some bytes) outcome
    read_there outcome (_, (theirs, at, left), read) =
        subst (λ (l : Option (List ℕ)). IsWholeOf file_limit l outcome) (left ∙ sym at ∙ same.2) read

    module _ (frames : FramesAreOne) (one_base : SameBytesSameBase) where
      -- equal files have one fault, or none
      one_fault : (fault other : BaseFault) → IsOfBytes fault → ReadsFile (Some files) name (Err fault)
          → IsOfBytes other → ReadsFile (Some others) another (Err other) → fault ≡ other
      one_fault fault other of read of_too read_too =
          let here = read_here (Err fault) read in
          let there = read_there (Err other) read_too in
          same_some fault other
          (one_outcome frames bytes (Err fault) (Err other) here.1 here.0 there.0 of of_too)

      set_faults : (why that : Refusal) → RefusesFile (Some files) name why
          → RefusesFile (Some others) another that → AreOneRefusal why that
      set_faults why that (inl p) (inl q) = neither_loaded why that p q
      set_faults why that (inl p) (inr (fault, is, of, read)) =
          inl (not_loaded why (read_there (Err fault) read).1 p)
      set_faults why that (inr (fault, is, of, read)) (inl q) =
          inr (inl (not_loaded_too that (read_here (Err fault) read).1 q))
      set_faults why that (inr (fault, is, of, read)) (inr (other, are, of_too, read_too)) =
          inr (inr (inl (is ∙ ap refused.DataSet (one_fault fault other of read of_too read_too)
          ∙ sym are)))

      not_here : (set : List Record × List Note) (fault : BaseFault) → IsOfBytes fault
          → ReadsFile (Some files) name (Err fault) → ReadsFile (Some others) another (Ok set) → ⊥
      not_here set fault of read is =
          let here = read_here (Err fault) read in
          let there = read_there (Ok set) is in
          let one : Some fault ≡ None =
          one_outcome frames bytes (Err fault) (Ok set) here.1 here.0 there.0 of tt in absurd cc

      not_there : (set : List Record × List Note) (fault : BaseFault) → IsOfBytes fault
          → ReadsFile (Some files) name (Ok set) → ReadsFile (Some others) another (Err fault) → ⊥
      not_there set fault of is read =
          let here = read_here (Ok set) is in
          let there = read_there (Err fault) read in
          let one : None ≡ Some fault =
          one_outcome frames bytes (Ok set) (Err fault) here.1 here.0 there.0 tt of in absurd cc

      set_first : (set : List Record × List Note) (that : Refusal)
          → ReadsFile (Some files) name (Ok set)
          → RefusesFile (Some others) another that → IsMemory that
      set_first set that is (inl q) = not_loaded_too that (read_here (Ok set) is).1 q
      set_first set that is (inr (fault, are, of, read)) = absurd (not_there set fault of is read)

      set_second : (why : Refusal) (set : List Record × List Note) → RefusesFile (Some files) name why
          → ReadsFile (Some others) another (Ok set) → IsMemory why
      set_second why set (inl p) is = not_loaded why (read_there (Ok set) is).1 p
      set_second why set (inr (fault, are, of, read)) is = absurd (not_here set fault of read is)

      one_set : (set that : List Record × List Note) → ReadsFile (Some files) name (Ok set)
          → ReadsFile (Some others) another (Ok that) → (set.0 ≡ that.0) × (set.1 ≡ that.1)
      one_set set that is are =
          one_base bytes file_limit file_limit set.0 that.0 set.1 that.1 (read_here (Ok set) is).0
          (read_there (Ok that) are).0

      pub data_set_alike : AreAlike (λ set that. (set.0 ≡ that.0) × (set.1 ≡ that.1))
          (data_set_in (Some files) name) (data_set_in (Some others) another)
      data_set_alike =
          record { values = one_set; refusals = set_faults; first = set_first; second = set_second }

      -- ---- a timetable

      kind_here : (k : FileKind) → BeginsAs k (Some files) name → timetable_kind bytes ≡ k
      kind_here k is = subst (λ (f : Option (List ℕ)). IfSome f (λ b. timetable_kind b ≡ k)) same.1 is

      kind_there : (k : FileKind) → BeginsAs k (Some others) another → timetable_kind bytes ≡ k
      kind_there k is = subst (λ (f : Option (List ℕ)). IfSome f (λ b. timetable_kind b ≡ k)) same.2 is

      two_kinds : kind.Desk ≡ kind.DataSet → ⊥
      two_kinds h = absurd cc

      desk_loaded : (desk : DeskSeen) → desk_in (Some files) name (Ok desk) → length bytes ≤ file_limit
      desk_loaded desk (mine, has, is) = (loaded mine has).1

      desk_loaded_too : (desk : DeskSeen) → desk_in (Some others) another (Ok desk)
          → length bytes ≤ file_limit
      desk_loaded_too desk (theirs, has, is) = (loaded_too theirs has).1

      module _ (no_two : NoTwoDesks) where
        one_timetable : (desk other : DeskSeen) → ReadsTimetable (Some files) name desk
            → ReadsTimetable (Some others) another other → SameDesk desk other
        one_timetable desk other (inl (begins, is)) (inl (begins_too, are)) =
            (desk_alike no_two).values desk other is are
        one_timetable desk other (inl (begins, is)) (inr (begins_too, are)) =
            absurd (two_kinds (sym (kind_here kind.Desk begins) ∙ kind_there kind.DataSet begins_too))
        one_timetable desk other (inr (begins, is)) (inl (begins_too, are)) =
            absurd (two_kinds (sym (kind_there kind.Desk begins_too) ∙ kind_here kind.DataSet begins))
        one_timetable desk other (inr (begins, (records, notes, read, base, held)))
            (inr (begins_too, (these, noted, reads, base_too, none))) =
            let equal = one_set (records, notes) (these, noted) read reads in
            (base ∙ ap (λ (rs : List Record). base_with rs []) equal.0 ∙ sym base_too, held ∙ sym none)

        reading_first : (desk : DeskSeen) (that : Refusal) → ReadsTimetable (Some files) name desk
            → RefusesReading (Some others) another that → IsMemory that
        reading_first desk that (inl (begins, is)) (inl q) =
            not_loaded_too that (desk_loaded desk is) q
        reading_first desk that (inl (begins, is)) (inr (begins_too, q)) =
            (desk_alike no_two).first desk that is q
        reading_first desk that (inr (begins, (records, notes, read, base, held))) (inl q) =
            not_loaded_too that (read_here (Ok (records, notes)) read).1 q
        reading_first desk that (inr (begins, is)) (inr (begins_too, q)) =
            absurd (two_kinds (sym (kind_there kind.Desk begins_too) ∙ kind_here kind.DataSet begins))

        reading_second : (why : Refusal) (other : DeskSeen) → RefusesReading (Some files) name why
            → ReadsTimetable (Some others) another other → IsMemory why
        reading_second why other (inl p) (inl (begins_too, are)) =
            not_loaded why (desk_loaded_too other are) p
        reading_second why other (inr (begins, p)) (inl (begins_too, are)) =
            (desk_alike no_two).second why other p are
        reading_second why other (inl p) (inr (begins_too, (records, notes, read, base, held))) =
            not_loaded why (read_there (Ok (records, notes)) read).1 p
        reading_second why other (inr (begins, p)) (inr (begins_too, are)) =
            absurd (two_kinds (sym (kind_here kind.Desk begins) ∙ kind_there kind.DataSet begins_too))

        -- a file that is not loaded has no other refusal, but for memory
        unread_desk : (why that : Refusal) → RefusesLoad (Some files) name why
            → desk_in (Some others) another (Err that) → AreOneRefusal why that
        unread_desk why that p (inl q) = neither_loaded why that p q
        unread_desk why that p (inr (theirs, has, q)) =
            inl (not_loaded why (loaded_too theirs has).1 p)

        desk_unread : (why that : Refusal) → desk_in (Some files) name (Err why)
            → RefusesLoad (Some others) another that → AreOneRefusal why that
        desk_unread why that (inl p) q = neither_loaded why that p q
        desk_unread why that (inr (mine, has, p)) q =
            inr (inl (not_loaded_too that (loaded mine has).1 q))

        readings : (why that : Refusal) → RefusesReading (Some files) name why
            → RefusesReading (Some others) another that → AreOneRefusal why that
        readings why that (inl p) (inl q) = neither_loaded why that p q
        readings why that (inl p) (inr (begins_too, q)) = unread_desk why that p q
        readings why that (inr (begins, p)) (inl q) = desk_unread why that p q
        readings why that (inr (begins, p)) (inr (begins_too, q)) =
            (desk_alike no_two).refusals why that p q

        module _ (refusal_of : BaseFault → Refusal) where
          first : (desk : DeskSeen) (that : Refusal) → ReadsTimetable (Some files) name desk
              → RefusesAs refusal_of (Some others) another that → IsMemory that
          first desk that is (inl q) = reading_first desk that is q
          first desk that (inl (begins, is)) (inr (fault, (begins_too, of, read), are)) =
              absurd (two_kinds (sym (kind_here kind.Desk begins)
              ∙ kind_there kind.DataSet begins_too))
          first desk that (inr (begins, (records, notes, is, base, held)))
              (inr (fault, (begins_too, of, read), are)) =
              absurd (not_there (records, notes) fault of is read)

          second : (why : Refusal) (other : DeskSeen) → RefusesAs refusal_of (Some files) name why
              → ReadsTimetable (Some others) another other → IsMemory why
          second why other (inl p) are = reading_second why other p are
          second why other (inr (fault, (begins, of, read), is)) (inl (begins_too, are)) =
              absurd (two_kinds (sym (kind_there kind.Desk begins_too)
              ∙ kind_here kind.DataSet begins))
          second why other (inr (fault, (begins, of, read), is))
              (inr (begins_too, (records, notes, are, base, held))) =
              absurd (not_here (records, notes) fault of read are)

          -- a file that is not read to its end has no fault of its bytes
          faults : (why that : Refusal) → RefusesAs refusal_of (Some files) name why
              → RefusesAs refusal_of (Some others) another that → AreOneRefusal why that
          faults why that (inl p) (inl q) = readings why that p q
          faults why that (inl (inl p)) (inr (fault, (begins_too, of, read), are)) =
              inl (not_loaded why (read_there (Err fault) read).1 p)
          faults why that (inl (inr (begins, p))) (inr (fault, (begins_too, of, read), are)) =
              absurd (two_kinds (sym (kind_here kind.Desk begins)
              ∙ kind_there kind.DataSet begins_too))
          faults why that (inr (fault, (begins, of, read), is)) (inl (inl q)) =
              inr (inl (not_loaded_too that (read_here (Err fault) read).1 q))
          faults why that (inr (fault, (begins, of, read), is)) (inl (inr (begins_too, q))) =
              absurd (two_kinds (sym (kind_there kind.Desk begins_too)
              ∙ kind_here kind.DataSet begins))
          faults why that (inr (fault, (begins, of, read), is))
              (inr (other, (begins_too, of_too, read_too), are)) =
              inr (inr (inl (is ∙ ap refusal_of (one_fault fault other of read of_too read_too)
              ∙ sym are)))

        pub timetable_alike : AreAlike SameDesk (timetable_in (Some files) name)
            (timetable_in (Some others) another)
        timetable_alike = record {
          values = one_timetable;
          refusals = faults refused.DataSet;
          first = first refused.DataSet;
          second = second refused.DataSet;
        }

        one_known : (known other : FileKind × DeskSeen) → ReadsAs known.0 (Some files) name known.1
            → ReadsAs other.0 (Some others) another other.1 → SameKnown known other
        one_known known other is are = (
          sym (kind_here known.0 (begins_as known.0 (Some files) name known.1 is))
              ∙ kind_there other.0 (begins_as other.0 (Some others) another other.1 are),
          one_timetable known.1 other.1 (as_timetable known.0 (Some files) name known.1 is)
              (as_timetable other.0 (Some others) another other.1 are),
        )

        pub known_alike : AreAlike SameKnown (known_in (Some files) name) (known_in (Some others) another)
        known_alike = record {
          values = one_known;
          refusals = faults refused.DataSet;
          first = λ known that is. first refused.DataSet known.1 that
              (as_timetable known.0 (Some files) name known.1 is);
          second = λ why other p are. second refused.DataSet why other.1 p
              (as_timetable other.0 (Some others) another other.1 are);
        }

        pub shown_alike : AreAlike SameDesk (shown_in (Some files) name)
            (shown_in (Some others) another)
        shown_alike = record {
          values = one_timetable;
          refusals = faults no_desk_file;
          first = first no_desk_file;
          second = second no_desk_file;
        }

    -- ---- the problems of a data set

    pub problems_alike : SameBytesSameProblems
        → AreAlike (λ p q. (p.records ≡ q.records) × (p.faults.items ≡ q.faults.items))
        (problems_in (Some files) name) (problems_in (Some others) another)
    problems_alike one = record {
      values = λ p q (_, (mine, at, left), found) (_, (theirs, at_too, left_too), also).
          let here =
          subst (λ (l : Option (List ℕ)). HasProblems file_limit l p) (left ∙ sym at ∙ same.1) found
          in
          let there =
          subst (λ (l : Option (List ℕ)). HasProblems file_limit l q) (left_too ∙ sym at_too
          ∙ same.2) also in
          one bytes p q here.1 there.1;
      refusals = neither_loaded;
      first = λ p that (_, (mine, at, left), found) q.
          not_loaded_too that (subst (λ (l : Option (List ℕ)). HasProblems file_limit l p)
          (left ∙ sym at
          ∙ same.1) found).0 q;
      second = λ why q p (_, (theirs, at, left), found).
          not_loaded why (subst (λ (l : Option (List ℕ)). HasProblems file_limit l q) (left ∙ sym at
          ∙ same.2) found).0 p;
    }
