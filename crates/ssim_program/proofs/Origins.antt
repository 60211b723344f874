-- What the file of a name is after an event, by where it comes from.
use Rattle.std.proofs.Common.{◌≡◌, ◌∙◌, ℕ, Bool, true, false, if◌then◌else◌, List, [], ◌∷◌, Option}
use Rattle.std.proofs.Common.{Some, None, Ok, refl, sym, ap, subst, option_map, find}
use Rattle.std.specs.Str.{bytes_eq}
use Rattle.ssim_base.specs.BaseSeen.{BaseSeen}
use Rattle.ssim_base.specs.SavedBase.{IsBaseRecords}
use Rattle.ssim_base.specs.Stations.{Row, SpellsTable}
use Rattle.ssim_base.specs.declared.note.Note.{Note}
use Rattle.ssim_records.specs.declared.record.Record.{Record}
use Rattle.ssim_held.specs.Entries.{AreRising, DeskSeen}
use Rattle.ssim_held.specs.File.{desk_file}
use Rattle.ssim_program.specs.Acts.{Act, kept_by}
use Rattle.ssim_program.specs.Carrying.{IsCarryOf}
use Rattle.ssim_program.specs.Desks.{IsMergeOf, desk_in}
use Rattle.ssim_program.specs.internal.Take.{TakesTexts}
use Rattle.ssim_program.specs.Files.{Files, Kept, file_of, with_kept}
use Rattle.ssim_command_line.specs.Line.{Text}
use Rattle.ssim_program.specs.Made.{HasFile, ReadsFile, base_in}
use Rattle.ssim_program.specs.MergingSince.{IsOver, IsWithoutWithdrawn, held_by, older_in}
use Rattle.ssim_program.specs.Offices.{Event, StartKept, TakeKept, ReceiveKept, MergeKept, CarryKept}
use Rattle.ssim_program.specs.Offices.{MergeSinceKept, MergedSince}
use Rattle.ssim_program.specs.Offices.{WithdrawKept, Unchanged, Copied, Came, AllCame, origin_among}
use Rattle.ssim_program.specs.Offices.{Leaves, Origin, Was, Started, Took, Merged, Carried, Withdrew}
use Rattle.ssim_program.specs.Offices.{Given, origin_of}
use Rattle.ssim_program.specs.Offices.{IsReceived, TookSome, origin_of_refused}
use Rattle.ssim_program.specs.Withdrawing.{WithdrawsFrom}
use Rattle.ssim_program.specs.Receiving.{Receipt, ReceivesEach, received_files, refused_texts}
use Rattle.ssim_program.proofs.Taking.{are_taken}

-- a base was read: its records from a data set, its rows from a station table
pub record IsBaseFrom (files : Option Files) (dataset stations : Text) (base : BaseSeen) : Type 0 where
  pub notes : List Note
  pub read : ReadsFile files dataset (Ok (base.records, notes))
  pub table : List ℕ
  pub has : HasFile files stations table
  pub spells : SpellsTable base.rows table

pub read_from : (files : Option Files) (dataset stations : Text) (base : BaseSeen)
    → base_in files dataset stations (Ok base) → IsBaseFrom files dataset stations base
read_from files dataset stations base (bytes, there, (table, has, (rows, spells, (set, read, is)))) =
    record {
      notes = set.1;
      read = subst (λ (rs : List Record). ReadsFile files dataset (Ok (rs, set.1)))
          (sym (ap (λ (b : BaseSeen). b.records) is)) read;
      table = table;
      has = has;
      spells = subst (λ (rs : List Row). SpellsTable rs table) (sym (ap (λ (b : BaseSeen). b.rows) is))
          spells;
    }

-- the desk is that of two desk files, merged since an older one
pub record IsSinceMerge (files : Files) (since one other : Text) (after : DeskSeen) : Type 0 where
  pub old : Option DeskSeen
  pub mine : DeskSeen
  pub theirs : DeskSeen
  pub left : DeskSeen
  pub brought : DeskSeen
  pub older : older_in (Some files) since (Ok old)
  pub here : desk_in (Some files) one (Ok mine)
  pub there : desk_in (Some files) other (Ok theirs)
  pub over : IsOver old mine
  pub without : IsWithoutWithdrawn (held_by old) theirs mine left
  pub without_too : IsWithoutWithdrawn (held_by old) mine theirs brought
  pub merge : IsMergeOf left brought after
  pub rising : AreRising after.held

-- what the file of a name is, by where it comes from
abbrev pub Comes : Origin → Files → Option (List ℕ) → Type 0
Comes (Was name) files file = file ≡ file_of files name
Comes (Started dataset stations) files file =
    (base : BaseSeen) × base_in (Some files) dataset stations (Ok base) × IsBaseRecords base.records
    × (file ≡ Some (desk_file base []))
Comes (Took desk texts) files file =
    (before : DeskSeen) × (after : DeskSeen) × (printed : List ℕ)
    × desk_in (Some files) desk (Ok before) × TakesTexts (Some files) texts before after printed
    × AreRising after.held
    × (file ≡ Some (desk_file after.base after.held))
Comes (TookSome desk names receipts) files file =
    (before : DeskSeen) × (after : DeskSeen) × desk_in (Some files) desk (Ok before)
    × ReceivesEach (Some files) names before receipts after × AreRising after.held
    × (file ≡ Some (desk_file after.base after.held))
Comes (Merged one other) files file =
    (mine : DeskSeen) × (theirs : DeskSeen) × (after : DeskSeen) × desk_in (Some files) one (Ok mine)
    × desk_in (Some files) other (Ok theirs) × IsMergeOf mine theirs after × AreRising after.held
    × (file ≡ Some (desk_file after.base after.held))
Comes (MergedSince since one other) files file =
    (after : DeskSeen) × IsSinceMerge files since one other after
    × (file ≡ Some (desk_file after.base after.held))
Comes (Carried one other) files file =
    (mine : DeskSeen) × (theirs : DeskSeen) × (after : DeskSeen) × (lines : List ℕ)
    × desk_in (Some files) one (Ok mine) × desk_in (Some files) other (Ok theirs)
    × IsCarryOf mine theirs after lines × AreRising after.held
    × (file ≡ Some (desk_file after.base after.held))
Comes (Withdrew desk references) files file =
    (before : DeskSeen) × (after : DeskSeen) × (printed : List ℕ)
    × desk_in (Some files) desk (Ok before) × WithdrawsFrom references before after printed
    × AreRising after.held
    × (file ≡ Some (desk_file after.base after.held))
Comes (Given bytes) files file = file ≡ Some bytes

-- ---- files after one was kept

-- the file of a name after a file was kept
pub kept_file : (out name : Text) (bytes : List ℕ) (files : Files)
    → file_of ((out, bytes) ∷ files)
    name ≡ (if bytes_eq out name then Some bytes else file_of files name)
kept_file out name bytes files = by (bytes_eq out name)
  where
    by : (b : Bool)
        → option_map (λ (f : List ℕ × List ℕ). f.1)
        (if b then Some (out, bytes) else find (λ (f : List ℕ × List ℕ). bytes_eq f.0 name)
        files) ≡ (if b then Some bytes else file_of files name)
    by true = refl
    by false = refl

-- the file under the new name comes from there, and each other file from where it came before
written_over : (out name : Text) (bytes : List ℕ) (old mid new : Files) (origin other : Origin)
    → new ≡ (out, bytes) ∷ mid → Comes origin old (Some bytes) → Comes other old (file_of mid name)
    → Comes (if bytes_eq out name then origin else other) old (file_of new name)
written_over out name bytes old mid new origin other is comes before =
    subst (Comes (if bytes_eq out name then origin else other) old)
    (sym (ap (λ (all : Files). file_of all name) is ∙ kept_file out name bytes mid))
    (by (bytes_eq out name))
  where
    by : (b : Bool)
        → Comes (if b then origin else other) old (if b then Some bytes else file_of mid name)
    by true = comes
    by false = before

-- the file under the new name comes from there, and each other file is as it was
written : (out name : Text) (bytes : List ℕ) (old new : Files) (origin : Origin)
    → new ≡ (out, bytes) ∷ old → Comes origin old (Some bytes)
    → Comes (if bytes_eq out name then origin else Was name) old (file_of new name)
written out name bytes old new origin is comes =
    written_over out name bytes old old new origin (Was name) is comes refl

pub same_some : {A : Type 0} (x y : A) → Some x ≡ Some y → x ≡ y
same_some x y e = cc

-- a file was kept
with_file : (out : Text) (bytes : List ℕ) (acts : List Act) (old new : Files)
    → kept_by acts ≡ (out, bytes) ∷ [] → Some new ≡ with_kept (kept_by acts) (Some old)
    → new ≡ (out, bytes) ∷ old
with_file out bytes acts old new some is =
    same_some new ((out, bytes) ∷ old) (is ∙ ap (λ (k : Kept). with_kept k (Some old)) some)

-- ---- by the event

received_comes : (refused : Option Text) (desk out : Text) (names : List Text)
    (receipts : List Receipt) (old new : Files) (name : Text)
    → IsReceived refused desk out names receipts old new
    → Comes (origin_of (ReceiveKept refused desk out names receipts) name) old (file_of new name)
received_comes refused desk out names receipts old new name
    (after, (before, reads, (each, rising)), is) = by refused is
  where
    bytes : List ℕ
    bytes = desk_file after.base after.held

    desk_comes : Comes (TookSome desk names receipts) old (Some bytes)
    desk_comes = (before, after, reads, each, rising, refl)

    by : (r : Option Text)
        → Some new ≡ with_kept (kept_by (received_files r out receipts after)) (Some old)
        → Comes (if bytes_eq out name then TookSome desk names receipts else origin_of_refused r
        (refused_texts receipts) name) old (file_of new name)
    by None all =
        written out name bytes old new (TookSome desk names receipts)
        (same_some new ((out, bytes) ∷ old) all) desk_comes
    by (Some other) all =
        let texts = refused_texts receipts in
        let mid : Files = (other, texts) ∷ old in
        written_over out name bytes old mid new (TookSome desk names receipts)
        (origin_of_refused (Some other) texts name) (same_some new ((out, bytes) ∷ mid) all)
        desk_comes (written other name texts old mid (Given texts) refl refl)

-- several files have come
all_came : (files : Kept) (now new : Files) (name : Text) (origin : Origin) (old : Files)
    → Some new ≡ with_kept files (Some now) → Comes origin old (file_of now name)
    → Comes (origin_among files name origin) old (file_of new name)
all_came [] now new name origin old is was =
    subst (λ (all : Files). Comes origin old (file_of all name)) (sym (some-is is)) was
  where
    some-is : {A : Type 0} {a b : A} → Some a ≡ Some b → a ≡ b
    some-is same = cc
all_came (file ∷ later) now new name origin old is was =
    all_came later (file ∷ now) new name (if bytes_eq file.0 name then Given file.1 else origin) old is
    (written_over file.0 name file.1 old now (file ∷ now) (Given file.1) origin refl refl was)

pub comes : (event : Event) (old new : Files) (name : Text) → Leaves event old new
    → Comes (origin_of event name) old (file_of new name)
comes (StartKept dataset stations out) old new name
    (acts, (_, may, (base, read, (records, are))), whole, is) =
    let bytes = desk_file base [] in
    written out name bytes old new (Started dataset stations)
    (with_file out bytes acts old new (ap kept_by are) is) (base, read, records, refl)
comes (TakeKept desk out texts) old new name (acts, (_, may, (before, read, takes)), whole, is) =
    let taken = are_taken (Some old) false before out texts before acts takes whole in
    let bytes = desk_file taken.after.base taken.after.held in
    written out name bytes old new (Took desk texts) (with_file out bytes acts old new taken.is is)
    (before, taken.after, taken.printed, read, taken.takes, taken.rising, refl)
comes (ReceiveKept refused desk out names receipts) old new name leaves =
    received_comes refused desk out names receipts old new name leaves
comes (MergeKept one other out) old new name
    (acts, (_, may, (mine, read, (theirs, reads, (after, is_merge, (rising, are))))), whole, is) =
    let bytes = desk_file after.base after.held in
    written out name bytes old new (Merged one other)
    (with_file out bytes acts old new (ap kept_by are) is)
    (mine, theirs, after, read, reads, is_merge, rising, refl)
comes (MergeSinceKept since one other out) old new name (
  acts,
  (
    _,
    may,
    (
      first,
      older,
      (
        mine,
        read,
        (
          theirs,
          reads,
          (
            _,
            over,
            (after, (left, stays, (brought, comes_too, is_merge)), (rising, are)),
          ),
        ),
      ),
    ),
  ),
  whole,
  is,
) =
    let bytes = desk_file after.base after.held in
    written out name bytes old new (MergedSince since one other)
    (with_file out bytes acts old new (ap kept_by are) is) (
      after,
      record {
        old = first;
        mine = mine;
        theirs = theirs;
        left = left;
        brought = brought;
        older = older;
        here = read;
        there = reads;
        over = over;
        without = stays;
        without_too = comes_too;
        merge = is_merge;
        rising = rising;
      },
      refl,
    )
comes (CarryKept one other out) old new name (
  acts,
  (_, may, (mine, read, (theirs, reads, (_, alike, (made, is_carry, (rising, are)))))),
  whole,
  is,
) =
    let after = made.0 in
    let bytes = desk_file after.base after.held in
    written out name bytes old new (Carried one other)
    (with_file out bytes acts old new (ap kept_by are) is)
    (mine, theirs, after, made.1, read, reads, is_carry, rising, refl)
comes (WithdrawKept desk out references) old new name
    (acts, (_, may, (before, read, (left, withdraws, (rising, are)))), whole, is) =
    let after = left.0 in
    let bytes = desk_file after.base after.held in
    written out name bytes old new (Withdrew desk references)
    (with_file out bytes acts old new (ap kept_by are) is)
    (before, after, left.1, read, withdraws, rising, refl)
comes Unchanged old new name leaves = ap (λ (all : Files). file_of all name) leaves
comes (Copied from to) old new name (bytes, is, all) =
    written to name bytes old new (Was from) all (sym is)
comes (Came other bytes) old new name leaves =
    written other name bytes old new (Given bytes) leaves refl
comes (AllCame files) old new name leaves = all_came files old new name (Was name) old leaves refl
