-- A file that a command holds stays as the command read it. So what holds of a history with one
-- command holds of each command in turn.
use Rattle.std.proofs.Common.{◌≡◌, ◌∙◌, ◌⊎◌, ◌↔◌, ◌==◌, inl, inr, ℕ, Bool, true, false, if◌then◌else◌}
use Rattle.std.proofs.Common.{List, [], ◌∷◌, ◌++◌, Option, Some, None, refl, sym, ap, subst, Ok}
use Rattle.std.proofs.lemmas.Slice.Eq.{bytes_eq-Decides}
use Rattle.std.specs.Str.{bytes_eq}
use Rattle.ssim_text.specs.Message.{MessageValue}
use Rattle.ssim_text.specs.declared.reference.Reference.{Reference}
use Rattle.ssim_held.specs.Entries.{DeskSeen, state_of}
use Rattle.ssim_held.specs.Held.{Holds as HoldsMessage}
use Rattle.ssim_command_line.specs.Line.{Text}
use Rattle.ssim_program.specs.Desks.{desk_in}
use Rattle.ssim_program.specs.Files.{Files, file_of}
use Rattle.ssim_program.specs.Offices.{Began, Bringing, Brought, BroughtBy, Event, HoldsWhatWasBrought}
use Rattle.ssim_program.specs.Offices.{IsIn, Origin, Then, origin_of}
use Rattle.ssim_program.specs.Offices as office
use Rattle.ssim_program.specs.Turns.{AllLeaveMessage, AreAllowed, Brings, BroughtInTurn, BroughtToRead}
use Rattle.ssim_program.specs.Turns.{Chosen, Comes, Ends, Holds, HoldsWhatCameInTurn, Keeps}
use Rattle.ssim_program.specs.Turns.{LeavesMessage, Messages, NothingHeldIsLost, NothingTakenIsLost}
use Rattle.ssim_program.specs.Turns.{Reads, Step, TakesTurns, file_read, files_after, holder_of}
use Rattle.ssim_program.specs.Turns.{read_by, released}
use Rattle.ssim_program.proofs.Origins as origins

-- ---- names

same_name : (one other : Text) → bytes_eq one other ≡ true → one ≡ other
same_name one other = (bytes_eq-Decides one other).0

itself : (name : Text) → bytes_eq name name ≡ true
itself name = (bytes_eq-Decides name name).1 refl

-- a file that comes first is the one of its name
here : (other name : Text) (bytes : List ℕ) (files : Files) → bytes_eq other name ≡ true
    → file_of ((other, bytes) ∷ files) name ≡ Some bytes
here other name bytes files same =
    origins.kept_file other name bytes files
    ∙ ap (λ (b : Bool). if b then Some bytes else file_of files name) same

-- and a file of another name is as it was
there : (other name : Text) (bytes : List ℕ) (files : Files) → bytes_eq other name ≡ false
    → file_of ((other, bytes) ∷ files) name ≡ file_of files name
there other name bytes files apart =
    origins.kept_file other name bytes files
    ∙ ap (λ (b : Bool). if b then Some bytes else file_of files name) apart

-- ---- one more file was read

-- what is among the files that were read was read last, or before
read_last : (n m : ℕ) (other name : Text) (files : Files) (earlier : List Step) (read : List ℕ)
    → file_of (read_by n files (Reads m other ∷ earlier)) name ≡ Some read
    → (file_of (files_after files earlier) name ≡ Some read)
    ⊎ (file_of (read_by n files earlier) name ≡ Some read)
read_last n m other name files earlier read is = by (m == n) is
  where
    found : (bytes : List ℕ) (b : Bool) → bytes_eq other name ≡ b
        → file_of (files_after files earlier) other ≡ Some bytes
        → file_of ((other, bytes) ∷ read_by n files earlier) name ≡ Some read
        → (file_of (files_after files earlier) name ≡ Some read)
        ⊎ (file_of (read_by n files earlier) name ≡ Some read)
    found bytes true same now h =
        inl (subst (λ (x : Text). file_of (files_after files earlier) x ≡ Some read)
        (same_name other name same) (now
        ∙ sym (here other name bytes (read_by n files earlier) same) ∙ h))
    found bytes false apart now h =
        inr (sym (there other name bytes (read_by n files earlier) apart) ∙ h)

    by_file : (file : Option (List ℕ)) → file_of (files_after files earlier) other ≡ file
        → file_of (file_read other file ++ read_by n files earlier) name ≡ Some read
        → (file_of (files_after files earlier) name ≡ Some read)
        ⊎ (file_of (read_by n files earlier) name ≡ Some read)
    by_file None now h = inr h
    by_file (Some bytes) now h = found bytes (bytes_eq other name) refl now h

    by : (b : Bool)
        → file_of ((if b then file_read other (file_of (files_after files earlier) other) else []) ++
        read_by n files earlier) name ≡ Some read
        → (file_of (files_after files earlier) name ≡ Some read)
        ⊎ (file_of (read_by n files earlier) name ≡ Some read)
    by true h = by_file (file_of (files_after files earlier) other) refl h
    by false h = inr h

-- ---- a file that was read is there

now_there : (other name : Text) (bytes : List ℕ) (files : Files)
    → file_of ((other, bytes) ∷ files) name ≡ None → file_of files name ≡ None
now_there other name bytes files none = by (bytes_eq other name) refl
  where
    by : (b : Bool) → bytes_eq other name ≡ b → file_of files name ≡ None
    by true same =
        absurd (let never : Some bytes ≡ None = sym (here other name bytes files same) ∙ none in cc)
    by false apart = sym (there other name bytes files apart) ∙ none

still_there : (n : ℕ) (name : Text) (files : Files) (steps : List Step) (read : List ℕ)
    → file_of (read_by n files steps) name ≡ Some read → file_of (files_after files steps) name ≡ None
    → ⊥
still_there n name files [] read is none = let never : None ≡ Some read = is in absurd cc
still_there n name files (Holds m other ∷ earlier) read is none =
    still_there n name files earlier read is none
still_there n name files (Reads m other ∷ earlier) read is none =
    elim (read_last n m other name files earlier read is) [
      | inl now ↦ let never : None ≡ Some read = sym none ∙ now in absurd cc
      | inr before ↦ still_there n name files earlier read before none
    ]
still_there n name files (Keeps m other bytes ∷ earlier) read is none =
    still_there n name files earlier read is
    (now_there other name bytes (files_after files earlier) none)
still_there n name files (Ends m ∷ earlier) read is none =
    still_there n name files earlier read is none
still_there n name files (Comes other bytes ∷ earlier) read is none =
    still_there n name files earlier read is
    (now_there other name bytes (files_after files earlier) none)

-- ---- a file that is held stays as it was read

held_before : (n m : ℕ) (holder : Option ℕ) → released m holder ≡ Some n → holder ≡ Some n
held_before n m None h = h
held_before n m (Some k) h = by (k == m) h
  where
    by : (b : Bool) → (if b then None else Some k) ≡ Some n → Some k ≡ Some n
    by true never = absurd (let no : None ≡ Some n = never in cc)
    by false same = same

module _ (events : ℕ → Event) (files : Files) (n : ℕ) (name : Text) where
  -- a file is put under some name
  put : (other : Text) (bytes : List ℕ) (earlier : List Step) (read : List ℕ)
      → (holder_of name earlier ≡ Some n → file_of (files_after files earlier) name ≡ Some read)
      → (if bytes_eq other name then None else holder_of name earlier) ≡ Some n
      → file_of ((other, bytes) ∷ files_after files earlier) name ≡ Some read
  put other bytes earlier read stayed = by (bytes_eq other name) refl
    where
      by : (b : Bool) → bytes_eq other name ≡ b → (if b then None else holder_of name earlier) ≡ Some n
          → file_of ((other, bytes) ∷ files_after files earlier) name ≡ Some read
      by true same h = let never : None ≡ Some n = h in absurd cc
      by false apart h = there other name bytes (files_after files earlier) apart ∙ stayed h

  stays : (steps : List Step) → AreAllowed events files steps → holder_of name steps ≡ Some n
      → (read : List ℕ) → file_of (read_by n files steps) name ≡ Some read
      → file_of (files_after files steps) name ≡ Some read
  stays [] allowed held read is = let never : None ≡ Some n = held in absurd cc
  stays (Holds m other ∷ earlier) allowed held read is =
      by (bytes_eq other name) held (λ h. stays earlier allowed.0 h read is)
    where
      by : (b : Bool) → (if b then Some m else holder_of name earlier) ≡ Some n
          → (holder_of name earlier ≡ Some n → file_of (files_after files earlier) name ≡ Some read)
          → file_of (files_after files earlier) name ≡ Some read
      by true h stayed =
          let same : m ≡ n = origins.same_some m n h in
          let nothing : read_by n files earlier ≡ [] =
          subst (λ (k : ℕ). read_by k files earlier ≡ []) same allowed.1.1 in
          let never : None ≡ Some read = sym (ap (λ (all : Files). file_of all name) nothing) ∙ is in
          absurd cc
      by false h stayed = stayed h
  stays (Reads m other ∷ earlier) allowed held read is =
      elim (read_last n m other name files earlier read is) [
        | inl now ↦ now
        | inr before ↦ stays earlier allowed.0 held read before
      ]
  stays (Keeps m other bytes ∷ earlier) allowed held read is =
      put other bytes earlier read (λ h. stays earlier allowed.0 h read is) held
  stays (Ends m ∷ earlier) allowed held read is =
      stays earlier allowed.0 (held_before n m (holder_of name earlier) held) read is
  stays (Comes other bytes ∷ earlier) allowed held read is =
      put other bytes earlier read (λ h. stays earlier allowed.0 h read is) held

pub takes_turns : TakesTurns
takes_turns events files earlier n name bytes read allowed is = elim allowed.1.0 [
  | inl held ↦ stays events files n name earlier allowed.0 held read is
  | inr none ↦ absurd (still_there n name files earlier read is none)
]

-- ---- what one command brings

-- a desk is read of a file with the same bytes
reads_same : (one other : Files) (name another : Text) (desk : DeskSeen)
    → file_of other another ≡ file_of one name → desk_in (Some one) name (Ok desk)
    → desk_in (Some other) another (Ok desk)
reads_same one other name another desk same (bytes, has, is) = (bytes, (has.0, same ∙ has.1), is)

-- a command brings no less if more was brought before
brings_more : (origin : Origin) (read : Files) (less more : Bringing) (r : Reference)
    (m : MessageValue) → ((other : Text) → less other r m → more other r m)
    → BroughtBy origin read less r m → BroughtBy origin read more r m
brings_more (office.Was other) read less more r m each b = each other b
brings_more (office.Started dataset stations) read less more r m each b = b
brings_more (office.Took desk texts) read less more r m each (inl b) = inl (each desk b)
brings_more (office.Took desk texts) read less more r m each (inr s) = inr s
brings_more (office.TookSome desk names receipts) read less more r m each (inl b) = inl (each desk b)
brings_more (office.TookSome desk names receipts) read less more r m each (inr s) = inr s
brings_more (office.Merged mine theirs) read less more r m each (inl b) = inl (each mine b)
brings_more (office.Merged mine theirs) read less more r m each (inr b) = inr (each theirs b)
brings_more (office.MergedSince since mine theirs) read less more r m each (inl b) =
    inl (each mine b.0, λ held. each theirs (b.1 held))
brings_more (office.MergedSince since mine theirs) read less more r m each (inr b) =
    inr (each theirs b.0, λ held. each mine (b.1 held))
brings_more (office.Carried mine theirs) read less more r m each (inl b) = inl (each mine b)
brings_more (office.Carried mine theirs) read less more r m each (inr b) = inr (each theirs b.0, b.1)
brings_more (office.Withdrew desk references) read less more r m each b = (each desk b.0, b.1)
brings_more (office.Given bytes) read less more r m each b = b

-- of desk files that the command read it brings no less either, if a desk was read of what it keeps
brings_read : (origin : Origin) (read : Files) (file : Option (List ℕ)) (desk : DeskSeen)
    (less more : Bringing) (r : Reference) (m : MessageValue) → origins.Comes origin read file
    → ((other : Text) → file ≡ file_of read other → desk_in (Some read) other (Ok desk))
    → ((other : Text) (x : DeskSeen) → desk_in (Some read) other (Ok x) → less other r m
    → more other r m)
    → BroughtBy origin read less r m → BroughtBy origin read more r m
brings_read (office.Was other) read file desk less more r m c same each b =
    each other desk (same other c) b
brings_read (office.Started dataset stations) read file desk less more r m c same each b = b
brings_read (office.Took name texts) read file desk less more r m c same each (inl b) =
    inl (each name c.0 c.3 b)
brings_read (office.Took name texts) read file desk less more r m c same each (inr s) = inr s
brings_read (office.TookSome name names receipts) read file desk less more r m c same each (inl b) =
    inl (each name c.0 c.2 b)
brings_read (office.TookSome name names receipts) read file desk less more r m c same each (inr s) =
    inr s
brings_read (office.Merged mine theirs) read file desk less more r m c same each (inl b) =
    inl (each mine c.0 c.3 b)
brings_read (office.Merged mine theirs) read file desk less more r m c same each (inr b) =
    inr (each theirs c.1 c.4 b)
brings_read (office.MergedSince since mine theirs) read file desk less more r m c same each (inl b) =
    inl (
      each mine c.1.mine c.1.here b.0,
      λ held. each theirs c.1.theirs c.1.there (b.1 held),
    )
brings_read (office.MergedSince since mine theirs) read file desk less more r m c same each (inr b) =
    inr (
      each theirs c.1.theirs c.1.there b.0,
      λ held. each mine c.1.mine c.1.here (b.1 held),
    )
brings_read (office.Carried mine theirs) read file desk less more r m c same each (inl b) =
    inl (each mine c.0 c.4 b)
brings_read (office.Carried mine theirs) read file desk less more r m c same each (inr b) =
    inr (each theirs c.1 c.5 b.0, b.1)
brings_read (office.Withdrew name references) read file desk less more r m c same each b =
    (each name c.0 c.3 b.0, b.1)
brings_read (office.Given bytes) read file desk less more r m c same each b = b

-- what was brought to the file of this name, among the files that were read
own : (name other : Text) (brought : Messages) (read : Files) (r : Reference) (m : MessageValue)
    → other ≡ name → brought r m → BroughtToRead name brought read other r m
own name other brought read r m same b =
    subst (λ (t : Bool). Chosen t brought (Brought (Began read) other) r m)
    (sym ((bytes_eq-Decides other name).1 same)) b

chosen : (t : Bool) (one other : Messages) (r : Reference) (m : MessageValue) → (t ≡ true → one r m)
    → other r m → Chosen t one other r m
chosen true one other r m so not = so refl
chosen false one other r m so not = not

-- a command that leaves the message brings what was brought to the file of this name
leaves_brings : (origin : Origin) (name : Text) (brought : Messages) (read : Files) (r : Reference)
    (m : MessageValue) → LeavesMessage name r origin → brought r m
    → BroughtBy origin read (BroughtToRead name brought read) r m
leaves_brings (office.Was other) name brought read r m leaves b = absurd leaves
leaves_brings (office.Started dataset stations) name brought read r m leaves b = absurd leaves
leaves_brings (office.Took desk texts) name brought read r m leaves b =
    inl (own name desk brought read r m leaves b)
leaves_brings (office.TookSome desk names receipts) name brought read r m leaves b =
    inl (own name desk brought read r m leaves b)
leaves_brings (office.Merged mine theirs) name brought read r m (inl same) b =
    inl (own name mine brought read r m same b)
leaves_brings (office.Merged mine theirs) name brought read r m (inr same) b =
    inr (own name theirs brought read r m same b)
leaves_brings (office.MergedSince since mine theirs) name brought read r m leaves b = absurd leaves
leaves_brings (office.Carried mine theirs) name brought read r m leaves b =
    inl (own name mine brought read r m leaves b)
leaves_brings (office.Withdrew desk references) name brought read r m leaves b =
    (own name desk brought read r m leaves.0 b, leaves.1)
leaves_brings (office.Given bytes) name brought read r m leaves b = absurd leaves

-- steps that leave the message
left_there : (events : ℕ → Event) (files : Files) (name : Text) (r : Reference) (m : MessageValue)
    (earlier later : List Step) → AllLeaveMessage events name r later
    → BroughtInTurn events files earlier name r m
    → BroughtInTurn events files (later ++ earlier) name r m
left_there events files name r m earlier [] leave b = b
left_there events files name r m earlier (Holds n other ∷ later) leave b =
    left_there events files name r m earlier later leave b
left_there events files name r m earlier (Reads n other ∷ later) leave b =
    left_there events files name r m earlier later leave b
left_there events files name r m earlier (Keeps n other bytes ∷ later) leave b =
    let turn = BroughtInTurn events files (later ++ earlier) name in
    let read = read_by n files (later ++ earlier) in
    let before = left_there events files name r m earlier later leave.1 b in
    chosen (bytes_eq other name)
    (BroughtBy (origin_of (events n) name) read (BroughtToRead name turn read)) turn r m
    (λ same. leaves_brings (origin_of (events n) name) name turn read r m
    (leave.0 (same_name other name same)) before) before
left_there events files name r m earlier (Ends n ∷ later) leave b =
    left_there events files name r m earlier later leave b
left_there events files name r m earlier (Comes other bytes ∷ later) leave b =
    chosen (bytes_eq other name) (IsIn bytes) (BroughtInTurn events files (later ++ earlier) name) r m
    (λ same. absurd (leave.0 (same_name other name same)))
    (left_there events files name r m earlier later leave.1 b)

allowed_before : (events : ℕ → Event) (files : Files) (later earlier : List Step)
    → AreAllowed events files (later ++ earlier) → AreAllowed events files earlier
allowed_before events files [] earlier allowed = allowed
allowed_before events files (step ∷ later) earlier allowed =
    allowed_before events files later earlier allowed.0

module _ (holds_brought : HoldsWhatWasBrought) where
  -- the desk that is read of a file holds what the file holds
  in_file : (files : Files) (name : Text) (desk : DeskSeen) (r : Reference) (m : MessageValue)
      → desk_in (Some files) name (Ok desk)
      → HoldsMessage (state_of desk) r m ↔ Brought (Began files) name r m
  in_file files name desk r m reads = holds_brought (Began files) name desk tt reads r m

  -- what a file holds, a desk holds that is read of it
  of_file : (files : Files) (name : Text) (r : Reference) (m : MessageValue)
      → Brought (Began files) name r m → (desk : DeskSeen) × desk_in (Some files) name (Ok desk)
      × HoldsMessage (state_of desk) r m
  of_file files name r m (bytes, is, (base, held, short, file, holds)) =
      (record { base = base; held = held; applied = 0 }, (bytes, (short, is), file), holds)

  module _ (events : ℕ → Event) (files : Files) (name : Text) (r : Reference) (m : MessageValue) where
    -- after these steps, whichever desk is read of the file holds what came in turn
    abbrev Holding : List Step → Type 0
    Holding steps = (desk : DeskSeen) → desk_in (Some (files_after files steps)) name (Ok desk)
        → HoldsMessage (state_of desk) r m ↔ BroughtInTurn events files steps name r m

    -- one command more
    module _ (n : ℕ) (bytes : List ℕ) (earlier : List Step)
        (allowed : AreAllowed events files (Keeps n name bytes ∷ earlier)) (before : Holding earlier)
      where
        abbrev read : Files
        read = read_by n files earlier

        abbrev turn : Messages
        turn = BroughtInTurn events files earlier name

        abbrev origin : Origin
        origin = origin_of (events n) name

        -- the file of this name that the command read holds what came in turn
        same_read : (x : DeskSeen) → desk_in (Some read) name (Ok x)
            → Brought (Began read) name r m ↔ turn r m
        same_read x reads =
            let current = takes_turns events files earlier n name bytes reads.0 allowed reads.1.1 in
            let now = before x (reads.0, (reads.1.0, current), reads.2) in
            let held = in_file read name x r m reads in
            (λ b. now.0 (held.1 b), λ t. held.0 (now.1 t))

        there_too : (other : Text) → Brought (Began read) other r m
            → BroughtToRead name turn read other r m
        there_too other = by (bytes_eq other name) refl
          where
            by : (t : Bool) → bytes_eq other name ≡ t → Brought (Began read) other r m
                → Chosen t turn (Brought (Began read) other) r m
            by true same b =
                let named =
                subst (λ (x : Text). Brought (Began read) x r m) (same_name other name same) b in
                let desk = of_file read name r m named in
                (same_read desk.0 desk.1).0 named
            by false apart b = b

        back : (other : Text) (x : DeskSeen) → desk_in (Some read) other (Ok x)
            → BroughtToRead name turn read other r m → Brought (Began read) other r m
        back other x reads = by (bytes_eq other name) refl
          where
            by : (t : Bool) → bytes_eq other name ≡ t → Chosen t turn (Brought (Began read) other) r m
                → Brought (Began read) other r m
            by true same b =
                let is = same_name other name same in
                subst (λ (y : Text). Brought (Began read) y r m) (sym is)
                ((same_read x (subst (λ (y : Text). desk_in (Some read) y (Ok x)) is reads)).1 b)
            by false apart b = b

        -- what the command brings comes in turn
        brought_on : Brings (events n) read name r m
            → BroughtInTurn events files (Keeps n name bytes ∷ earlier) name r m
        brought_on brings =
            subst (λ (t : Bool). Chosen t (BroughtBy origin read (BroughtToRead name turn read)) turn r
            m) (sym (itself name))
            (brings_more origin read (Brought (Began read)) (BroughtToRead name turn read) r m
            there_too brings)

        -- and nothing else does
        kept : Holding (Keeps n name bytes ∷ earlier)
        kept desk reads =
            let made = allowed.1.1 in
            let file = made.2 ∙ sym (here name name bytes (files_after files earlier) (itself name)) in
            let of_after : desk_in (Some made.0) name (Ok desk) =
            reads_same ((name, bytes) ∷ files_after files earlier) made.0 name name desk file reads
            in
            let held =
            holds_brought (Then (Began read) (events n) made.0) name desk (tt, made.1) of_after r m
            in
            let comes = origins.comes (events n) read made.0 name made.1 in (
              λ h. brought_on (held.0 h),
              λ t. held.1
                  (brings_read origin read (file_of made.0 name) desk (BroughtToRead name turn read)
                  (Brought (Began read)) r m comes
                  (λ other same. reads_same made.0 read name other desk (sym same) of_after) back
                  (subst (λ (b : Bool). Chosen b (BroughtBy origin read (BroughtToRead name turn read))
                  turn r m) (itself name) t)),
            )

    each : (steps : List Step) → AreAllowed events files steps → Holding steps
    each [] allowed = λ desk reads. in_file files name desk r m reads
    each (Holds n other ∷ earlier) allowed = each earlier allowed.0
    each (Reads n other ∷ earlier) allowed = each earlier allowed.0
    each (Keeps n other bytes ∷ earlier) allowed =
        by (bytes_eq other name) refl (each earlier allowed.0)
      where
        by : (b : Bool) → bytes_eq other name ≡ b → Holding earlier
            → Holding (Keeps n other bytes ∷ earlier)
        by true same before =
            let is = same_name other name same in
            subst (λ (x : Text). Holding (Keeps n x bytes ∷ earlier)) (sym is)
            (kept n bytes earlier
            (subst (λ (x : Text). AreAllowed events files (Keeps n x bytes ∷ earlier)) is
            allowed) before)
        by false apart before = λ desk reads.
            subst
            (λ (b : Bool). HoldsMessage (state_of desk) r m
            ↔ Chosen b
            (BroughtBy (origin_of (events n) name) (read_by n files earlier)
            (BroughtToRead name (BroughtInTurn events files earlier name)
            (read_by n files earlier))) (BroughtInTurn events files earlier name) r m)
            (sym apart)
            (before desk
            (reads_same ((other, bytes) ∷ files_after files earlier) (files_after files earlier)
            name name desk (sym (there other name bytes (files_after files earlier) apart))
            reads))
    each (Ends n ∷ earlier) allowed = each earlier allowed.0
    each (Comes other bytes ∷ earlier) allowed = by (bytes_eq other name) refl (each earlier allowed.0)
      where
        by : (b : Bool) → bytes_eq other name ≡ b → Holding earlier
            → Holding (Comes other bytes ∷ earlier)
        by true same before = λ desk reads.
            let all = files_after files earlier in
            let held = in_file ((other, bytes) ∷ all) name desk r m reads in
            let is = here other name bytes all same in
            subst (λ (b : Bool). HoldsMessage (state_of desk) r m ↔ Chosen b (IsIn bytes)
            (BroughtInTurn events files earlier name) r m) (sym same) (
              λ h. let found = held.0 h in
                  subst (λ (bs : List ℕ). IsIn bs r m)
                  (origins.same_some found.0 bytes (sym found.1 ∙ is)) found.2,
              λ x. held.1
                  (bytes, is, x),
            )
        by false apart before = λ desk reads.
            subst (λ (b : Bool). HoldsMessage (state_of desk) r m ↔ Chosen b (IsIn bytes)
            (BroughtInTurn events files earlier name) r m) (sym apart)
            (before desk
            (reads_same ((other, bytes) ∷ files_after files earlier) (files_after files earlier)
            name name desk (sym (there other name bytes (files_after files earlier) apart))
            reads))

  pub holds_what_came_in_turn : HoldsWhatCameInTurn
  holds_what_came_in_turn events files steps name desk allowed reads r m =
      each events files name r m steps allowed desk reads

  pub nothing_held_is_lost : NothingHeldIsLost
  nothing_held_is_lost events files later earlier name desk r m allowed leave brought reads =
      let held = of_file (files_after files earlier) name r m brought in
      let turn =
      (each events files name r m earlier (allowed_before events files later earlier allowed)
      held.0 held.1).0 held.2 in
      (each events files name r m (later ++ earlier) allowed desk reads).1
      (left_there events files name r m earlier later leave turn)

  pub nothing_taken_is_lost : NothingTakenIsLost
  nothing_taken_is_lost events files later earlier n name bytes desk r m allowed leave brings reads =
      let steps = Keeps n name bytes ∷ earlier in
      let now = allowed_before events files later steps allowed in
      let turn =
      brought_on events files name r m n bytes earlier now
      (each events files name r m earlier now.0) brings in
      (each events files name r m (later ++ steps) allowed desk reads).1
      (left_there events files name r m steps later leave turn)
