-- Each desk file has the messages that were brought to it, event by event.
use Rattle.std.proofs.Common.{◌≡◌, ◌∙◌, ◌⊎◌, ◌↔◌, inl, inr, ℕ, ◌≤◌, true, List, [], ◌∷◌}
use Rattle.std.proofs.Common.{length, Option, None, Some, Ok, refl, sym, ap, subst}
use Rattle.std.specs.FinMap.{get, same_entries_map}
use Rattle.ssim_base.specs.BaseSeen.{BaseSeen}
use Rattle.ssim_base.specs.Reading.{IsReadOf}
use Rattle.ssim_base.specs.Stations.{SpellsTable}
use Rattle.ssim_text.specs.Grammar.{OneMessage}
use Rattle.ssim_text.specs.Message.{MessageValue}
use Rattle.ssim_text.specs.Reference.{OneReference}
use Rattle.ssim_text.specs.Spelling.{CanonicalReadsBack}
use Rattle.ssim_text.specs.declared.reference.Reference.{Reference}
use Rattle.ssim_held.proofs.Entries.{entries-map_of, get-map_of}
use Rattle.ssim_held.specs.Entries.{AreRising, DeskSeen, Entry, keyed, map_of, state_of}
use Rattle.ssim_held.specs.File.{CanBeSaved, IsDeskFile, NoTwoDesks, desk_file}
use Rattle.ssim_held.specs.Held.{HeldMessages, Says}
use Rattle.ssim_desk.proofs.Taking.{merge_holds, take_holds}
use Rattle.ssim_desk.specs.Desk.{take_answer}
use Rattle.ssim_desk.specs.Deliveries.{is_accepted}
use Rattle.ssim_desk.specs.declared.steps.Answer.TheVariants.{Merged}
use Rattle.ssim_command_line.specs.Line.{Text}
use Rattle.ssim_program.specs.Carrying.{IsCarried, MeansTheSame}
use Rattle.ssim_program.specs.Desks.{desk_in, text_taken}
use Rattle.ssim_program.specs.MergingSince.{held_by, older_in}
use Rattle.ssim_program.specs.internal.Take.{TakesTexts}
use Rattle.ssim_program.specs.Files.{Files, file_of}
use Rattle.ssim_program.specs.Made.{file_limit}
use Rattle.ssim_program.specs.Receiving.{IsAccepted, Receipt, texts_received}
use Rattle.ssim_program.specs.Offices.{BeganBy, Bringing, BroughtBy}
use Rattle.ssim_program.specs.Offices.{IsHeldIn, IsIn, IsReadFrom}
use Rattle.ssim_program.specs.Offices.{IsSaid, IsSavedFrom, Origin}
use Rattle.ssim_program.specs.Offices as office
use Rattle.ssim_program.proofs.AcceptedTexts.{accepted, after_files}
use Rattle.ssim_program.proofs.Origins.{Comes, same_some, read_from}
use Rattle.ssim_program.proofs.SavedDesks.{IsValid, is_listed, same_file, valid_carry, valid_fewer}
use Rattle.ssim_program.proofs.SavedDesks.{valid_file, valid_merge, valid_start, valid_take}
use Rattle.ssim_program.proofs.Withdrawing.{left_after}
use Rattle.ssim_program.specs.Withdrawing.{IsNamed}
use Rattle.ssim_program.proofs.OfficeFiles.{AfterTexts, Holding, IsFounded, IsKept, Messages, Reads}
use Rattle.ssim_program.proofs.OfficeFiles.{small}

-- no desk file is empty
no_desk_file : (base : BaseSeen) (held : List Entry) → IsDeskFile [] base held → ⊥
no_desk_file base held is = elim is.is_file [ inl now ↦ cc | inr before ↦ cc ]

module _ (one : OneMessage) (again : CanonicalReadsBack) (one_each : OneReference)
    (no_two : NoTwoDesks) where
  -- a file is read as one desk
  pub one_desk : (file : Option (List ℕ)) (base other : BaseSeen) (held others : List Entry)
      → Reads file base held → Reads file other others → (base ≡ other) × (held ≡ others)
  one_desk file base other held others (bytes, short, is, desk) (more, less, are, another) =
      no_two bytes base other held others (small bytes short) desk
      (subst (λ (bs : List ℕ). IsDeskFile bs other others) (same_some more bytes (sym are ∙ is))
      another)

  -- a file that was kept is read as the desk that was kept
  kept_desk : (file : Option (List ℕ)) (base other : BaseSeen) (brought : Messages)
      (others : List Entry) (kept : IsKept file base brought) → Reads file other others
      → (base ≡ other) × (kept.held ≡ others)
  kept_desk file base other brought others kept (bytes, short, is, desk) =
      let same : desk_file base kept.held ≡ bytes =
      same_some (desk_file base kept.held) bytes (sym kept.is ∙ is) in
      one_desk file base other kept.held others
      (bytes, short, is, record { saved = kept.can; is_file = inl (sym same) })
      (bytes, short, is, desk)

  kept_holding : (file : Option (List ℕ)) (base : BaseSeen) (brought : Messages)
      → IsKept file base brought → Holding file brought
  kept_holding file base brought kept other others reads r m =
      subst (λ (es : List Entry). (get (map_of es) r ≡ Some m) ↔ brought r m)
      (kept_desk file base other brought others kept reads).1 (kept.holds r m)

  -- a valid desk whose file was kept
  is_kept : (file : Option (List ℕ)) (base : BaseSeen) (held : List Entry) (brought : Messages)
      → AreRising held → IsValid base (map_of held) → file ≡ Some (desk_file base held)
      → ((r : Reference) (m : MessageValue) → (get (map_of held) r ≡ Some m) ↔ brought r m)
      → IsKept file base brought
  is_kept file base held brought rising valid is holds =
      let list = is_listed base (map_of held) valid in
      let same : keyed held ≡ keyed list.es = sym (entries-map_of held rising) ∙ sym list.are in
      let maps : map_of held ≡ map_of list.es =
      same_entries_map (map_of held) (map_of list.es) (sym list.are
      ∙ sym (entries-map_of list.es list.can.entries_are.rising)) in
      record {
        held = list.es;
        can = list.can;
        is = is ∙ ap (λ (bytes : List ℕ). Some bytes) (same_file base held list.es same);
        holds = λ r m. subst (λ (x : HeldMessages). (get x r ≡ Some m) ↔ brought r m) maps (holds r m);
      }

  -- the file of a desk that was saved from these bytes
  pub saved : (bytes d s : List ℕ) (file : Option (List ℕ)) (brought : Messages) → file ≡ Some bytes
      → ((r : Reference) (m : MessageValue) → IsIn bytes r m ↔ brought r m) → IsSavedFrom bytes d s
      → IsFounded file brought d s
  saved bytes d s file brought at same (base, held, short, is, can, from) = (
    base,
    from,
    record {
      held = held;
      can = can;
      is = at ∙ ap (λ (bs : List ℕ). Some bs) is;
      holds =
          λ r m. (λ h. (same r m).0 (there r m h), λ b. back r m ((same r m).1 b));
    },
  )
    where
      desk : IsDeskFile bytes base held
      desk = record { saved = can; is_file = inl is }

      there : (r : Reference) (m : MessageValue) → get (map_of held) r ≡ Some m → IsIn bytes r m
      there r m h = (base, held, short, desk, h)

      back : (r : Reference) (m : MessageValue) → IsIn bytes r m → get (map_of held) r ≡ Some m
      back r m x =
          subst (λ (es : List Entry). get (map_of es) r ≡ Some m)
          (one_desk (Some bytes) x.0 base x.1 held (bytes, x.2, refl, x.3)
          (bytes, short, refl, desk)).1 x.4

  -- ---- texts

  -- one more text
  next_text : (files : Files) (name : Text) (names : List Text) (before between after : DeskSeen)
      (printed : List ℕ) → text_taken (Some files) name before (Ok (between, printed))
      → AfterTexts files names between after → AfterTexts files (name ∷ names) before after
  next_text files name names before between after printed (text, has, (answer, reference, taken, line))
      rest =
      record {
        base = rest.base ∙ taken.base;
        valid = rest.valid;
        holds = λ r m. (λ h. there r m ((rest.holds r m).0 h), λ s. (rest.holds r m).1 (back r m s));
      }
    where
      step : (r : Reference) (m : MessageValue)
          → (get (map_of between.held) r ≡ Some m) ↔ ((get (map_of before.held) r ≡ Some m)
          ⊎ ((is_accepted (take_answer (Ok (answer, reference))) ≡ true)
          × Says before.base text r m))
      step = take_holds one (state_of before) text (take_answer (Ok (answer, reference)))
          (map_of between.held) taken.takes

      there : (r : Reference) (m : MessageValue) → (get (map_of between.held) r ≡ Some m)
          ⊎ IsSaid files between.base names r m → (get (map_of before.held) r ≡ Some m)
          ⊎ IsSaid files before.base (name ∷ names) r m
      there r m (inl h) = elim ((step r m).0 h) [ inl b ↦ inl b | inr s ↦ inr (inl (text, has, s.1)) ]
      there r m (inr s) = inr (inr (subst (λ (b : BaseSeen). IsSaid files b names r m) taken.base s))

      back : (r : Reference) (m : MessageValue) → (get (map_of before.held) r ≡ Some m)
          ⊎ IsSaid files before.base (name ∷ names) r m → (get (map_of between.held) r ≡ Some m)
          ⊎ IsSaid files between.base names r m
      back r m (inl h) = inl ((step r m).1 (inl h))
      back r m (inr (inl (bytes, in_file, says))) =
          let same : bytes ≡ text = same_some bytes text (sym in_file.1 ∙ has.1) in
          inl ((step r m).1
          (inr (
            accepted answer reference,
            subst (λ (bs : List ℕ). Says before.base bs r m) same
                says,
          )))
      back r m (inr (inr s)) =
          inr (subst (λ (b : BaseSeen). IsSaid files b names r m) (sym taken.base) s)

  valid_next : (files : Files) (name : Text) (before between : DeskSeen) (printed : List ℕ)
      → text_taken (Some files) name before (Ok (between, printed))
      → IsValid before.base (map_of before.held)
      → IsValid between.base (map_of between.held)
  valid_next files name before between printed (text, has, (answer, reference, taken, line)) valid =
      subst (λ (b : BaseSeen). IsValid b (map_of between.held)) (sym taken.base)
      (valid_take one again (state_of before) text (take_answer (Ok (answer, reference)))
      (map_of between.held) valid taken.takes)

  after_texts : (files : Files) (names : List Text) (before after : DeskSeen) (printed : List ℕ)
      → TakesTexts (Some files) names before after printed → IsValid before.base (map_of before.held)
      → AfterTexts files names before after
  after_texts files [] before after printed takes valid =
      subst (λ (d : DeskSeen). AfterTexts files [] before d) (sym takes.0)
      (record {
        base = refl;
        valid = valid;
        holds =
            λ r m. (λ h. inl h, λ s. elim s [ inl h ↦ h | inr n ↦ absurd n ]);
      })
  after_texts files (name ∷ names) before after printed (between, first, later, one_text, others, all)
      valid =
      next_text files name names before between after first one_text
      (after_texts files names between after later others
      (valid_next files name before between first one_text valid))

  -- ---- one event

  pub reads_of : (files : Files) (name : Text) (desk : DeskSeen) → desk_in (Some files) name (Ok desk)
      → Reads (file_of files name) desk.base desk.held
  reads_of files name desk (bytes, has, is) = (bytes, has.0, has.1, is)

  module _ (files : Files) (brought : Bringing) (before : (name : Text)
      → Holding (file_of files name) (brought name)) where
    -- a new desk
    after_start : (dataset stations : Text) (file : Option (List ℕ))
        (c : Comes (office.Started dataset stations) files file)
        → IsKept file c.0 (BroughtBy (office.Started dataset stations) files brought)
    after_start dataset stations file (base, read, is_base, is) =
        let table = read_from (Some files) dataset stations base read in
        is_kept file base [] _ refl (valid_start base _ is_base table.spells) is
        (λ r m. (
          λ h. let none : get (map_of []) r ≡ None = get-map_of [] r refl in
              absurd cc,
          λ n. absurd n,
        ))

    -- a desk that took texts
    after_take : (name : Text) (texts : List Text) (file : Option (List ℕ))
        (c : Comes (office.Took name texts) files file)
        → IsKept file c.0.base (BroughtBy (office.Took name texts) files brought)
    after_take name texts file (desk, after, printed, read, takes, rising, is) =
        let texts_are =
        after_texts files texts desk after printed takes
        (valid_file desk.base desk.held read.2.saved) in
        subst (λ (b : BaseSeen). IsKept file b (BroughtBy (office.Took name texts) files brought))
        texts_are.base
        (is_kept file after.base after.held (BroughtBy (office.Took name texts) files brought) rising
        texts_are.valid is
        (λ r m. (
          λ h. there r m ((texts_are.holds r m).0 h),
          λ s. (texts_are.holds r m).1
              (back r m s),
        )))
      where
        held : (r : Reference) (m : MessageValue)
            → (get (map_of desk.held) r ≡ Some m) ↔ brought name r m
        held = before name desk.base desk.held (reads_of files name desk read)

        there : (r : Reference) (m : MessageValue) → (get (map_of desk.held) r ≡ Some m)
            ⊎ IsSaid files desk.base texts r m → BroughtBy (office.Took name texts) files brought r m
        there r m (inl h) = inl ((held r m).0 h)
        there r m (inr s) = inr (desk, read, s)

        back : (r : Reference) (m : MessageValue)
            → BroughtBy (office.Took name texts) files brought r m
            → (get (map_of desk.held) r ≡ Some m) ⊎ IsSaid files desk.base texts r m
        back r m (inl b) = inl ((held r m).1 b)
        back r m (inr (other, reads, s)) =
            let same =
            one_desk (file_of files name) other.base desk.base other.held desk.held
            (reads_of files name other reads) (reads_of files name desk read) in
            inr (subst (λ (b : BaseSeen). IsSaid files b texts r m) same.0 s)

    -- a desk that received mailboxes
    after_receive : (name : Text) (names : List Text) (receipts : List Receipt)
        (file : Option (List ℕ)) (c : Comes (office.TookSome name names receipts) files file)
        → IsKept file c.0.base (BroughtBy (office.TookSome name names receipts) files brought)
    after_receive name names receipts file (desk, after, read, received, rising, is) =
        let these =
        after_files one again files names receipts desk after received
        (valid_file desk.base desk.held read.2.saved) in
        subst (λ (b : BaseSeen). IsKept file b
        (BroughtBy (office.TookSome name names receipts) files brought)) these.base
        (is_kept file after.base after.held
        (BroughtBy (office.TookSome name names receipts) files brought) rising these.valid is
        (λ r m. (
          λ h. there r m ((these.holds r m).0 h),
          λ s. (these.holds r m).1
              (back r m s),
        )))
      where
        held : (r : Reference) (m : MessageValue)
            → (get (map_of desk.held) r ≡ Some m) ↔ brought name r m
        held = before name desk.base desk.held (reads_of files name desk read)

        there : (r : Reference) (m : MessageValue) → (get (map_of desk.held) r ≡ Some m)
            ⊎ IsAccepted desk.base (texts_received files names) receipts r m
            → BroughtBy (office.TookSome name names receipts) files brought r m
        there r m (inl h) = inl ((held r m).0 h)
        there r m (inr s) = inr (desk, read, s)

        back : (r : Reference) (m : MessageValue)
            → BroughtBy (office.TookSome name names receipts) files brought r m
            → (get (map_of desk.held) r ≡ Some m)
            ⊎ IsAccepted desk.base (texts_received files names) receipts r m
        back r m (inl b) = inl ((held r m).1 b)
        back r m (inr (other, reads, s)) =
            let same =
            one_desk (file_of files name) other.base desk.base other.held desk.held
            (reads_of files name other reads) (reads_of files name desk read) in
            inr (subst (λ (b : BaseSeen). IsAccepted b (texts_received files names) receipts r m)
            same.0 s)

    -- a desk that holds what two desks held
    after_merge : (name another : Text) (file : Option (List ℕ))
        (c : Comes (office.Merged name another) files file)
        → IsKept file c.0.base (BroughtBy (office.Merged name another) files brought)
    after_merge name another file (mine, theirs, after, read, reads, is_merge, rising, is) =
        subst (λ (b : BaseSeen). IsKept file b (BroughtBy (office.Merged name another) files brought))
        is_merge.base
        (is_kept file after.base after.held (BroughtBy (office.Merged name another) files brought)
        rising
        (subst (λ (b : BaseSeen). IsValid b (map_of after.held)) (sym is_merge.base)
        (valid_merge (state_of mine) (state_of theirs) (map_of after.held)
        (valid_file mine.base mine.held read.2.saved)
        (valid_file theirs.base theirs.held reads.2.saved) is_merge.merges))
        is (λ r m. (λ h. there r m ((all r m).0 h), λ s. (all r m).1 (back r m s))))
      where
        all : (r : Reference) (m : MessageValue)
            → (get (map_of after.held) r ≡ Some m) ↔ ((get (map_of mine.held) r ≡ Some m)
            ⊎ ((Merged ≡ Merged) × (get (map_of theirs.held) r ≡ Some m)))
        all = merge_holds (state_of mine) (state_of theirs) Merged (map_of after.held) is_merge.merges

        there : (r : Reference) (m : MessageValue) → (get (map_of mine.held) r ≡ Some m)
            ⊎ ((Merged ≡ Merged) × (get (map_of theirs.held) r ≡ Some m)) → brought name r m
            ⊎ brought another r m
        there r m (inl h) =
            inl ((before name mine.base mine.held (reads_of files name mine read) r m).0 h)
        there r m (inr h) =
            inr ((before another theirs.base theirs.held (reads_of files another theirs reads) r m).0
            h.1)

        back : (r : Reference) (m : MessageValue) → brought name r m ⊎ brought another r m
            → (get (map_of mine.held) r ≡ Some m)
            ⊎ ((Merged ≡ Merged) × (get (map_of theirs.held) r ≡ Some m))
        back r m (inl b) =
            inl ((before name mine.base mine.held (reads_of files name mine read) r m).1 b)
        back r m (inr b) =
            inr (
              refl,
              (before another theirs.base theirs.held (reads_of files another theirs reads) r
                  m).1 b,
            )

    -- what an older desk file holds
    in_older : (since : Text) (old : Option DeskSeen) (r : Reference) (m : MessageValue)
        → older_in (Some files) since (Ok old)
        → IsHeldIn files since r m ↔ (get (map_of (held_by old)) r ≡ Some m)
    in_older since None r m (bytes, has, empty) = (
      λ (desk, (more, are, is), held). absurd (no_desk_file desk.base desk.held
          (subst (λ (bs : List ℕ). IsDeskFile bs desk.base desk.held)
          (same_some more bytes (sym are.1 ∙ has.1) ∙ empty) is)),
      λ held. let none : get (map_of []) r ≡ None = get-map_of [] r refl in
          absurd cc,
    )
    in_older since (Some old) r m (bytes, has, is) = (
      λ (desk, read, held). subst (λ (es : List Entry). get (map_of es) r ≡ Some m)
          (one_desk (file_of files since) desk.base old.base desk.held old.held
          (reads_of files since desk read) (reads_of files since old (bytes, has, is))).1 held,
      λ held. (old, (bytes, has, is), held),
    )

    -- a desk that two were merged to since an older one
    after_since : (since name another : Text) (file : Option (List ℕ))
        (c : Comes (office.MergedSince since name another) files file)
        → IsKept file c.1.mine.base (BroughtBy (office.MergedSince since name another) files brought)
    after_since since name another file (after, c, is) =
        subst (λ (b : BaseSeen). IsKept file b
        (BroughtBy (office.MergedSince since name another) files brought)) (c.merge.base ∙ c.without.base)
        (is_kept file after.base after.held
        (BroughtBy (office.MergedSince since name another) files brought) c.rising
        (subst (λ (b : BaseSeen). IsValid b (map_of after.held)) (sym c.merge.base)
        (valid_merge (state_of c.left) (state_of c.brought) (map_of after.held)
        (fewer c.mine c.left c.here.2.saved c.without.base (λ r m h. ((c.without.holds r m).0 h).0))
        (fewer c.theirs c.brought c.there.2.saved c.without_too.base
        (λ r m h. ((c.without_too.holds r m).0 h).0)) c.merge.merges))
        is (λ r m. (λ h. there r m ((all r m).0 h), λ s. (all r m).1 (back r m s))))
      where
        fewer : (desk less : DeskSeen) → CanBeSaved desk.base desk.held → less.base ≡ desk.base
            → ((r : Reference) (m : MessageValue) → get (map_of less.held) r ≡ Some m
            → get (map_of desk.held) r ≡ Some m)
            → IsValid less.base (map_of less.held)
        fewer desk less can base some =
            subst (λ (b : BaseSeen). IsValid b (map_of less.held)) (sym base)
            (valid_fewer desk.base (map_of desk.held) (map_of less.held)
            (valid_file desk.base desk.held can) some)

        all : (r : Reference) (m : MessageValue)
            → (get (map_of after.held) r ≡ Some m) ↔ ((get (map_of c.left.held) r ≡ Some m)
            ⊎ ((Merged ≡ Merged) × (get (map_of c.brought.held) r ≡ Some m)))
        all = merge_holds (state_of c.left) (state_of c.brought) Merged (map_of after.held)
            c.merge.merges

        here : (r : Reference) (m : MessageValue)
            → (get (map_of c.mine.held) r ≡ Some m) ↔ brought name r m
        here = before name c.mine.base c.mine.held (reads_of files name c.mine c.here)

        other : (r : Reference) (m : MessageValue)
            → (get (map_of c.theirs.held) r ≡ Some m) ↔ brought another r m
        other = before another c.theirs.base c.theirs.held (reads_of files another c.theirs c.there)

        there : (r : Reference) (m : MessageValue) → (get (map_of c.left.held) r ≡ Some m)
            ⊎ ((Merged ≡ Merged) × (get (map_of c.brought.held) r ≡ Some m))
            → BroughtBy (office.MergedSince since name another) files brought r m
        there r m (inl h) =
            let l = (c.without.holds r m).0 h in
            inl ((here r m).0 l.0, λ held. (other r m).0 (l.1 ((in_older since c.old r m c.older).0 held)))
        there r m (inr h) =
            let l = (c.without_too.holds r m).0 h.1 in
            inr ((other r m).0 l.0, λ held. (here r m).0 (l.1 ((in_older since c.old r m c.older).0 held)))

        back : (r : Reference) (m : MessageValue)
            → BroughtBy (office.MergedSince since name another) files brought r m
            → (get (map_of c.left.held) r ≡ Some m)
            ⊎ ((Merged ≡ Merged) × (get (map_of c.brought.held) r ≡ Some m))
        back r m (inl b) =
            inl ((c.without.holds r m).1 (
              (here r m).1 b.0,
              λ held. (other r m).1 (b.1 ((in_older since c.old r m c.older).1 held)),
            ))
        back r m (inr b) =
            inr (
              refl,
              (c.without_too.holds r m).1 (
                (other r m).1 b.0,
                λ held. (here r m).1 (b.1 ((in_older since c.old r m c.older).1 held)),
              ),
            )

    -- a desk to which messages of another were carried
    after_carry : (name another : Text) (file : Option (List ℕ))
        (c : Comes (office.Carried name another) files file)
        → IsKept file c.0.base (BroughtBy (office.Carried name another) files brought)
    after_carry name another file (mine, theirs, after, lines, read, reads, carry, rising, is) =
        subst (λ (b : BaseSeen). IsKept file b (BroughtBy (office.Carried name another) files brought))
        carry.base
        (is_kept file after.base after.held (BroughtBy (office.Carried name another) files brought)
        rising
        (subst (λ (b : BaseSeen). IsValid b (map_of after.held)) (sym carry.base)
        (valid_carry mine theirs after lines (valid_file mine.base mine.held read.2.saved)
        (valid_file theirs.base theirs.held reads.2.saved) carry))
        is (λ r m. (λ h. there r m ((carry.holds r m).0 h), λ s. (carry.holds r m).1 (back r m s))))
      where
        here : (r : Reference) (m : MessageValue)
            → (get (map_of mine.held) r ≡ Some m) ↔ brought name r m
        here = before name mine.base mine.held (reads_of files name mine read)

        other : (r : Reference) (m : MessageValue)
            → (get (map_of theirs.held) r ≡ Some m) ↔ brought another r m
        other = before another theirs.base theirs.held (reads_of files another theirs reads)

        there : (r : Reference) (m : MessageValue) → (get (map_of mine.held) r ≡ Some m)
            ⊎ IsCarried mine theirs r m → BroughtBy (office.Carried name another) files brought r m
        there r m (inl h) = inl ((here r m).0 h)
        there r m (inr c) = inr ((other r m).0 c.0, (mine, theirs, read, reads, c.1))

        back : (r : Reference) (m : MessageValue)
            → BroughtBy (office.Carried name another) files brought r m
            → (get (map_of mine.held) r ≡ Some m) ⊎ IsCarried mine theirs r m
        back r m (inl b) = inl ((here r m).1 b)
        back r m (inr (b, (one, two, in_one, in_two, means))) =
            let same =
            one_desk (file_of files name) one.base mine.base one.held mine.held
            (reads_of files name one in_one) (reads_of files name mine read) in
            let same_too =
            one_desk (file_of files another) two.base theirs.base two.held theirs.held
            (reads_of files another two in_two) (reads_of files another theirs reads) in
            inr (
              (other r m).1 b,
              subst (λ (x : BaseSeen). MeansTheSame x theirs.base m) same.0
                  (subst (λ (x : BaseSeen). MeansTheSame one.base x m) same_too.0 means),
            )

    -- a desk without the messages of some references
    after_withdraw : (name : Text) (words : List Text) (file : Option (List ℕ))
        (c : Comes (office.Withdrew name words) files file)
        → IsKept file c.0.base (BroughtBy (office.Withdrew name words) files brought)
    after_withdraw name words file (desk, after, printed, read, withdraws, rising, is) =
        subst (λ (b : BaseSeen). IsKept file b (BroughtBy (office.Withdrew name words) files brought))
        withdraws.base
        (is_kept file after.base after.held (BroughtBy (office.Withdrew name words) files brought)
        rising
        (subst (λ (b : BaseSeen). IsValid b (map_of after.held)) (sym withdraws.base)
        (valid_fewer desk.base (map_of desk.held) (map_of after.held)
        (valid_file desk.base desk.held read.2.saved) (λ r m h. ((left r m).0 h).0)))
        is (λ r m. (
          λ h. let l = (left r m).0 h in
              ((held r m).0 l.0, l.1),
          λ b. (left r m).1 ((held r m).1 b.0, b.1),
        )))
      where
        held : (r : Reference) (m : MessageValue)
            → (get (map_of desk.held) r ≡ Some m) ↔ brought name r m
        held = before name desk.base desk.held (reads_of files name desk read)

        left : (r : Reference) (m : MessageValue)
            → (get (map_of after.held) r ≡ Some m) ↔ ((get (map_of desk.held) r ≡ Some m)
            × (IsNamed words r → ⊥))
        left = left_after one_each words (map_of desk.held) (map_of after.held) printed
            withdraws.withdraws

    -- what bytes have that came from elsewhere
    given : (bytes : List ℕ) → Holding (Some bytes) (IsIn bytes)
    given bytes base held (these, short, is, desk) r m =
        let same : these ≡ bytes = same_some these bytes (sym is) in
        let within = subst (λ (bs : List ℕ). length bs ≤ file_limit) same short in
        let file = subst (λ (bs : List ℕ). IsDeskFile bs base held) same desk in (
          λ h. (base, held, within, file, h),
          λ x. subst (λ (es : List Entry). get (map_of es) r ≡ Some m)
              (one_desk (Some bytes) x.0 base x.1 held (bytes, x.2, refl, x.3)
              (bytes, within, refl, file)).1 x.4,
        )

    -- after an event, each file holds what was brought to it
    pub holding : (origin : Origin) (file : Option (List ℕ)) → Comes origin files file
        → Holding file (BroughtBy origin files brought)
    holding (office.Was name) file c =
        subst (λ (f : Option (List ℕ)). Holding f (brought name)) (sym c) (before name)
    holding (office.Started dataset stations) file c =
        kept_holding file c.0 _ (after_start dataset stations file c)
    holding (office.Took name texts) file c =
        kept_holding file c.0.base _ (after_take name texts file c)
    holding (office.TookSome name names receipts) file c =
        kept_holding file c.0.base _ (after_receive name names receipts file c)
    holding (office.Merged name another) file c =
        kept_holding file c.0.base _ (after_merge name another file c)
    holding (office.MergedSince since name another) file c =
        kept_holding file c.1.mine.base _ (after_since since name another file c)
    holding (office.Carried name another) file c =
        kept_holding file c.0.base _ (after_carry name another file c)
    holding (office.Withdrew name words) file c =
        kept_holding file c.0.base _ (after_withdraw name words file c)
    holding (office.Given bytes) file c =
        subst (λ (f : Option (List ℕ)). Holding f (IsIn bytes)) (sym c) (given bytes)

    -- and each desk that began by `start` is over the base that it began from
    pub founded : (began : Text → List ℕ → List ℕ → Type 0) (d s : List ℕ)
        → ((name : Text) → began name d s → IsFounded (file_of files name) (brought name) d s)
        → (origin : Origin) (file : Option (List ℕ)) → Comes origin files file
        → BeganBy origin files began d s → IsFounded file (BroughtBy origin files brought) d s
    founded began d s earlier (office.Was name) file c from =
        subst (λ (f : Option (List ℕ)). IsFounded f (brought name) d s) (sym c) (earlier name from)
    founded began d s earlier (office.Started dataset stations) file c from =
        let is = read_from (Some files) dataset stations c.0 c.1 in
        let opened = is.read.1 in
        let left : is.read.0 ≡ Some d = opened.2 ∙ sym opened.1 ∙ from.0 in
        let same_table : is.table ≡ s = same_some is.table s (sym is.has.1 ∙ from.1) in (
          c.0,
          (
            is.notes,
            subst
                (λ (o : Option (List ℕ)). IsReadOf file_limit o (Ok (c.0.records, is.notes))) left
                is.read.2.0,
            subst (λ (bs : List ℕ). SpellsTable c.0.rows bs) same_table is.spells,
          ),
          after_start dataset stations file c,
        )
    founded began d s earlier (office.Took name texts) file c from =
        let first = earlier name from in
        let same =
        kept_desk (file_of files name) first.0 c.0.base (brought name) c.0.held first.2
        (reads_of files name c.0 c.3) in (
          c.0.base,
          subst (λ (b : BaseSeen). IsReadFrom b d s) same.0 first.1,
          after_take name texts
              file c,
        )
    founded began d s earlier (office.TookSome name names receipts) file c from =
        let first = earlier name from in
        let same =
        kept_desk (file_of files name) first.0 c.0.base (brought name) c.0.held first.2
        (reads_of files name c.0 c.2) in (
          c.0.base,
          subst (λ (b : BaseSeen). IsReadFrom b d s) same.0 first.1,
          after_receive name names
              receipts file c,
        )
    founded began d s earlier (office.Merged name another) file c from =
        let first = earlier name from in
        let same =
        kept_desk (file_of files name) first.0 c.0.base (brought name) c.0.held first.2
        (reads_of files name c.0 c.3) in (
          c.0.base,
          subst (λ (b : BaseSeen). IsReadFrom b d s) same.0 first.1,
          after_merge name another
              file c,
        )
    founded began d s earlier (office.MergedSince since name another) file c from =
        let first = earlier name from in
        let same =
        kept_desk (file_of files name) first.0 c.1.mine.base (brought name) c.1.mine.held first.2
        (reads_of files name c.1.mine c.1.here) in (
          c.1.mine.base,
          subst (λ (b : BaseSeen). IsReadFrom b d s) same.0 first.1,
          after_since since name another
              file c,
        )
    founded began d s earlier (office.Carried name another) file c from =
        let first = earlier name from in
        let same =
        kept_desk (file_of files name) first.0 c.0.base (brought name) c.0.held first.2
        (reads_of files name c.0 c.4) in (
          c.0.base,
          subst (λ (b : BaseSeen). IsReadFrom b d s) same.0 first.1,
          after_carry name another
              file c,
        )
    founded began d s earlier (office.Withdrew name words) file c from =
        let first = earlier name from in
        let same =
        kept_desk (file_of files name) first.0 c.0.base (brought name) c.0.held first.2
        (reads_of files name c.0 c.3) in (
          c.0.base,
          subst (λ (b : BaseSeen). IsReadFrom b d s) same.0 first.1,
          after_withdraw name words
              file c,
        )
    founded began d s earlier (office.Given bytes) file c from =
        saved bytes d s file (IsIn bytes) c (λ r m. (λ x. x, λ x. x)) from
