-- Messages that are carried one after another: what is held afterwards, what is printed of each, and
-- which conflict is the first.
use Rattle.std.proofs.Common.{◌≡◌, ◌≢◌, ◌⊎◌, ◌↔◌, ◌∙◌, inl, inr, ℕ, Bool, true, false, cond, List, []}
use Rattle.std.proofs.Common.{◌∷◌, ◌++◌, ◌+◌, Some, None, Result, Ok, Err, IfOk, IfErr, drop, refl}
use Rattle.std.proofs.Common.{sym, ap, subst, append_assoc}
use Rattle.std.proofs.lemmas.List.{append-nil}
use Rattle.std.specs.Prelude.{T}
use Rattle.std.specs.FinMap.{find, get, get-insert, insert, is_sorted}
use Rattle.std.specs.FinMap.Entries.{below_all}
use Rattle.std.specs.Ordering.{eq_by_cmp, is_eq}
use Rattle.std.specs.declared.cmp.Ordering.{Ordering}
use Rattle.std.specs.declared.cmp.Ordering.TheVariants.{Less, Equal, Greater}
use Rattle.ssim_records.specs.Carrier.{CarrierFields}
use Rattle.ssim_records.specs.declared.record.Record.{Record}
use Rattle.ssim_records.specs.declared.record.Record.TheVariants.{Header, Carrier}
use Rattle.ssim_base.specs.BaseSeen.{BaseSeen}
use Rattle.ssim_base.specs.Export.{line}
use Rattle.ssim_base.specs.Resolve.{AreResolved, IsNext, IsRefusedIn, ResolvesIn}
use Rattle.ssim_base.specs.declared.resolution.ResolveFault.{ResolveFault}
use Rattle.ssim_base.specs.declared.resolution.ResolveFault.TheVariants as resolve_fault
use Rattle.ssim_base.specs.declared.resolution.ResolvedText.{ResolvedText}
use Rattle.ssim_base.specs.declared.sub_message.ResolvedSub.{ResolvedSub}
use Rattle.ssim_base.proofs.ResolvedOnce.{one_outcome}
use Rattle.ssim_text.specs.Message.{MessageValue}
use Rattle.ssim_text.specs.Spelling.{SpellsMessage}
use Rattle.ssim_text.specs.declared.fault.TextFault.{TextFault}
use Rattle.ssim_text.specs.declared.fault.TextFault.TheVariants as text_fault
use Rattle.ssim_text.specs.declared.reference.Reference.{Reference}
use Rattle.ssim_text.proofs.Place.{one_message}
use Rattle.ssim_held.proofs.Entries.{T-from_true, and_left, and_right, find_below, get-map_of}
use Rattle.ssim_held.proofs.Entries.{less-from_T, self_equal}
use Rattle.ssim_held.proofs.References.{reference_apart, reference_total}
use Rattle.ssim_held.proofs.SavedTexts.{refused_none}
use Rattle.ssim_held.proofs.Withdrawing.{equal_at}
use Rattle.ssim_held.specs.Entries.{AreRising, DeskSeen, Entry, IsEntry, keyed, map_of, state_of}
use Rattle.ssim_held.specs.Held.{HeldMessages, Holds, Says, reference_cmp}
use Rattle.ssim_held.specs.declared.fault.DeskFault.{DeskFault}
use Rattle.ssim_held.specs.declared.fault.DeskFault.TheVariants as fault
use Rattle.ssim_desk.proofs.Taking.{says_message, says_reference}
use Rattle.ssim_desk.specs.Desk.{take_answer}
use Rattle.ssim_desk.specs.Steps.{IsUnspelt, RefusesText, Takes}
use Rattle.ssim_desk.specs.declared.desk.Took.{Took}
use Rattle.ssim_desk.specs.declared.desk.Took.TheVariants as took
use Rattle.ssim_program.specs.Carrying.{AreOfOneAirline, Becomes, IsCarried, IsCarryOf, IsConflict}
use Rattle.ssim_program.specs.Carrying.{MeansTheSame, PrintsEach, RefusesCarry}
use Rattle.ssim_program.specs.Desks.{took_printed}
use Rattle.ssim_program.specs.internal.Carry.{Carries, CarriesEach, RefusesAny, RefusesOne}
use Rattle.ssim_program.specs.Timetables.{HasCarrier}
use Rattle.ssim_program.specs.print.PrintedLine.{printed_text}
use Rattle.ssim_program.specs.print.Refusal.{refusal_number}
use Rattle.ssim_program.specs.declared.print.printed_line.PrintedLine.{PrintedLine}
use Rattle.ssim_program.specs.declared.print.printed_line.PrintedLine.TheVariants as printed
use Rattle.ssim_program.specs.declared.refusal.Refusal.TheVariants as refused

-- ---- whether a message means the same

-- a message resolves to whatever has this reference and these dates
resolves_as : (records : List Record) (m : MessageValue) (text other : ResolvedText)
    → text.reference ≡ other.reference → text.subs.items ≡ other.subs.items → ResolvesIn records m text
    → ResolvesIn records m other
resolves_as records m text other reference dates (frame, has, r) = (
  frame,
  has,
  record {
    mode = r.mode;
    date = subst (λ (q : Reference). IsNext frame.carrier.created m.reference.date q.date) reference
        r.date;
    group = sym (ap (λ (q : Reference). q.group) reference) ∙ r.group;
    serial = sym (ap (λ (q : Reference). q.serial) reference) ∙ r.serial;
    kind = sym (ap (λ (q : Reference). q.kind) reference) ∙ r.kind;
    originator = sym (ap (λ (q : Reference). q.originator) reference) ∙ r.originator;
    subs = subst (λ (xs : List ResolvedSub). AreResolved frame.carrier m.subs xs) dates r.subs;
  },
)

-- what a base resolves a message to
once : (records : List Record) (m : MessageValue) (text other : ResolvedText)
    → ResolvesIn records m text → ResolvesIn records m other → (text.reference ≡ other.reference)
    × (text.subs.items ≡ other.subs.items)
once records m text other a b = one_outcome records m (Ok text) (Ok other) a b

-- a message means the same if the other base resolves it as it is held
pub same_means : (base theirs : BaseSeen) (e : Entry) (text : ResolvedText) → IsEntry theirs.records e
    → ResolvesIn base.records e.message text
    → (text.reference ≡ e.reference) × (text.subs.items ≡ e.dates) → MeansTheSame base theirs e.message
same_means base theirs e text is resolves same = (
  text,
  resolves,
  resolves_as theirs.records e.message is.text text (is.referred ∙ sym same.0)
      (is.dated ∙ sym same.1) is.resolves,
)

pub means_same : (base theirs : BaseSeen) (e : Entry) (text : ResolvedText) → IsEntry theirs.records e
    → ResolvesIn base.records e.message text
    → MeansTheSame base theirs e.message → (text.reference ≡ e.reference) × (text.subs.items ≡ e.dates)
means_same base theirs e text is resolves (other, here, there) =
    let mine = once base.records e.message text other resolves here in
    let held = once theirs.records e.message other is.text there is.resolves in
    (mine.0 ∙ held.0 ∙ is.referred, mine.1 ∙ held.1 ∙ is.dated)

-- a message that is refused does not mean the same
pub refused_means : (base theirs : BaseSeen) (m : MessageValue) (why : ResolveFault)
    → (why ≡ resolve_fault.Memory → ⊥) → IsRefusedIn base.records m why → MeansTheSame base theirs m
    → ⊥
refused_means base theirs m why other refuses (text, here, there) =
    refused_none one_outcome base.records m why other refuses text here

-- ---- one message is taken

says_it : (before : DeskSeen) (theirs : BaseSeen) (e : Entry) (text : List ℕ)
    → IsEntry theirs.records e → MeansTheSame before.base theirs e.message
    → SpellsMessage e.message text → Says before.base text e.reference e.message
says_it before theirs e text is (resolved, here, there) spelt =
    record {
      spelt = spelt;
      resolved = resolved;
      resolves = here;
      referred =
          (once theirs.records e.message resolved is.text there is.resolves).0 ∙ is.referred;
    }

module _ (theirs : BaseSeen) (before after : DeskSeen) (e : Entry) (text : List ℕ)
    (is : IsEntry theirs.records e) (means : MeansTheSame before.base theirs e.message)
    (spelt : SpellsMessage e.message text) where
  says : Says before.base text e.reference e.message
  says = says_it before theirs e text is means spelt

  pub taken_carries : (r : Result (Took × Reference) DeskFault)
      → Takes (state_of before) text (take_answer r) (map_of after.held) → after.base ≡ before.base
      → IfOk r (λ t. Carries theirs before e (took_printed t.0 t.1) after)
  taken_carries (Ok (took.Taken, r)) takes base =
      let message =
      says_message one_message before.base text r e.reference takes.message e.message takes.says
      says in
      let reference =
      says_reference one_message before.base text r e.reference takes.message e.message takes.says
      says in (
        reference,
        means,
        subst (λ (q : Reference). get (map_of before.held) q ≡ None) reference takes.absent,
        takes.added ∙ (λ i. insert (map_of before.held) (reference i) (message i)),
        base,
      )
  taken_carries (Ok (took.Repeated, r)) takes base =
      let known = takes.0 in
      let message =
      says_message one_message before.base text r e.reference known.message e.message known.says
      says in
      let reference =
      says_reference one_message before.base text r e.reference known.message e.message known.says
      says in (
        reference,
        means,
        ap (get (map_of before.held)) (sym reference) ∙ known.holds
            ∙ ap Some message,
        takes.1,
        base,
      )
  taken_carries (Err why) takes base = tt

  unspelt : (why : TextFault) → IsUnspelt text why → ⊥
  unspelt text_fault.Memory un = un
  unspelt (text_fault.Refused why line) un = un.0 e.message spelt

  refuses : (why : DeskFault) → RefusesText (state_of before) text why → RefusesOne theirs before e why
  refuses fault.Memory r = tt
  refuses (fault.Text why) r = absurd (unspelt why r)
  refuses (fault.Resolve why) r =
      let same : r.message ≡ e.message =
      one_message r.message e.message _ r.spelt.spelled spelt.spelled in
      absurd (refused_none one_outcome before.base.records e.message why r.of_message
      (subst (λ (m : MessageValue). IsRefusedIn before.base.records m why) same r.refused) means.0
      means.1)
  refuses (fault.Conflict reference) r =
      let message =
      says_message one_message before.base text reference e.reference r.message e.message r.says
      says in
      let same =
      says_reference one_message before.base text reference e.reference r.message e.message r.says
      says in (
        same,
        means,
        r.other,
        ap (get (map_of before.held)) (sym same)
            ∙ r.holds,
        λ equal. r.apart (equal ∙ sym message),
      )
  refuses fault.OtherBase r = absurd r
  refuses (fault.Read why) r = absurd r
  refuses (fault.File offset) r = absurd r

  pub taken_refuses : (r : Result (Took × Reference) DeskFault)
      → Takes (state_of before) text (take_answer r) (map_of after.held)
      → IfErr r (RefusesOne theirs before e)
  taken_refuses (Ok t) takes = tt
  taken_refuses (Err why) takes = refuses why takes.0

-- ---- what a list has under a reference

-- the message is found under the reference
abbrev pub Found : List Entry → Reference → MessageValue → Type 0
Found es r m = find reference_cmp r (keyed es) ≡ Some m

abbrev pub IsSorted : List Entry → Type 0
IsSorted es = T (is_sorted reference_cmp (keyed es))

-- nothing is found under a reference before all
find_own : (y : Reference) (ps : List (Reference × MessageValue)) → T (below_all reference_cmp y ps)
    → find reference_cmp y ps ≡ None
find_own y [] below = refl
find_own y (p ∷ ps) below =
    ap (λ (o : Ordering). cond (is_eq o) (Some p.1) (find reference_cmp y ps))
    (less-from_T _ (and_left _ _ below)) ∙ find_own y ps (and_right _ _ below)

pub none_some : (m : MessageValue) → None ≡ Some m → ⊥
none_some m h = cc

pub some_same : (a b : MessageValue) → Some a ≡ Some b → a ≡ b
some_same a b h = cc

-- under the reference of the first entry is its message
pub found_first : (e : Entry) (es : List Entry) → Found (e ∷ es) e.reference e.message
found_first e es =
    ap (λ (o : Ordering). cond (is_eq o) (Some e.message) (find reference_cmp e.reference (keyed es)))
    (self_equal e.reference)

-- what is found is the first entry or among the others
pub data IsAt (e : Entry) (es : List Entry) (r : Reference) (m : MessageValue) : Type 0 where
  at_first : r ≡ e.reference → m ≡ e.message → IsAt e es r m
  at_later : r ≢ e.reference → Found es r m → IsAt e es r m

pub found_at : (e : Entry) (es : List Entry) (r : Reference) (m : MessageValue) → IsSorted (e ∷ es)
    → Found (e ∷ es) r m → IsAt e es r m
found_at e es r m sorted found = by (reference_cmp r e.reference) refl found
  where
    apart : (o : Ordering) → reference_cmp r e.reference ≡ o → is_eq o ≡ false → r ≢ e.reference
    apart o at not_equal same = let equal : o ≡ Equal =
        sym at ∙ ap (λ (q : Reference). reference_cmp q e.reference) same ∙ self_equal e.reference in
        let clash : true ≡ false = sym (ap is_eq equal) ∙ not_equal in cc

    by : (o : Ordering) → reference_cmp r e.reference ≡ o
        → cond (is_eq o) (Some e.message) (find reference_cmp r (keyed es)) ≡ Some m → IsAt e es r m
    by Less at h = at_later (apart Less at refl) h
    by Equal at h = at_first (reference_apart r e.reference at) (some_same m e.message (sym h))
    by Greater at h = at_later (apart Greater at refl) h

-- what is found among the others is under another reference
pub found_apart : (e : Entry) (es : List Entry) (r : Reference) (m : MessageValue) → IsSorted (e ∷ es)
    → Found es r m → r ≢ e.reference
found_apart e es r m sorted found same =
    none_some m (sym (find_own e.reference (keyed es) (and_left _ _ sorted))
    ∙ ap (λ (q : Reference). find reference_cmp q (keyed es)) (sym same) ∙ found)

pub found_later : (e : Entry) (es : List Entry) (r : Reference) (m : MessageValue) → IsSorted (e ∷ es)
    → Found es r m → Found (e ∷ es) r m
found_later e es r m sorted found = by (reference_cmp r e.reference) refl
  where
    by : (o : Ordering) → reference_cmp r e.reference ≡ o
        → cond (is_eq (reference_cmp r e.reference)) (Some e.message)
        (find reference_cmp r (keyed es)) ≡ Some m
    by Less at =
        ap (λ (o : Ordering). cond (is_eq o) (Some e.message) (find reference_cmp r (keyed es))) at
        ∙ found
    by Equal at = absurd (found_apart e es r m sorted found (reference_apart r e.reference at))
    by Greater at =
        ap (λ (o : Ordering). cond (is_eq o) (Some e.message) (find reference_cmp r (keyed es))) at
        ∙ found

-- ---- what is held after one message

under : (held : HeldMessages) (q r : Reference) (m : MessageValue) (b : Bool)
    → eq_by_cmp reference_cmp r q ≡ b → get (insert held q m) r ≡ cond b (Some m) (get held r)
under held q r m b at =
    get-insert reference_total held q m r ∙ ap (λ (t : Bool). cond t (Some m) (get held r)) at

-- the message of the entry, if it means the same
abbrev Carried : BaseSeen → BaseSeen → Entry → Reference → MessageValue → Type 0
Carried base theirs e r m = (r ≡ e.reference) × (m ≡ e.message) × MeansTheSame base theirs m

module _ (theirs : BaseSeen) (before between : DeskSeen) (e : Entry) where
  pub base_after : (p : PrintedLine) → Carries theirs before e p between → between.base ≡ before.base
  base_after (printed.Left r) c = ap (λ (d : DeskSeen). d.base) c.2
  base_after (printed.Repeated r) c = c.4
  base_after (printed.Taken r) c = c.4
  base_after (printed.SerialNote n) c = absurd c
  base_after (printed.CheckReferenceNote n) c = absurd c
  base_after (printed.Summary a b d) c = absurd c
  base_after (printed.ProblemCount a b) c = absurd c
  base_after (printed.Withdrawn r) c = absurd c
  base_after (printed.NotHeld r) c = absurd c
  base_after (printed.Held n) c = absurd c

  module _ (r : Reference) (m : MessageValue) where
    abbrev Both : Type 0
    Both = (get (map_of before.held) r ≡ Some m) ⊎ Carried before.base theirs e r m

    there : (means : MeansTheSame before.base theirs e.message) (b : Bool)
        → eq_by_cmp reference_cmp r e.reference ≡ b
        → cond b (Some e.message) (get (map_of before.held) r) ≡ Some m → Both
    there means true at h =
        let message = some_same m e.message (sym h) in
        inr (
          equal_at r e.reference at,
          message,
          subst (MeansTheSame before.base theirs) (sym message)
              means,
        )
    there means false at h = inl h

    back : get (map_of before.held) e.reference ≡ None → (b : Bool)
        → eq_by_cmp reference_cmp r e.reference ≡ b → Both
        → cond b (Some e.message) (get (map_of before.held) r) ≡ Some m
    back absent true at (inl h) =
        absurd (none_some m (sym absent
        ∙ ap (get (map_of before.held)) (sym (equal_at r e.reference at)) ∙ h))
    back absent true at (inr c) = ap Some (sym c.1)
    back absent false at (inl h) = h
    back absent false at (inr c) =
        let equal : true ≡ false =
        sym (ap is_eq (ap (λ (q : Reference). reference_cmp q e.reference) c.0
        ∙ self_equal e.reference)) ∙ at in absurd cc

    holds_after : (p : PrintedLine) → Carries theirs before e p between
        → (get (map_of between.held) r ≡ Some m) ↔ Both
    holds_after (printed.Left q) c = (
      λ h. inl (subst (λ (d : DeskSeen). get (map_of d.held) r ≡ Some m) c.2 h),
      λ s. elim s [
        | inl h ↦ subst (λ (d : DeskSeen). get (map_of d.held) r ≡ Some m) (sym c.2) h
        | inr
            k ↦ absurd (c.1 (subst (MeansTheSame before.base theirs) k.1 k.2))
      ],
    )
    holds_after (printed.Repeated q) c = (
      λ h. inl (ap (λ (x : HeldMessages). get x r) (sym c.3) ∙ h),
      λ s. elim s [
        | inl h ↦ ap (λ (x : HeldMessages). get x r) c.3
            ∙ h
        | inr k ↦ ap (λ (x : HeldMessages). get x r) c.3 ∙ ap (get (map_of before.held)) k.0
            ∙ c.2 ∙ ap Some (sym k.1)
      ],
    )
    holds_after (printed.Taken q) c =
        let b = eq_by_cmp reference_cmp r e.reference in
        let found : get (map_of between.held) r ≡ cond b (Some e.message)
        (get (map_of before.held) r) =
        ap (λ (x : HeldMessages). get x r) c.3
        ∙ under (map_of before.held) e.reference r e.message b refl in
        (λ h. there c.1 b refl (sym found ∙ h), λ s. found ∙ back c.2 b refl s)
    holds_after (printed.SerialNote n) c = absurd c
    holds_after (printed.CheckReferenceNote n) c = absurd c
    holds_after (printed.Summary a b d) c = absurd c
    holds_after (printed.ProblemCount a b) c = absurd c
    holds_after (printed.Withdrawn q) c = absurd c
    holds_after (printed.NotHeld q) c = absurd c
    holds_after (printed.Held n) c = absurd c

  -- under another reference nothing changes
  pub same_under : (p : PrintedLine) (r : Reference) → Carries theirs before e p between
      → r ≢ e.reference
      → get (map_of between.held) r ≡ get (map_of before.held) r
  same_under (printed.Left q) r c apart = ap (λ (d : DeskSeen). get (map_of d.held) r) c.2
  same_under (printed.Repeated q) r c apart = ap (λ (x : HeldMessages). get x r) c.3
  same_under (printed.Taken q) r c apart =
      ap (λ (x : HeldMessages). get x r) c.3 ∙ by (eq_by_cmp reference_cmp r e.reference) refl
    where
      by : (b : Bool) → eq_by_cmp reference_cmp r e.reference ≡ b
          → get (insert (map_of before.held) e.reference e.message) r ≡ get (map_of before.held) r
      by true at = absurd (apart (equal_at r e.reference at))
      by false at = under (map_of before.held) e.reference r e.message false at
  same_under (printed.SerialNote n) r c apart = absurd c
  same_under (printed.CheckReferenceNote n) r c apart = absurd c
  same_under (printed.Summary a b d) r c apart = absurd c
  same_under (printed.ProblemCount a b) r c apart = absurd c
  same_under (printed.Withdrawn q) r c apart = absurd c
  same_under (printed.NotHeld q) r c apart = absurd c
  same_under (printed.Held n) r c apart = absurd c

-- ---- what is held after all

pub each_base : (theirs : BaseSeen) (es : List Entry) (before after : DeskSeen) (lines : List ℕ)
    → CarriesEach theirs before es after lines → after.base ≡ before.base
each_base theirs [] before after lines c = ap (λ (d : DeskSeen). d.base) c.0
each_base theirs (e ∷ es) before after lines (p, between, more, one, rest, is) =
    each_base theirs es between after more rest ∙ base_after theirs before between e p one

-- what is held after the first message and after those that are left
module _ (theirs : BaseSeen) (e : Entry) (es : List Entry) (before between after : DeskSeen)
    (p : PrintedLine) (sorted : IsSorted (e ∷ es)) (one : Carries theirs before e p between)
    (r : Reference) (m : MessageValue) where
  abbrev Now : Type 0
  Now = (get (map_of between.held) r ≡ Some m) ⊎ (Found es r m × MeansTheSame between.base theirs m)

  abbrev Before : Type 0
  Before = (get (map_of before.held) r ≡ Some m)
      ⊎ (Found (e ∷ es) r m × MeansTheSame before.base theirs m)

  step : (get (map_of between.held) r ≡ Some m) ↔ ((get (map_of before.held) r ≡ Some m)
      ⊎ Carried before.base theirs e r m)
  step = holds_after theirs before between e r m p one

  base_between : between.base ≡ before.base
  base_between = base_after theirs before between e p one

  to_before : Now → Before
  to_before (inl h) = elim (step.0 h) [
    | inl b ↦ inl b
    | inr k ↦ inr (
      ap (λ (q : Reference). find reference_cmp q (keyed (e ∷ es))) k.0 ∙ found_first e es
          ∙ ap Some (sym k.1),
      k.2,
    )
  ]
  to_before (inr k) =
      inr (
        found_later e es r m sorted k.0,
        subst (λ (b : BaseSeen). MeansTheSame b theirs m)
            base_between k.1,
      )

  of_found : MeansTheSame before.base theirs m → IsAt e es r m → Now
  of_found means (at_first reference message) = inl (step.1 (inr (reference, message, means)))
  of_found means (at_later apart found) =
      inr (found, subst (λ (b : BaseSeen). MeansTheSame b theirs m) (sym base_between) means)

  to_now : Before → Now
  to_now (inl h) = inl (step.1 (inl h))
  to_now (inr k) = of_found k.1 (found_at e es r m sorted k.0)

  both_holds : (get (map_of after.held) r ≡ Some m) ↔ Now
      → (get (map_of after.held) r ≡ Some m) ↔ Before
  both_holds so = (λ h. to_before (so.0 h), λ s. so.1 (to_now s))

pub each_holds : (theirs : BaseSeen) (es : List Entry) (before after : DeskSeen) (lines : List ℕ)
    → IsSorted es → CarriesEach theirs before es after lines
    → (r : Reference) (m : MessageValue)
    → (get (map_of after.held) r ≡ Some m) ↔ ((get (map_of before.held) r ≡ Some m)
    ⊎ (Found es r m × MeansTheSame before.base theirs m))
each_holds theirs [] before after lines sorted c r m = (
  λ h. inl (subst (λ (d : DeskSeen). get (map_of d.held) r ≡ Some m) c.0 h),
  λ s. elim s [
    | inl h ↦ subst (λ (d : DeskSeen). get (map_of d.held) r ≡ Some m) (sym c.0) h
    | inr
        k ↦ absurd (none_some m k.0)
  ],
)
each_holds theirs (e ∷ es) before after lines sorted (p, between, more, one, rest, is) r m =
    both_holds theirs e es before between after p sorted one r m
    (each_holds theirs es between after more (and_right _ _ sorted) rest r m)
