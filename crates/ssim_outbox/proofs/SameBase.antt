-- What a desk has on a date of a flight is what the actions of its messages leave of the base's
-- itinerary. A desk that holds all that another holds has the other's actions among its own.
use Rattle.std.proofs.Common.{◌≡◌, ◌∙◌, ℕ, ◌<◌, Bool, true, false, if◌then◌else◌, cond, List, []}
use Rattle.std.proofs.Common.{◌∷◌, refl, sym, ap, subst, inl, inr, Some}
use Rattle.std.proofs.lemmas.List.Elements.{All-contains_itself, recursion_from_All}
use Rattle.std.specs.FinMap.{find}
use Rattle.std.specs.List.{AllByRecursion, Contains, flat_map}
use Rattle.std.specs.Ordering.{is_eq}
use Rattle.std.specs.declared.cmp.Ordering.{Ordering}
use Rattle.std.specs.declared.cmp.Ordering.TheVariants.{Equal, Greater, Less}
use Rattle.ssim_values.specs.Flight.{FlightNumber, IsFlight}
use Rattle.ssim_periods.specs.Calendar.{day_count}
use Rattle.ssim_records.specs.declared.record.Record.{Record}
use Rattle.ssim_base.specs.BaseSeen.{BaseSeen, WasRead}
use Rattle.ssim_base.specs.ReadBack.{IsWritable}
use Rattle.ssim_base.specs.Resolve.{ResolvesIn}
use Rattle.ssim_base.specs.Stations.{Row}
use Rattle.ssim_base.specs.Timetable.{Legs, itinerary, on_day}
use Rattle.ssim_base.specs.declared.sub_message.ResolvedSub.{ResolvedSub}
use Rattle.ssim_base.proofs.Calendars.{at-each_day}
use Rattle.ssim_base.proofs.FrameLemmas.{exportable}
use Rattle.ssim_text.specs.Canonical.{canonical}
use Rattle.ssim_text.specs.Message.{MessageValue}
use Rattle.ssim_text.specs.declared.action.Action.{Action}
use Rattle.ssim_text.specs.declared.action.Sub.{Sub}
use Rattle.ssim_text.specs.declared.reference.Reference.{Reference}
use Rattle.ssim_text.proofs.ReadsBack.{all_both}
use Rattle.ssim_held.specs.Entries.{AreEntries, Entry, IsEntry, keyed}
use Rattle.ssim_held.specs.Held.{reference_cmp}
use Rattle.ssim_held.proofs.Entries.{T-from_true, get-map_of}
use Rattle.ssim_held.proofs.References.{reference_apart, reference_total}
use Rattle.ssim_held.proofs.Resolving.{one_subs}
use Rattle.ssim_desk.specs.DateSteps.{is_on}
use Rattle.ssim_desk.specs.Desk.{days_of_desk, timetable_of}
use Rattle.ssim_desk.specs.Meaning.{Timetable, after_entries, after_entry, after_one, after_subs}
use Rattle.ssim_desk.specs.Meaning.{left_by}
use Rattle.ssim_desk.proofs.HeldEntries.{each_found}
use Rattle.ssim_difference.specs.Differences.{NoneDiffer}
use Rattle.ssim_outbox.specs.Published.{IsPublishedOn}
use Rattle.ssim_outbox.specs.Reach.{IsSaid, Reach, after_all}
use Rattle.ssim_outbox.specs.Sayable.{HaveColumns}
use Rattle.ssim_outbox.proofs.MoreActions.{given_in, more_reached}
use Rattle.ssim_outbox.proofs.SaidAgain.{IsIn}
use Rattle.ssim_outbox.proofs.Tried.{after_both}
use Rattle.ssim_outbox.specs.Messages.{IsText}
use Rattle.ssim_outbox.specs.SameBase.{AllIsReached, NothingIsUnsaid}

-- ---- the actions on a date of a flight

-- the actions of the sub-messages that name the flight and the date
abbrev actions_on : FlightNumber → ℕ → List Sub → List ResolvedSub → List Action
actions_on flight day (sub ∷ subs) (dated ∷ dates) =
    if is_on flight day dated then sub.action ∷ actions_on flight day subs dates
    else actions_on flight day subs dates
actions_on _ _ _ _ = []

abbrev entry_actions : FlightNumber → ℕ → Entry → List Action
entry_actions flight day e = actions_on flight day e.message.subs e.dates

subs_act : (rows : List Row) (flight : FlightNumber) (day : ℕ) (subs : List Sub)
    (dates : List ResolvedSub) (before : Timetable)
    → after_subs rows subs dates before flight day
    ≡ after_all rows day (actions_on flight day subs dates) (before flight day)
subs_act rows flight day [] dates before = refl
subs_act rows flight day (sub ∷ subs) [] before = refl
subs_act rows flight day (sub ∷ subs) (dated ∷ dates) before =
    by (is_on flight day dated) refl (subs_act rows flight day subs dates next)
  where
    next : Timetable
    next = after_one rows sub.action dated before

    old : Legs
    old = before flight day

    rest : List Action
    rest = actions_on flight day subs dates

    acted : Bool → Legs
    acted b = if b then after_all rows day (sub.action ∷ []) old else old

    by : (b : Bool) → is_on flight day dated ≡ b
        → after_subs rows subs dates next flight day ≡ after_all rows day rest (next flight day)
        → after_subs rows subs dates next flight day
        ≡ after_all rows day (if b then sub.action ∷ rest else rest) old
    by true on later = later ∙ ap (λ (b : Bool). after_all rows day rest (acted b)) on
    by false off later = later ∙ ap (λ (b : Bool). after_all rows day rest (acted b)) off

entries_act : (rows : List Row) (flight : FlightNumber) (day : ℕ) (entries : List Entry)
    (before : Timetable)
    → after_entries rows entries before flight day
    ≡ after_all rows day (flat_map (entry_actions flight day) entries) (before flight day)
entries_act rows flight day [] before = refl
entries_act rows flight day (e ∷ entries) before =
    let rest = flat_map (entry_actions flight day) entries in
    entries_act rows flight day entries (after_entry rows e before)
    ∙ ap (after_all rows day rest) (subs_act rows flight day e.message.subs e.dates before)
    ∙ sym (after_both rows day (entry_actions flight day e) rest (before flight day))

-- ---- each action is one that a text can have

module _ (flight : FlightNumber) (day : ℕ) where
  subs_said : (m : MessageValue) → IsText m → (subs : List Sub) (dates : List ResolvedSub)
      → AllByRecursion (Contains m.subs) subs
      → AllByRecursion IsSaid (actions_on flight day subs dates)
  subs_said m text [] dates h = tt
  subs_said m text (sub ∷ subs) [] h = tt
  subs_said m text (sub ∷ subs) (dated ∷ dates) h =
      by (is_on flight day dated) (subs_said m text subs dates h.1)
    where
      said : IsSaid sub.action
      said = record {
        text = canonical m;
        message = m;
        spelled = text;
        sub = sub;
        contained = h.0;
        action_is = refl;
      }

      by : (b : Bool) → AllByRecursion IsSaid (actions_on flight day subs dates)
          → AllByRecursion IsSaid (if b then sub.action ∷ actions_on flight day subs dates
          else actions_on flight day subs dates)
      by true later = (said, later)
      by false later = later

  entries_said : (entries : List Entry) → AllByRecursion (λ e. IsText e.message) entries
      → AllByRecursion IsSaid (flat_map (entry_actions flight day) entries)
  entries_said [] h = tt
  entries_said (e ∷ entries) h =
      let subs = e.message.subs in
      let own = recursion_from_All (Contains subs) subs (All-contains_itself subs) in
      all_both IsSaid (entry_actions flight day e) (flat_map (entry_actions flight day) entries)
      (subs_said e.message h.0 subs e.dates own) (entries_said entries h.1)

-- ---- the actions of one desk are among those of the other

-- an entry of the list has the message
record HasMessage (records : List Record) (entries : List Entry)
    (message : MessageValue) : Type 0 where
  entry : Entry
  there : IsIn entries entry
  is_entry : IsEntry records entry
  says : entry.message ≡ message

found_entry : (records : List Record) (q : Reference) (entries : List Entry) (m : MessageValue)
    → AllByRecursion (IsEntry records) entries → find reference_cmp q (keyed entries) ≡ Some m
    → HasMessage records entries m
found_entry records q [] m are h = absurd cc
found_entry records q (e ∷ entries) m are h =
    by (reference_cmp q e.reference) h (found_entry records q entries m are.1)
  where
    further : HasMessage records entries m → HasMessage records (e ∷ entries) m
    further w =
        record { entry = w.entry; there = inr w.there; is_entry = w.is_entry; says = w.says }

    by : (o : Ordering)
        → cond (is_eq o) (Some e.message) (find reference_cmp q (keyed entries)) ≡ Some m
        → (find reference_cmp q (keyed entries) ≡ Some m → HasMessage records entries m)
        → HasMessage records (e ∷ entries) m
    by Less h later = further (later h)
    by Equal h later = record { entry = e; there = inl refl; is_entry = are.0; says = cc }
    by Greater h later = further (later h)

-- two entries of one message have the same dates
same_dates : (records : List Record) (d e : Entry) → IsEntry records d → IsEntry records e
    → d.message ≡ e.message → d.dates ≡ e.dates
same_dates records d e is are same =
    sym is.dated
    ∙ one_subs records e.message is.text are.text
    (subst (λ (m : MessageValue). ResolvesIn records m is.text) same is.resolves) are.resolves
    ∙ are.dated

module _ (records : List Record) (flight : FlightNumber) (day : ℕ) (all : List Entry)
    (are_all : AllByRecursion (IsEntry records) all) where
  abbrev IsAmong : Action → Type 0
  IsAmong = IsIn (flat_map (entry_actions flight day) all)

  entry_among : (e : Entry) → IsEntry records e → HasMessage records all e.message
      → AllByRecursion IsAmong (entry_actions flight day e)
  entry_among e is has =
      let same : entry_actions flight day has.entry ≡ entry_actions flight day e =
      (λ i. actions_on flight day (has.says i).subs
      (same_dates records has.entry e has.is_entry is has.says i)) in
      subst (AllByRecursion IsAmong) same
      (given_in (entry_actions flight day) all has.entry has.there)

  entries_among : (some : List Entry) → AllByRecursion (IsEntry records) some
      → AllByRecursion
      (λ (p : Reference × MessageValue). find reference_cmp p.0 (keyed all) ≡ Some p.1) (keyed some)
      → AllByRecursion IsAmong (flat_map (entry_actions flight day) some)
  entries_among [] are found = tt
  entries_among (e ∷ some) are found =
      all_both IsAmong (entry_actions flight day e) (flat_map (entry_actions flight day) some)
      (entry_among e are.0 (found_entry records e.reference all e.message are_all found.0))
      (entries_among some are.1 found.1)

-- ---- the itinerary of the base

columns_of : (legs : Legs) → AllByRecursion IsWritable legs → HaveColumns legs
columns_of [] h = tt
columns_of (leg ∷ legs) h = (h.0.columns.len, columns_of legs h.1)

base_long : (records : List Record) → WasRead records → (flight : FlightNumber) (day : ℕ)
    → IsFlight flight → day < day_count → HaveColumns (itinerary records flight day)
base_long records read flight day is within =
    let writable = (exportable records read).legs flight day is within in
    let legs = recursion_from_All IsWritable _ writable in
    subst HaveColumns (at-each_day (itinerary records flight) day within) (columns_of _ legs)

-- ---- both laws

pub all_is_reached : AllIsReached
all_is_reached from to h flight day is within =
    subst (λ (legs : Legs). Reach rows day legs (on_day (days_of_desk to flight) day)) (sym old_is)
    (subst (Reach rows day (after_all rows day (actions from.held) base)) (sym new_is)
    (more_reached rows day base (actions from.held) (actions to.held)
    (base_long records h.was_read flight day is within)
    (entries_said flight day to.held (recursion_from_All (λ e. IsText e.message) to.held h.texts))
    (entries_among records flight day to.held
    (recursion_from_All (IsEntry records) to.held to_entries.each) from.held
    (recursion_from_All (IsEntry records) from.held h.from_entries.each) found)))
  where
    rows : List Row
    rows = from.base.rows

    records : List Record
    records = from.base.records

    base : Legs
    base = itinerary records flight day

    actions : List Entry → List Action
    actions entries = flat_map (entry_actions flight day) entries

    to_entries : AreEntries records to.held
    to_entries = subst (λ (b : BaseSeen). AreEntries b.records to.held) h.base h.to_entries

    found : AllByRecursion
        (λ (p : Reference × MessageValue). find reference_cmp p.0 (keyed to.held) ≡ Some p.1)
        (keyed from.held)
    found =
        each_found reference_total reference_apart
        (λ (q : Reference) (m : MessageValue). find reference_cmp q (keyed to.held) ≡ Some m)
        (keyed from.held) (T-from_true _ h.from_entries.rising)
        (λ q m there. sym (get-map_of to.held q to_entries.rising)
        ∙ h.holds q m (get-map_of from.held q h.from_entries.rising ∙ there))

    old_is : on_day (days_of_desk from flight) day ≡ after_all rows day (actions from.held) base
    old_is =
        at-each_day (timetable_of from flight) day within
        ∙ entries_act rows flight day from.held (itinerary records)

    new_is : on_day (days_of_desk to flight) day ≡ after_all rows day (actions to.held) base
    new_is =
        at-each_day (timetable_of to flight) day within
        ∙ ap (λ (b : BaseSeen). left_by b to.held flight day) h.base
        ∙ entries_act rows flight day to.held (itinerary records)

published_on : (rows : List Row) (day : ℕ) (old new after : Legs)
    → IsPublishedOn rows day old new after → Reach rows day old new → after ≡ new
published_on rows day old new after (inl made) reach = made.0
published_on rows day old new after (inr stays) reach = absurd (stays.1 reach)

pub nothing_is_unsaid : NoneDiffer → NothingIsUnsaid
nothing_is_unsaid none from to old new after h begin end published =
    (none after new).1
    (λ flight day is within. published_on from.base.rows day (on_day (old flight) day)
    (on_day (new flight) day) (on_day (after flight) day) (published flight day is within)
    (reached flight day is within))
  where
    reached : (flight : FlightNumber) (day : ℕ) → IsFlight flight → day < day_count
        → Reach from.base.rows day (on_day (old flight) day) (on_day (new flight) day)
    reached flight day is within =
        subst (λ (legs : Legs). Reach from.base.rows day legs (on_day (new flight) day))
        (sym (begin flight day is within))
        (subst (Reach from.base.rows day (on_day (days_of_desk from flight) day))
        (sym (end flight day is within)) (all_is_reached from to h flight day is within))
