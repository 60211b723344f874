-- What a message does to a flight, and what it finds, is read from that flight alone. So timetables
-- that agree at flights agree there after the same messages.
use Rattle.std.proofs.Common.{◌≡◌, ℕ, ◌+◌, ◌<◌, Bool, true, false, ◌&&◌, ◌||◌, if◌then◌else◌, List, [], ◌∷◌, ◌++◌, map, length, take, get_or, refl, sym, ap, subst, ◌∙◌, append_assoc}
use Rattle.std.proofs.lemmas.List.{take_more}
use Rattle.std.proofs.lemmas.List.Folds.{list_any-append}
use Rattle.std.specs.List.{list_any}
use Rattle.ssim_periods.specs.Calendar.{holds}
use Rattle.ssim_periods.specs.Days.{each_day}
use Rattle.ssim_records.specs.declared.record.Record.{Record}
use Rattle.ssim_base.proofs.Places.{same-self, same-true}
use Rattle.ssim_schedule.specs.Acts.{after_on, finding_of}
use Rattle.ssim_base.specs.BaseSeen.{BaseSeen}
use Rattle.ssim_base.specs.Stations.{Row}
use Rattle.ssim_base.specs.Timetable.{Legs, is_among, itinerary, same_flight}
use Rattle.ssim_base.specs.clauses.Timetable.{itinerary_among}
use Rattle.ssim_schedule.specs.declared.finding.Finding.{Finding}
use Rattle.ssim_base.specs.declared.sub_message.ResolvedSub.{ResolvedSub}
use Rattle.ssim_text.specs.declared.action.Action.{Action}
use Rattle.ssim_text.specs.declared.action.Sub.{Sub}
use Rattle.ssim_values.specs.Flight.{FlightNumber}
use Rattle.ssim_held.specs.Entries.{Entry}
use Rattle.ssim_desk.specs.clauses.Desk.{is_sub_of}
use Rattle.ssim_desk.specs.Meaning.{Timetable, after_entries, after_entry, after_one, after_subs, entries_findings, found_by, subs_findings}
use Rattle.ssim_desk.specs.internal.Changes.{AgreeAt, flights_of}
use Rattle.ssim_desk.specs.Desk.{entry_lines, sub_lines}
use Rattle.ssim_desk.proofs.Lines.{lines-++}
use Rattle.ssim_desk.proofs.Trails.{after_entries-++, findings-++, length-findings}

-- ---- at one flight

-- on one day
module _ (rows : List Row) (g : FlightNumber) (day : ℕ) where
  one_agrees_on : (action : Action) (sub : ResolvedSub) (t u : Timetable) → t g day ≡ u g day → after_one rows action sub t g day ≡ after_one rows action sub u g day
  one_agrees_on action sub t u e = ap (λ (legs : Legs). if same_flight sub.flight g && holds sub.period day then after_on rows action day legs else legs) e

  pub subs_agree_on : (subs : List Sub) (dates : List ResolvedSub) (t u : Timetable) → t g day ≡ u g day → after_subs rows subs dates t g day ≡ after_subs rows subs dates u g day
  subs_agree_on [] dates t u e = e
  subs_agree_on (sub ∷ subs) [] t u e = e
  subs_agree_on (sub ∷ subs) (dated ∷ dates) t u e =
      subs_agree_on subs dates (after_one rows sub.action dated t) (after_one rows sub.action dated u) (one_agrees_on sub.action dated t u e)

  pub entries_agree_on : (es : List Entry) (t u : Timetable) → t g day ≡ u g day → after_entries rows es t g day ≡ after_entries rows es u g day
  entries_agree_on [] t u e = e
  entries_agree_on (x ∷ es) t u e = entries_agree_on es (after_entry rows x t) (after_entry rows x u) (subs_agree_on x.message.subs x.dates t u e)

-- on all days
one_agrees : (rows : List Row) (action : Action) (sub : ResolvedSub) (t u : Timetable) (g : FlightNumber) → t g ≡ u g → after_one rows action sub t g ≡ after_one rows action sub u g
one_agrees rows action sub t u g e = λ i day. one_agrees_on rows g day action sub t u (λ j. e j day) i

subs_agree : (rows : List Row) (subs : List Sub) (dates : List ResolvedSub) (t u : Timetable) (g : FlightNumber) → t g ≡ u g → after_subs rows subs dates t g ≡ after_subs rows subs dates u g
subs_agree rows subs dates t u g e = λ i day. subs_agree_on rows g day subs dates t u (λ j. e j day) i

pub entries_agree : (rows : List Row) (es : List Entry) (t u : Timetable) (g : FlightNumber) → t g ≡ u g → after_entries rows es t g ≡ after_entries rows es u g
entries_agree rows es t u g e = λ i day. entries_agree_on rows g day es t u (λ j. e j day) i

-- a flight in the list has what the base's timetable has
pub among_is : (flights : List FlightNumber) (records : List Record) (g : FlightNumber) → is_among flights g ≡ true → itinerary_among flights records g ≡ itinerary records g
among_is flights records g is = λ i day. if is i then itinerary records g day else []

pub is_among_one : (g : FlightNumber) → is_among (g ∷ []) g ≡ true
is_among_one g = rw (same-self g) refl

-- ---- messages that do not name a flight

both_false : (a b : Bool) → (a || b) ≡ false → (a ≡ false) × (b ≡ false)
both_false false b e = (refl, e)
both_false true b e = absurd cc

one_other : (rows : List Row) (action : Action) (sub : ResolvedSub) (t : Timetable) (g : FlightNumber) → same_flight sub.flight g ≡ false → after_one rows action sub t g ≡ t g
one_other rows action sub t g e = λ i day. if e i && holds sub.period day then after_on rows action day (t g day) else t g day

pub subs_other : (rows : List Row) (subs : List Sub) (dates : List ResolvedSub) (t : Timetable)
    (g : FlightNumber) → list_any (is_sub_of g) dates ≡ false → after_subs rows subs dates t g ≡ t g
subs_other rows [] dates t g e = refl
subs_other rows (sub ∷ subs) [] t g e = refl
subs_other rows (sub ∷ subs) (dated ∷ dates) t g e =
    let both = both_false (same_flight dated.flight g) (list_any (is_sub_of g) dates) e in
    subs_other rows subs dates (after_one rows sub.action dated t) g both.1 ∙ one_other rows sub.action dated t g both.0

-- a message that names none of some flights does not name one that is among them
pub names_none : (flights : List FlightNumber) (dates : List ResolvedSub) (g : FlightNumber) → is_among flights g ≡ true → list_any (λ sub. is_among flights sub.flight) dates ≡ false
    → list_any (is_sub_of g) dates ≡ false
names_none flights [] g is none = refl
names_none flights (sub ∷ dates) g is none =
    by (same_flight sub.flight g) refl (both_false (is_among flights sub.flight) (list_any (λ x. is_among flights x.flight) dates) none) (names_none flights dates g is)
  where
    by : (b : Bool) → same_flight sub.flight g ≡ b → (is_among flights sub.flight ≡ false) × (list_any (λ (x : ResolvedSub). is_among flights x.flight) dates ≡ false)
        → (list_any (λ (x : ResolvedSub). is_among flights x.flight) dates ≡ false → list_any (is_sub_of g) dates ≡ false)
        → (b || list_any (is_sub_of g) dates) ≡ false
    by true e both later =
        let one : sub.flight ≡ g = same-true sub.flight g e in
        let never : true ≡ false = sym is ∙ ap (is_among flights) (sym one) ∙ both.0 in
        absurd (let clash : true ≡ false = never in cc)
    by false e both later = later both.1

-- ---- one more message

module _ (rows : List Row) (es : List Entry) (k : ℕ) (e : Entry) (within : k < length es) (is : e ≡ get_or es k e) (before : Timetable) where
  abbrev so_far : Timetable
  so_far = after_entries rows (take k es) before

  those : take (k + 1) es ≡ take k es ++ e ∷ []
  those = take_more es k e within ∙ ap (λ (x : Entry). take k es ++ x ∷ []) (sym is)

  pub after_one_more : after_entry rows e (after_entries rows (take k es) before) ≡ after_entries rows (take (k + 1) es) before
  after_one_more = sym (ap (λ (xs : List Entry). after_entries rows xs before) those ∙ after_entries-++ rows (take k es) (e ∷ []) before)

  pub lines_one_more : entry_lines (take k es) (entries_findings rows (take k es) before)
      ++ sub_lines e.reference 1 e.message.subs (subs_findings rows e.message.subs e.dates so_far)
      ≡ entry_lines (take (k + 1) es) (entries_findings rows (take (k + 1) es) before)
  lines_one_more =
      sym (lines-++ (take k es) (entries_findings rows (take k es) before) e
      (subs_findings rows e.message.subs e.dates so_far) (length-findings rows (take k es) before))
      ∙ ap (entry_lines (take k es ++ e ∷ [])) (sym (findings-++ rows (take k es) (e ∷ []) before))
      ∙ ap (λ (xs : List Entry). entry_lines xs (entries_findings rows xs before)) (sym those)

  -- the message names the flight, or does not
  module _ (t : Timetable) (g : FlightNumber) (agrees : t g ≡ after_entries rows (take k es) before g) where
    pub named_more : after_entry rows e t g ≡ after_entries rows (take (k + 1) es) before g
    named_more = subs_agree rows e.message.subs e.dates t so_far g agrees ∙ ap (λ (u : Timetable). u g) after_one_more

    pub other_more : list_any (is_sub_of g) e.dates ≡ false → t g ≡ after_entries rows (take (k + 1) es) before g
    other_more none = agrees ∙ sym (subs_other rows e.message.subs e.dates so_far g none) ∙ ap (λ (u : Timetable). u g) after_one_more

-- ---- findings

-- the flights of the sub-messages are among these
abbrev pub AreAmong : List FlightNumber → List ResolvedSub → Type 0
AreAmong flights [] = Unit {0}
AreAmong flights (dated ∷ dates) = (is_among flights dated.flight ≡ true) × AreAmong flights dates

-- the flights of messages are among these
abbrev pub AllAmong : List FlightNumber → List Entry → Type 0
AllAmong flights [] = Unit {0}
AllAmong flights (e ∷ es) = AreAmong flights e.dates × AllAmong flights es

subs_find : (rows : List Row) (subs : List Sub) (dates : List ResolvedSub) (flights : List FlightNumber) (t u : Timetable) → AgreeAt flights t u → AreAmong flights dates
    → subs_findings rows subs dates t ≡ subs_findings rows subs dates u
subs_find rows [] dates flights t u agree among = refl
subs_find rows (sub ∷ subs) [] flights t u agree among = refl
subs_find rows (sub ∷ subs) (dated ∷ dates) flights t u agree among =
    ap (λ (legs : ℕ → Legs). finding_of rows sub.action dated.period (each_day legs) ∷ subs_findings rows subs dates (after_one rows sub.action dated t)) (agree dated.flight among.0)
    ∙ ap (λ (found : List Finding). finding_of rows sub.action dated.period (each_day (u dated.flight)) ∷ found)
    (subs_find rows subs dates flights (after_one rows sub.action dated t) (after_one rows sub.action dated u) (λ g is. one_agrees rows sub.action dated t u g (agree g is)) among.1)

pub entries_find : (rows : List Row) (es : List Entry) (flights : List FlightNumber)
    (t u : Timetable) → AgreeAt flights t u → AllAmong flights es → entries_findings rows es t
    ≡ entries_findings rows es u
entries_find rows [] flights t u agree among = refl
entries_find rows (e ∷ es) flights t u agree among =
    ap (λ (found : List Finding). found ∷ entries_findings rows es (after_entry rows e t)) (subs_find rows e.message.subs e.dates flights t u agree among.0)
    ∙ ap (λ (found : List (List Finding)). subs_findings rows e.message.subs e.dates u ∷ found)
    (entries_find rows es flights (after_entry rows e t) (after_entry rows e u) (λ g is. subs_agree rows e.message.subs e.dates t u g (agree g is)) among.1)

-- ---- the flights that messages name are among all that they name

or-true : (a : Bool) → (a || true) ≡ true
or-true true = refl
or-true false = refl

here : (before after : List FlightNumber) (g : FlightNumber) → is_among (before ++ g ∷ after) g ≡ true
here before after g = list_any-append (same_flight g) before (g ∷ after) ∙ ap (λ b. is_among before g || (b || is_among after g)) (same-self g) ∙ or-true (is_among before g)

subs_among : (before after : List FlightNumber) (dates : List ResolvedSub) → AreAmong (before ++ (map (λ sub. sub.flight) dates ++ after)) dates
subs_among before after [] = tt
subs_among before after (dated ∷ dates) = (
  here before (map (λ sub. sub.flight) dates ++ after) dated.flight,
  subst (λ (flights : List FlightNumber). AreAmong flights dates) (append_assoc before (dated.flight ∷ []) (map (λ sub. sub.flight) dates ++ after))
      (subs_among (before ++ dated.flight ∷ []) after dates),
)

pub all_among : (before : List FlightNumber) (es : List Entry) → AllAmong (before ++ flights_of es)
    es
all_among before [] = tt
all_among before (e ∷ es) = (
  subs_among before (flights_of es) e.dates,
  subst (λ (flights : List FlightNumber). AllAmong flights es) (append_assoc before (map (λ sub. sub.flight) e.dates) (flights_of es))
      (all_among (before ++ map (λ sub. sub.flight) e.dates) es),
)

-- messages find in the timetable of the flights that they name what they find in the whole
pub found_among : (base : BaseSeen) (es : List Entry) → entries_findings base.rows es (itinerary_among (flights_of es) base.records) ≡ found_by base es
found_among base es =
    entries_find base.rows es (flights_of es) (itinerary_among (flights_of es) base.records) (itinerary base.records) (λ g is. among_is (flights_of es) base.records g is) (all_among [] es)
