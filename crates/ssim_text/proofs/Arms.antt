-- Each arm of the state machine: which line leads to which state, and which line is refused.
use Rattle.std.proofs.Common.{◌≡◌, ◌<◌, ◌≤◌, ℕ, List, length, refl, take, drop, Option, Some, None, codes, arith, true, false, sym, ap, ◌∙◌}
use Rattle.std.specs.Prelude.{nat_lt, Bool, ◌&&◌, ◌||◌, ◌==◌, if◌then◌else◌, is_some}
use Rattle.std.specs.Str.{bytes_eq}
use Rattle.std.proofs.lemmas.Bool.{false_from_ne_true, lt-ltb, le-ltb, eqb-true}
use Rattle.std.proofs.lemmas.List.{length-take, length-drop}
use Rattle.std.proofs.lemmas.Slice.Eq.{bytes_eq-Decides}
use Rattle.ssim_text.specs.declared.kind.Kind.{Kind}
use Rattle.ssim_values.specs.declared.time_mode.TimeMode.{TimeMode}
use Rattle.ssim_values.specs.declared.time_mode.TimeMode.TheVariants.{Utc}
use Rattle.ssim_text.specs.declared.kind.ActionIdentifier.{ActionIdentifier}
use Rattle.ssim_text.specs.declared.kind.ActionIdentifier.TheVariants as identifier
use Rattle.ssim_text.specs.declared.reference.GivenReference.{GivenReference}
use Rattle.ssim_text.specs.declared.dates.GivenDate.{GivenDate}
use Rattle.ssim_text.specs.declared.dates.GivenPeriod.{GivenPeriod}
use Rattle.ssim_text.specs.declared.dates.Dates.{Dates}
use Rattle.ssim_text.specs.declared.dates.Dates.TheVariants.{Period, Date}
use Rattle.ssim_text.specs.declared.leg.LegEnd.{LegEnd}
use Rattle.ssim_text.specs.declared.leg.LegLine.{LegLine}
use Rattle.ssim_text.specs.Bytes.{◌>>=◌, before, from, word, after_word}
use Rattle.ssim_text.specs.declared.segment.SegmentLine.{SegmentLine}
use Rattle.ssim_text.specs.declared.fault.Fault.TheVariants as fault
use Rattle.ssim_text.specs.declared.decoder_state.Equipped.{Equipped}
use Rattle.ssim_text.specs.declared.decoder_state.Body.{Body}
use Rattle.ssim_text.specs.declared.decoder_state.State.TheVariants.{AtStart, AtKind, AtMode, AtReference, AtAction, AtFlight, AtDatedFlight, AtPeriod, AtEquipment, AtLegs, AtEnd, AtNext, AtFree}
use Rattle.ssim_values.specs.declared.designator.Designator.{Designator}
use Rattle.ssim_values.specs.Designator.{SpellsDesignator}
use Rattle.ssim_values.specs.Clock.{clock_of}
use Rattle.ssim_values.specs.Station.{is_station}
use Rattle.ssim_text.specs.Values.{EquipmentValue, no_originator}
use Rattle.ssim_text.specs.Message.{MessageValue, begun, with_free}
use Rattle.ssim_text.specs.Lines.{originator_of, kind_text, mode_text, reference_of, identifier_text, SpellsDatedFlight, period_of, equipment_of, variations_of, end_of, points_of, station_in, clock_in, digits_in, segment_text_of, leg_of, segment_of, begins_free}
use Rattle.ssim_text.specs.Grammar.{Part, OriginatorPart, KindPart, ModePart, ReferencePart, ActionPart, FlightPart, DatedFlightPart, PeriodPart, EquipmentPart, LegPart, SegmentPart, Divider, FreePart, Spells}
use Rattle.ssim_text.specs.Machine.{step, fault_of, fits_if_segment, fits_segment, is_action, flight_expected, body_expected, after_equipment, takes_leg, takes_segment, is_none_yet, is_whole, with_leg, with_segment, with_body}
use Rattle.ssim_text.specs.internal.DecoderState.{Takes, Refuses}

none_some : {A : Type 0} (a : A) → None ≡ Some a → ⊥
none_some a h = cc

some_same : {A : Type 0} (a b : A) → Some a ≡ Some b → a ≡ b
some_same a b h = cc

never : {A : Type 0} (o : Option A) (a : A) → o ≡ None → o ≡ Some a → ⊥
never o a h k = none_some a (sym h ∙ k)

-- ---- the lines before the sub-messages

pub take_originator : (originator line : List ℕ) → originator_of line ≡ Some originator → Takes AtStart line (AtKind originator)
take_originator originator line h = record { part = OriginatorPart originator; spelled = h; step = refl }

pub take_first_kind : (kind : Kind) (line : List ℕ) → line ≡ kind_text kind → Takes AtStart line (AtMode no_originator kind)
take_first_kind kind line h = record { part = KindPart kind; spelled = h; step = refl }

pub no_start : (line : List ℕ) → originator_of line ≡ None → ((kind : Kind) → line ≡ kind_text kind → ⊥) → (part : Part) → Spells part line → step AtStart part ≡ None
no_start line none_so other (OriginatorPart o) h = absurd (never (originator_of line) o none_so h)
no_start line none_so other (KindPart kind) h = absurd (other kind h)
no_start line none_so other part h = refl

pub take_kind : (originator : List ℕ) (kind : Kind) (line : List ℕ) → line ≡ kind_text kind → Takes (AtKind originator) line (AtMode originator kind)
take_kind originator kind line h = record { part = KindPart kind; spelled = h; step = refl }

pub no_kind : (originator line : List ℕ) → ((kind : Kind) → line ≡ kind_text kind → ⊥) → (part : Part) → Spells part line → step (AtKind originator) part ≡ None
no_kind originator line other (KindPart kind) h = absurd (other kind h)
no_kind originator line other part h = refl

pub take_mode : (originator : List ℕ) (kind : Kind) (mode : TimeMode) (line : List ℕ) → line ≡ mode_text mode → Takes (AtMode originator kind) line (AtReference originator kind mode)
take_mode originator kind mode line h = record { part = ModePart mode; spelled = h; step = refl }

pub take_only_reference : (originator : List ℕ) (kind : Kind) (r : GivenReference) (line : List ℕ) → reference_of line ≡ Some r → Takes (AtMode originator kind) line (AtAction (begun originator kind Utc r))
take_only_reference originator kind r line h = record { part = ReferencePart r; spelled = h; step = refl }

pub no_mode : (originator : List ℕ) (kind : Kind) (line : List ℕ) → ((mode : TimeMode) → line ≡ mode_text mode → ⊥) → reference_of line ≡ None → (part : Part) → Spells part line → step (AtMode originator kind) part ≡ None
no_mode originator kind line other none_so (ModePart mode) h = absurd (other mode h)
no_mode originator kind line other none_so (ReferencePart r) h = absurd (never (reference_of line) r none_so h)
no_mode originator kind line other none_so part h = refl

pub take_reference : (originator : List ℕ) (kind : Kind) (mode : TimeMode) (r : GivenReference) (line : List ℕ) → reference_of line ≡ Some r → Takes (AtReference originator kind mode) line (AtAction (begun originator kind mode r))
take_reference originator kind mode r line h = record { part = ReferencePart r; spelled = h; step = refl }

pub no_reference : (originator : List ℕ) (kind : Kind) (mode : TimeMode) (line : List ℕ) → reference_of line ≡ None → (part : Part) → Spells part line → step (AtReference originator kind mode) part ≡ None
no_reference originator kind mode line none_so (ReferencePart r) h = absurd (never (reference_of line) r none_so h)
no_reference originator kind mode line none_so part h = refl

-- ---- action, flight, dates, equipment

pub take_action : (m : MessageValue) (a : ActionIdentifier) (line : List ℕ) → line ≡ identifier_text a → Takes (AtAction m) line (flight_expected m.kind m a)
take_action m a line h = record { part = ActionPart a; spelled = h; step = refl }

pub no_action : (m : MessageValue) (line : List ℕ) → ((a : ActionIdentifier) → line ≡ identifier_text a → ⊥) → (part : Part) → Spells part line → step (AtAction m) part ≡ None
no_action m line other (ActionPart a) h = absurd (other a h)
no_action m line other part h = refl

pub take_flight : (m : MessageValue) (a : ActionIdentifier) (d : Designator) (line : List ℕ) → SpellsDesignator d line → Takes (AtFlight m a) line (AtPeriod m a d)
take_flight m a d line h = record { part = FlightPart d; spelled = h; step = refl }

pub no_flight : (m : MessageValue) (a : ActionIdentifier) (line : List ℕ) → ((d : Designator) → SpellsDesignator d line → ⊥) → (part : Part) → Spells part line → step (AtFlight m a) part ≡ None
no_flight m a line none_so (FlightPart d) h = absurd (none_so d h)
no_flight m a line none_so part h = refl

pub take_dated_flight : (m : MessageValue) (a : ActionIdentifier) (d : Designator) (date : GivenDate) (line : List ℕ) → SpellsDatedFlight d date line → Takes (AtDatedFlight m a) line (body_expected a m d (Date date))
take_dated_flight m a d date line h = record { part = DatedFlightPart d date; spelled = h; step = refl }

pub no_dated_flight : (m : MessageValue) (a : ActionIdentifier) (line : List ℕ) → ((d : Designator) (date : GivenDate) → SpellsDatedFlight d date line → ⊥) → (part : Part) → Spells part line → step (AtDatedFlight m a) part ≡ None
no_dated_flight m a line none_so (DatedFlightPart d date) h = absurd (none_so d date h)
no_dated_flight m a line none_so part h = refl

pub take_period : (m : MessageValue) (a : ActionIdentifier) (d : Designator) (p : GivenPeriod) (line : List ℕ) → period_of line ≡ Some p → Takes (AtPeriod m a d) line (body_expected a m d (Period p))
take_period m a d p line h = record { part = PeriodPart p; spelled = h; step = refl }

pub no_period : (m : MessageValue) (a : ActionIdentifier) (d : Designator) (line : List ℕ) → period_of line ≡ None → (part : Part) → Spells part line → step (AtPeriod m a d) part ≡ None
no_period m a d line none_so (PeriodPart p) h = absurd (never (period_of line) p none_so h)
no_period m a d line none_so part h = refl

pub take_equipment : (m : MessageValue) (e : Equipped) (d : Designator) (dates : Dates) (equipment : EquipmentValue) (line : List ℕ) → equipment_of line ≡ Some equipment → Takes (AtEquipment m e d dates) line (after_equipment e m d dates equipment)
take_equipment m e d dates equipment line h = record { part = EquipmentPart equipment; spelled = h; step = refl }

pub no_equipment : (m : MessageValue) (e : Equipped) (d : Designator) (dates : Dates) (line : List ℕ) → equipment_of line ≡ None → (part : Part) → Spells part line → step (AtEquipment m e d dates) part ≡ None
no_equipment m e d dates line none_so (EquipmentPart equipment) h = absurd (never (equipment_of line) equipment none_so h)
no_equipment m e d dates line none_so part h = refl

-- ---- legs and segments

choose_some : {A : Type 0} (b : Bool) (x : A) → b ≡ true → (if b then Some x else None) ≡ Some x
choose_some b x h = rw h refl

choose_none : {A : Type 0} (b : Bool) (x : A) → b ≡ false → (if b then Some x else None) ≡ None
choose_none b x h = rw h refl

both : (a b : Bool) → a ≡ true → b ≡ true → a && b ≡ true
both a b h k = rw (h, k) refl

left_false : (a b : Bool) → a ≡ false → a && b ≡ false
left_false a b h = rw h refl

right_false : (a b : Bool) → b ≡ false → a && b ≡ false
right_false true b h = h
right_false false b h = refl

less : (a b : ℕ) → a < b → nat_lt a b ≡ true
less a b h = lt-ltb a b h

not_less : (a b : ℕ) → b ≤ a → nat_lt a b ≡ false
not_less a b h = le-ltb a b h

pub take_leg : (m : MessageValue) (b : Body) (leg : LegLine) (line : List ℕ) → leg_of line ≡ Some leg → is_none_yet b.segments ≡ true → length b.legs < 20 → Takes (AtLegs m b) line (AtLegs m (with_leg b leg))
take_leg m b leg line h none short = record { part = LegPart leg; spelled = h; step = choose_some (takes_leg b) (AtLegs m (with_leg b leg)) (both (is_none_yet b.segments) (nat_lt (length b.legs) 20) none (less (length b.legs) 20 short)) }

pub take_segment : (m : MessageValue) (b : Body) (s : SegmentLine) (line : List ℕ) → segment_of line ≡ Some s → fits_segment b s ≡ true → length b.segments < 99 → Takes (AtLegs m b) line (AtLegs m (with_segment b s))
take_segment m b s line h fits short = record { part = SegmentPart s; spelled = h; step = choose_some (takes_segment b s) (AtLegs m (with_segment b s)) (both (fits_segment b s) (nat_lt (length b.segments) 99) fits (less (length b.segments) 99 short)) }

pub take_divider : (m : MessageValue) (b : Body) (line : List ℕ) → line ≡ codes "//" → is_whole b ≡ true → Takes (AtLegs m b) line (AtNext (with_body m b))
take_divider m b line h whole = record { part = Divider; spelled = h; step = choose_some (is_whole b) (AtNext (with_body m b)) whole }

-- a divider is no leg line
no_leg_divider : (leg : LegLine) → leg_of (codes "//") ≡ Some leg → ⊥
unfolding leg_of end_of
no_leg_divider leg h = none_some leg h

no_segment_divider : (s : SegmentLine) → segment_of (codes "//") ≡ Some s → ⊥
unfolding segment_of
no_segment_divider s h = none_some s h

pub leg_or_divider : (leg : LegLine) (line : List ℕ) → leg_of line ≡ Some leg → line ≡ codes "//" → ⊥
leg_or_divider leg line h e = no_leg_divider leg (ap leg_of (sym e) ∙ h)

pub segment_or_divider : (s : SegmentLine) (line : List ℕ) → segment_of line ≡ Some s → line ≡ codes "//" → ⊥
segment_or_divider s line h e = no_segment_divider s (ap segment_of (sym e) ∙ h)

-- ---- a leg line is no segment line: its first word is longer

some_of_if : {A : Type 0} (b : Bool) (o : Option A) (y : A) → (if b then o else None) ≡ Some y → (b ≡ true) × (o ≡ Some y)
some_of_if true o y h = (refl, h)
some_of_if false o y h = absurd (none_some y h)

some_of_else : {A : Type 0} (b : Bool) (o : Option A) (y : A) → (if b then None else o) ≡ Some y → (b ≡ false) × (o ≡ Some y)
some_of_else true o y h = absurd (none_some y h)
some_of_else false o y h = (refl, h)

equal : (a b : ℕ) → (a == b) ≡ true → a ≡ b
equal a b h = eqb-true a b h

station_length : (text s : List ℕ) → station_in text ≡ Some s → length text ≡ 3
station_length text s h = equal (length text) 3 (some_of_if (length text == 3) (if is_station text then Some text else None) s h).0

clock_length : (text : List ℕ) (n : ℕ) → clock_in text ≡ Some n → length text ≡ 4
clock_length text n h = equal (length text) 4 (some_of_if (length text == 4) (clock_of text) n h).0

end_clock : (station : Option (List ℕ)) (time : Option ℕ) (rest : ℕ → Option (ℕ × ℕ)) (e : LegEnd)
    → (station >>= λ s. time >>= λ t. rest t >>= λ r. Some (record { station = s; time = t; variation = r.0; passenger = r.1 })) ≡ Some e → (n : ℕ) × (time ≡ Some n)
end_clock None time rest e h = absurd (none_some e h)
end_clock (Some s) None rest e h = absurd (none_some e h)
end_clock (Some s) (Some t) rest e h = (t, refl)

seven_bytes : (text : List ℕ) → length (take 4 (drop 3 text)) ≡ 4 → 7 ≤ length text
seven_bytes text h = omega (arith, h, length-take 4 (drop 3 text), length-drop 3 text)

end_length : (text : List ℕ) (e : LegEnd) → end_of text ≡ Some e → 7 ≤ length text
unfolding end_of
end_length text e h =
    let time = end_clock (station_in (take 3 text)) (clock_in (take 4 (drop 3 text))) (λ t. variations_of t (drop 4 (drop 3 text))) e h in
    seven_bytes text (clock_length (take 4 (drop 3 text)) time.0 time.1)

two_stations : (board off : Option (List ℕ)) (p : List ℕ × List ℕ) → (board >>= λ b. off >>= λ o. Some (b, o)) ≡ Some p → (b : List ℕ) × (o : List ℕ) × (board ≡ Some b) × (off ≡ Some o)
two_stations None off p h = absurd (none_some p h)
two_stations (Some b) None p h = absurd (none_some p h)
two_stations (Some b) (Some o) p h = (b, o, refl, refl)

six_bytes : (text : List ℕ) → length (take 3 text) ≡ 3 → length (drop 3 text) ≡ 3 → length text ≡ 6
six_bytes text h k = omega (arith, h, k, length-take 3 text, length-drop 3 text)

points_length : (text : List ℕ) (p : List ℕ × List ℕ) → points_of text ≡ Some p → length text ≡ 6
points_length text p h =
    let w = two_stations (station_in (take 3 text)) (station_in (drop 3 text)) p (some_of_else (bytes_eq text (codes "QQQQQQ")) (station_in (take 3 text) >>= λ board. station_in (drop 3 text) >>= λ off. Some (board, off)) p h).1 in
    six_bytes text (station_length (take 3 text) w.0 w.2) (station_length (drop 3 text) w.1 w.3)

leg_departs : (departure arrival : Option LegEnd) (leg : LegLine) → (departure >>= λ d. arrival >>= λ a. Some (record { departure = d; arrival = a })) ≡ Some leg → (d : LegEnd) × (departure ≡ Some d)
leg_departs None arrival leg h = absurd (none_some leg h)
leg_departs (Some d) arrival leg h = (d, refl)

segment_points : (points : Option (List ℕ × List ℕ)) (identifier : Option ℕ) (text : Option (List ℕ)) (s : SegmentLine)
    → (points >>= λ p. identifier >>= λ i. text >>= λ t. Some (record { board = p.0; off = p.1; identifier = i; text = t })) ≡ Some s → (p : List ℕ × List ℕ) × (points ≡ Some p)
segment_points None identifier text s h = absurd (none_some s h)
segment_points (Some p) identifier text s h = (p, refl)

pub leg_or_segment : (leg : LegLine) (s : SegmentLine) (line : List ℕ) → leg_of line ≡ Some leg → segment_of line ≡ Some s → ⊥
unfolding leg_of segment_of
leg_or_segment leg s line h k =
    let d = leg_departs (end_of (word line)) (end_of (after_word line)) leg h in
    let p = segment_points (points_of (word line)) (digits_in 1 3 (before 47 (after_word line))) (segment_text_of (from 47 (after_word line))) s k in
    let seven = end_length (word line) d.0 d.1 in
    let six = points_length (word line) p.0 p.1 in
    omega (arith, seven, six)

-- ---- lines that are not allowed among legs

none_where : {A : Type 0} (o : Option A) → ((a : A) → o ≡ Some a → ⊥) → o ≡ None
none_where None never_so = refl
none_where (Some a) never_so = absurd (never_so a refl)

-- a line that is no leg line, segment line or divider that is allowed here
not_among_legs : (m : MessageValue) (b : Body) (line : List ℕ) → ((leg : LegLine) → leg_of line ≡ Some leg → takes_leg b ≡ false) → ((s : SegmentLine) → segment_of line ≡ Some s → takes_segment b s ≡ false) → (line ≡ codes "//" → is_whole b ≡ false) → Refuses (AtLegs m b) line
not_among_legs m b line no_leg no_segment no_divider (LegPart leg) h = choose_none (takes_leg b) (AtLegs m (with_leg b leg)) (no_leg leg h)
not_among_legs m b line no_leg no_segment no_divider (SegmentPart s) h = choose_none (takes_segment b s) (AtLegs m (with_segment b s)) (no_segment s h)
not_among_legs m b line no_leg no_segment no_divider Divider h = choose_none (is_whole b) (AtNext (with_body m b)) (no_divider h)
not_among_legs m b line no_leg no_segment no_divider part h = refl

leg_fault : (m : MessageValue) (b : Body) (line : List ℕ) (leg : Option LegLine) (segment : Option SegmentLine) → leg_of line ≡ leg → segment_of line ≡ segment
    → fault_of (AtLegs m b) line ≡ (if (is_some leg && is_none_yet b.segments) || fits_if_segment b segment then fault.TooMany else fault.BadLeg)
leg_fault m b line leg segment h k = rw (h, k) refl

no_segment_there : (leg : LegLine) (line : List ℕ) → leg_of line ≡ Some leg → segment_of line ≡ None
no_segment_there leg line h = none_where (segment_of line) (λ s k. leg_or_segment leg s line h k)

-- a leg line after a segment line
pub leg_behind_segments : (m : MessageValue) (b : Body) (leg : LegLine) (line : List ℕ) → leg_of line ≡ Some leg → is_none_yet b.segments ≡ false → Refuses (AtLegs m b) line × (fault.BadLeg ≡ fault_of (AtLegs m b) line)
leg_behind_segments m b leg line h none = (
  not_among_legs m b line (λ _ _. left_false (is_none_yet b.segments) (nat_lt (length b.legs) 20) none) (λ s k. absurd (leg_or_segment leg s line h k)) (λ e. absurd (leg_or_divider leg line h e)),
  sym (leg_fault m b line (Some leg) None h (no_segment_there leg line h) ∙ rw none refl),
)

-- the 21st leg line
pub legs_full : (m : MessageValue) (b : Body) (leg : LegLine) (line : List ℕ) → leg_of line ≡ Some leg → is_none_yet b.segments ≡ true → 20 ≤ length b.legs → Refuses (AtLegs m b) line × (fault.TooMany ≡ fault_of (AtLegs m b) line)
legs_full m b leg line h none full = (
  not_among_legs m b line (λ _ _. right_false (is_none_yet b.segments) (nat_lt (length b.legs) 20) (not_less (length b.legs) 20 full)) (λ s k. absurd (leg_or_segment leg s line h k)) (λ e. absurd (leg_or_divider leg line h e)),
  sym (leg_fault m b line (Some leg) None h (no_segment_there leg line h) ∙ rw none refl),
)

no_segment_at_divider : (line : List ℕ) → line ≡ codes "//" → segment_of line ≡ None
no_segment_at_divider line e = none_where (segment_of line) (λ s k. segment_or_divider s line k e)

-- a divider before the first leg line
pub divider_too_soon : (m : MessageValue) (b : Body) (line : List ℕ) → line ≡ codes "//" → is_whole b ≡ false → Refuses (AtLegs m b) line × (fault.BadLeg ≡ fault_of (AtLegs m b) line)
divider_too_soon m b line e no_leg = (
  not_among_legs m b line (λ leg k. absurd (leg_or_divider leg line k e)) (λ s k. absurd (segment_or_divider s line k e)) (λ _. no_leg),
  sym (leg_fault m b line None None (none_where (leg_of line) (λ leg k. leg_or_divider leg line k e)) (no_segment_at_divider line e)),
)

-- a segment line whose pair of points is not flown
pub segment_does_not_fit : (m : MessageValue) (b : Body) (s : SegmentLine) (line : List ℕ) → leg_of line ≡ None → segment_of line ≡ Some s → fits_segment b s ≡ false → Refuses (AtLegs m b) line × (fault.BadLeg ≡ fault_of (AtLegs m b) line)
segment_does_not_fit m b s line h k no_fit = (
  not_among_legs m b line (λ leg g. absurd (never (leg_of line) leg h g)) (λ t g. left_false (fits_segment b t) (nat_lt (length b.segments) 99) (ap (λ (x : SegmentLine). fits_segment b x) (some_same t s (sym g ∙ k)) ∙ no_fit)) (λ e. absurd (segment_or_divider s line k e)),
  sym (leg_fault m b line None (Some s) h k ∙ rw no_fit refl),
)

-- the 100th segment line
pub segments_full : (m : MessageValue) (b : Body) (s : SegmentLine) (line : List ℕ) → leg_of line ≡ None → segment_of line ≡ Some s → fits_segment b s ≡ true → 99 ≤ length b.segments → Refuses (AtLegs m b) line × (fault.TooMany ≡ fault_of (AtLegs m b) line)
segments_full m b s line h k fit full = (
  not_among_legs m b line (λ leg g. absurd (never (leg_of line) leg h g)) (λ t g. right_false (fits_segment b t) (nat_lt (length b.segments) 99) (not_less (length b.segments) 99 full)) (λ e. absurd (segment_or_divider s line k e)),
  sym (leg_fault m b line None (Some s) h k ∙ rw fit refl),
)

-- any other line
pub no_leg_part : (m : MessageValue) (b : Body) (line : List ℕ) → leg_of line ≡ None → segment_of line ≡ None → (line ≡ codes "//" → ⊥) → Refuses (AtLegs m b) line × (fault.BadLeg ≡ fault_of (AtLegs m b) line)
no_leg_part m b line h k no_divider = (
  not_among_legs m b line (λ leg g. absurd (never (leg_of line) leg h g)) (λ s g. absurd (never (segment_of line) s k g)) (λ e. absurd (no_divider e)),
  sym (leg_fault m b line None None h k),
)

-- ---- after a sub-message

pub take_end : (m : MessageValue) (line : List ℕ) → line ≡ codes "//" → Takes (AtEnd m) line (AtNext m)
take_end m line h = record { part = Divider; spelled = h; step = refl }

pub no_end : (m : MessageValue) (line : List ℕ) → (line ≡ codes "//" → ⊥) → (part : Part) → Spells part line → step (AtEnd m) part ≡ None
no_end m line none_so Divider h = absurd (none_so h)
no_end m line none_so part h = refl

pub take_next : (m : MessageValue) (a : ActionIdentifier) (line : List ℕ) → line ≡ identifier_text a → length m.subs < 250 → Takes (AtNext m) line (flight_expected m.kind m a)
take_next m a line h room = record { part = ActionPart a; spelled = h; step = choose_some (nat_lt (length m.subs) 250) (flight_expected m.kind m a) (less (length m.subs) 250 room) }

pub take_first_free : (m : MessageValue) (line : List ℕ) → begins_free line ≡ true → Takes (AtNext m) line (AtFree (with_free m line))
take_first_free m line h = record { part = FreePart line; spelled = refl; step = choose_some (begins_free line) (AtFree (with_free m line)) h }

pub take_free : (m : MessageValue) (line : List ℕ) → Takes (AtFree m) line (AtFree (with_free m line))
take_free m line = record { part = FreePart line; spelled = refl; step = refl }

pub no_action_free : (a : ActionIdentifier) → begins_free (identifier_text a) ≡ false
no_action_free identifier.New = refl
no_action_free identifier.Cnl = refl
no_action_free identifier.Rpl = refl
no_action_free identifier.Eqt = refl
no_action_free identifier.Tim = refl

is_an_action : (a : ActionIdentifier) → is_action (identifier_text a) ≡ true
is_an_action identifier.New = refl
is_an_action identifier.Cnl = refl
is_an_action identifier.Rpl = refl
is_an_action identifier.Eqt = refl
is_an_action identifier.Tim = refl

other_text : (line text : List ℕ) → (line ≡ text → ⊥) → bytes_eq line text ≡ false
other_text line text other = false_from_ne_true (bytes_eq line text) (λ h. other ((bytes_eq-Decides line text).0 h))

neither : (a b c d e : Bool) → a ≡ false → b ≡ false → c ≡ false → d ≡ false → e ≡ false → a || (b || (c || (d || (e || false)))) ≡ false
neither a b c d e h i j k l = rw (h, i, j, k, l) refl

is_no_action : (line : List ℕ) → ((a : ActionIdentifier) → line ≡ identifier_text a → ⊥) → is_action line ≡ false
is_no_action line other =
    neither (bytes_eq line (codes "NEW")) (bytes_eq line (codes "CNL")) (bytes_eq line (codes "RPL")) (bytes_eq line (codes "EQT")) (bytes_eq line (codes "TIM"))
    (other_text line (codes "NEW") (other identifier.New)) (other_text line (codes "CNL") (other identifier.Cnl)) (other_text line (codes "RPL") (other identifier.Rpl)) (other_text line (codes "EQT") (other identifier.Eqt)) (other_text line (codes "TIM") (other identifier.Tim))

next_fault : (m : MessageValue) (line : List ℕ) (b : Bool) → is_action line ≡ b → fault_of (AtNext m) line ≡ (if b then fault.TooMany else fault.BadAction)
next_fault m line b h = ap (λ (x : Bool). if x then fault.TooMany else fault.BadAction) h

refuses_next : (m : MessageValue) (line : List ℕ) → ((a : ActionIdentifier) → line ≡ identifier_text a → nat_lt (length m.subs) 250 ≡ false) → begins_free line ≡ false → Refuses (AtNext m) line
refuses_next m line full other (ActionPart a) h = choose_none (nat_lt (length m.subs) 250) (flight_expected m.kind m a) (full a h)
refuses_next m line full other (FreePart free) h = choose_none (begins_free free) (AtFree (with_free m free)) (ap (λ (x : List ℕ). begins_free x) (sym h) ∙ other)
refuses_next m line full other part h = refl

-- neither an action nor free text
pub no_next : (m : MessageValue) (line : List ℕ) → ((a : ActionIdentifier) → line ≡ identifier_text a → ⊥) → begins_free line ≡ false → Refuses (AtNext m) line × (fault.BadAction ≡ fault_of (AtNext m) line)
no_next m line none_so other = (refuses_next m line (λ a e. absurd (none_so a e)) other, sym (next_fault m line false (is_no_action line none_so)))

-- the 251st sub-message
pub subs_full : (m : MessageValue) (a : ActionIdentifier) (line : List ℕ) → line ≡ identifier_text a → 250 ≤ length m.subs → Refuses (AtNext m) line × (fault.TooMany ≡ fault_of (AtNext m) line)
subs_full m a line h full = (
  refuses_next m line (λ _ _. not_less (length m.subs) 250 full) (ap (λ (x : List ℕ). begins_free x) h ∙ no_action_free a),
  sym (next_fault m line true (ap is_action h ∙ is_an_action a)),
)

pub ruleset arms = (take_originator, take_first_kind, no_start, take_kind, no_kind, take_mode, take_only_reference, no_mode, take_reference, no_reference, take_action, no_action, take_flight, no_flight, take_dated_flight, no_dated_flight, take_period, no_period, take_equipment, no_equipment, take_leg, take_segment, take_divider, take_end, no_end, take_next, take_first_free, take_free)
