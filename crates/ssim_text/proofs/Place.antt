-- From the lines that were read to the texts that they begin.
use Rattle.std.proofs.Common.{◌≡◌, ◌<◌, ◌≤◌, ℕ, ◌+◌, List, [], ◌∷◌, ◌++◌, length, refl, sym, ap, subst, inl, inr, ◌∙◌, Option, Some, None, codes, arith, true, false, append_assoc, map, drop, take}
use Rattle.std.specs.Prelude.{option_and_then, nat_lt}
use Rattle.std.specs.List.{AllZip, AllByRecursion}
use Rattle.std.proofs.lemmas.Bool.{lt-ltb}
use Rattle.ssim_values.specs.declared.designator.Designator.{Designator}
use Rattle.ssim_values.specs.Designator.{SpellsDesignator}
use Rattle.ssim_text.specs.declared.kind.Kind.{Kind}
use Rattle.ssim_text.specs.declared.kind.Kind.TheVariants.{Ssm, Asm}
use Rattle.ssim_values.specs.declared.time_mode.TimeMode.{TimeMode}
use Rattle.ssim_values.specs.declared.time_mode.TimeMode.TheVariants.{Utc}
use Rattle.ssim_text.specs.declared.kind.ActionIdentifier.{ActionIdentifier}
use Rattle.ssim_text.specs.declared.kind.ActionIdentifier.TheVariants as identifier
use Rattle.ssim_text.specs.declared.reference.GivenReference.{GivenReference}
use Rattle.ssim_text.specs.declared.dates.GivenDate.{GivenDate}
use Rattle.ssim_text.specs.declared.dates.GivenPeriod.{GivenPeriod}
use Rattle.ssim_text.specs.declared.dates.Dates.{Dates}
use Rattle.ssim_text.specs.declared.dates.Dates.TheVariants.{Period, Date}
use Rattle.ssim_text.specs.declared.leg.LegLine.{LegLine}
use Rattle.ssim_text.specs.declared.segment.SegmentLine.{SegmentLine}
use Rattle.ssim_text.specs.declared.action.Action.TheVariants as action
use Rattle.ssim_text.specs.declared.decoder_state.LegChange.{LegChange}
use Rattle.ssim_text.specs.declared.decoder_state.LegChange.TheVariants as change
use Rattle.ssim_text.specs.declared.decoder_state.Equipped.{Equipped}
use Rattle.ssim_text.specs.declared.decoder_state.Equipped.TheVariants as equipped
use Rattle.ssim_text.specs.declared.decoder_state.Body.{Body}
use Rattle.ssim_text.specs.declared.decoder_state.State.{State}
use Rattle.ssim_text.specs.declared.decoder_state.State.TheVariants.{AtStart, AtKind, AtMode, AtReference, AtAction, AtFlight, AtDatedFlight, AtPeriod, AtEquipment, AtLegs, AtEnd, AtNext, AtFree}
use Rattle.ssim_text.specs.Values.{EquipmentValue, no_originator}
use Rattle.ssim_text.specs.Message.{MessageValue, begun, with_sub, with_free}
use Rattle.ssim_text.specs.Lines.{numbers_of, reference_of, SpellsDatedFlight, date_of, period_of, equipment_of, leg_of}
use Rattle.ssim_text.specs.internal.Completions.{IsCompletion, IsCompletedShortly, needs, shortest}
use Rattle.ssim_text.specs.Grammar.{Part, KindPart, ModePart, ReferencePart, ActionPart, FlightPart, DatedFlightPart, PeriodPart, EquipmentPart, LegPart, FreePart, Spells, flies, SpellsText, Starts, NamesPlace, OneMessage}
use Rattle.ssim_text.specs.Machine.{step, sub_of, flight_expected, no_legs, body_expected, with_leg, is_whole, with_body, run, Reads}
use Rattle.ssim_text.specs.internal.DecoderState.{finish, Takes, Refuses}
use Rattle.std.proofs.Common.{get_or, add-one, drop-cons, drop_of_length-le}
use Rattle.ssim_text.specs.declared.fault.Fault.{Fault}
use Rattle.ssim_text.specs.Machine.{fault_at, fault_of, fault_before}
use Rattle.ssim_text.specs.Decoder.{IsFaultAt}
use Rattle.std.proofs.lemmas.List.{take_more, get_or-map, append-nil, take-append-drop, take_all, length-map}
use Rattle.ssim_values.specs.Calendar.{day_number, leap_years, months_length}
use Rattle.ssim_values.specs.Day.{day_of}
use Rattle.ssim_values.specs.DayMonth.{month_day_of}
use Rattle.ssim_values.specs.DayMask.{days_of}
use Rattle.ssim_values.specs.Clock.{clock_of}
use Rattle.ssim_text.specs.declared.reference.GroupCode.TheVariants.{End}
use Rattle.ssim_text.specs.declared.dates.GivenDate.TheVariants.{Full}
use Rattle.ssim_text.specs.declared.dates.GivenEnd.TheVariants.{Until}
use Rattle.ssim_text.specs.Lines.{variations_of, end_of}
use Rattle.ssim_text.proofs.Runs.{none_some, some_same, false_true, reads_on, GoesOn, follow, goes_nowhere, run_append}
use Rattle.ssim_text.proofs.Complete.{complete}
use Rattle.ssim_text.proofs.Sound.{sound, Holds, reached_holds}

pub lines_none : (xs : List (List ℕ)) → xs ++ [] ≡ xs
lines_none xs = append-nil xs

-- whatever text begins with the lines that were read goes on from the state that they lead to
pub record Remains (s : State) (m : MessageValue) (rest : List (List ℕ)) : Type 0 where
  pub last : State
  pub on : GoesOn s rest last
  pub finished : finish last ≡ Some m

pub remains : (s : State) (m : MessageValue) (lines rest : List (List ℕ)) → Reads s lines → SpellsText m (lines ++ rest) → Remains s m rest
remains s m lines rest r h =
    let ends = complete m h.parts h.shape h.has_parts in
    record { last = ends.last; on = follow AtStart s ends.last r.parts h.parts lines rest r.spelled r.reached h.spelled ends.reached; finished = ends.finished }

-- nothing is left to read: the state is the last
pub at_end : (s t : State) (ps : List Part) → AllZip Spells ps [] → run s ps ≡ Some t → s ≡ t
at_end s t [] h r = some_same s t r
at_end s t (p ∷ ps) h r = absurd h

pub last_state : (s : State) (m : MessageValue) (lines : List (List ℕ)) → Reads s lines → SpellsText m lines → finish s ≡ Some m
last_state s m lines r h =
    let e = remains s m lines [] r (subst (λ (x : List (List ℕ)). SpellsText m x) (sym (lines_none lines)) h) in
    ap finish (at_end s e.last e.on.parts e.on.spelled e.on.reached) ∙ e.finished

pub spells : (s : State) (m : MessageValue) (lines : List (List ℕ)) → Reads s lines → finish s ≡ Some m → SpellsText m lines
spells s m lines r d =
    let h = sound s m r.parts r.reached d in
    record { shape = h.shape; parts = r.parts; has_parts = h.has_parts; spelled = r.spelled }

pub only_one : (s : State) (m n : MessageValue) (lines : List (List ℕ)) → Reads s lines → finish s ≡ Some m → SpellsText n lines → n ≡ m
only_one s m n lines r d h = some_same n m (sym (last_state s n lines r h) ∙ d)

pub ends_short : (s : State) (m : MessageValue) (lines : List (List ℕ)) → Reads s lines → finish s ≡ None → SpellsText m lines → ⊥
ends_short s m lines r d h = none_some m (sym d ∙ last_state s m lines r h)

pub refused : (s : State) (m : MessageValue) (lines rest : List (List ℕ)) (line : List ℕ) → Reads s lines → Refuses s line → SpellsText m ((lines ++ line ∷ []) ++ rest) → ⊥
refused s m lines rest line r no_part h =
    let e = remains s m lines (line ∷ rest) r (subst (λ (x : List (List ℕ)). SpellsText m x) (append_assoc lines (line ∷ []) rest) h) in
    goes_nowhere s e.last line rest no_part e.on

pub starts_no_more : (s : State) (lines : List (List ℕ)) (line : List ℕ) → Reads s lines → Refuses s line → Starts (lines ++ line ∷ []) → ⊥
starts_no_more s lines line r no_part h = refused s h.message lines h.completion line r no_part h.spelled

pub one_message : OneMessage
one_message a b lines h k =
    let ends = complete a h.parts h.shape h.has_parts in
    let read : Reads ends.last lines = record { parts = h.parts; spelled = h.spelled; reached = ends.reached } in
    sym (only_one ends.last a b lines read ends.finished k)

-- ---- the lines of the completions

a_reference : GivenReference
a_reference = record { date = record { month = 1; day = 1 }; group = 1; code = End; serial = 1; creator = None }

reference_line : reference_of (codes "01JAN00001E001") ≡ Some a_reference
unfolding reference_of numbers_of month_day_of a_reference
reference_line = refl

a_flight : Designator
a_flight = record { airline = 76 ∷ 88 ∷ 32 ∷ []; flight = record { number = 1; suffix = 32 } }

flight_line : SpellsDesignator a_flight (codes "LX1")
unfolding a_flight
flight_line = record {
  is_code = refl;
  rest = 49 ∷ [];
  flight = record { digits = 49 ∷ []; is_number = record { from = omega arith; to = omega arith; all = refl; number = refl }; suffixed = refl; spelled = refl };
  spelled = refl;
}

a_date : GivenDate
a_date = Full 9132

date_line : date_of (codes "01JAN25") ≡ Some a_date
unfolding day_of day_number leap_years months_length a_date
date_line = refl

a_period : GivenPeriod
a_period = record { first = a_date; last = Until a_date; days = true ∷ false ∷ false ∷ false ∷ false ∷ false ∷ false ∷ [] }

period_line : period_of (codes "01JAN25 01JAN25 1") ≡ Some a_period
unfolding period_of day_of day_number leap_years months_length days_of a_period a_date
period_line = refl

dated_line : SpellsDatedFlight a_flight a_date (codes "LX1/01JAN25")
dated_line = record { designator_spelled = flight_line; date_spelled = date_line }

an_equipment : EquipmentValue
an_equipment = record { service = 74; aircraft = 51 ∷ 50 ∷ 48 ∷ []; designators = []; configuration = [] }

equipment_line : equipment_of (codes "J 320") ≡ Some an_equipment
unfolding equipment_of an_equipment
equipment_line = refl

a_leg : LegLine
a_leg = record {
  departure = record { station = 90 ∷ 82 ∷ 72 ∷ []; time = 0; variation = 0; passenger = 0 };
  arrival = record { station = 76 ∷ 72 ∷ 82 ∷ []; time = 0; variation = 0; passenger = 0 };
}

leg_line : leg_of (codes "ZRH0000 LHR0000") ≡ Some a_leg
unfolding leg_of end_of variations_of clock_of a_leg
leg_line = refl

-- ---- each state has a completion

-- these lines end a text
record Tail (s : State) (lines : List (List ℕ)) : Type 0 where
  parts : List Part
  spelled : AllZip Spells parts lines
  last : State
  reached : run s parts ≡ Some last
  message : MessageValue
  finished : finish last ≡ Some message

done : (s : State) (m : MessageValue) → finish s ≡ Some m → Tail s []
done s m h = record { parts = []; spelled = tt; last = s; reached = refl; message = m; finished = h }

one_more : (s t : State) (p : Part) (line : List ℕ) (lines : List (List ℕ)) → step s p ≡ Some t → Spells p line → Tail t lines → Tail s (line ∷ lines)
one_more s t p line lines d h w = record {
  parts = p ∷ w.parts;
  spelled = (h, w.spelled);
  last = w.last;
  reached = ap (λ (o : Option State). option_and_then (λ x. run x w.parts) o) d ∙ w.reached;
  message = w.message;
  finished = w.finished;
}

no_legs_tail : (m : MessageValue) (d : Designator) (dates : Dates) (c : LegChange) → Tail (AtLegs m (no_legs d dates c)) (codes "ZRH0000 LHR0000" ∷ [])
no_legs_tail m d dates c =
    one_more (AtLegs m (no_legs d dates c)) (AtLegs m (with_leg (no_legs d dates c) a_leg)) (LegPart a_leg) (codes "ZRH0000 LHR0000") [] refl leg_line
    (done (AtLegs m (with_leg (no_legs d dates c) a_leg)) (with_body m (with_leg (no_legs d dates c) a_leg)) refl)

abbrev needs_equipped : Equipped → List (List ℕ)
needs_equipped equipped.New = needs identifier.New
needs_equipped equipped.Rpl = needs identifier.Rpl
needs_equipped equipped.Eqt = needs identifier.Eqt

equipment_tail : (e : Equipped) (m : MessageValue) (d : Designator) (dates : Dates) → Tail (AtEquipment m e d dates) (needs_equipped e)
equipment_tail equipped.New m d dates = one_more (AtEquipment m equipped.New d dates) (AtLegs m (no_legs d dates (change.New an_equipment))) (EquipmentPart an_equipment) (codes "J 320") (codes "ZRH0000 LHR0000" ∷ []) refl equipment_line (no_legs_tail m d dates (change.New an_equipment))
equipment_tail equipped.Rpl m d dates = one_more (AtEquipment m equipped.Rpl d dates) (AtLegs m (no_legs d dates (change.Rpl an_equipment))) (EquipmentPart an_equipment) (codes "J 320") (codes "ZRH0000 LHR0000" ∷ []) refl equipment_line (no_legs_tail m d dates (change.Rpl an_equipment))
equipment_tail equipped.Eqt m d dates = one_more (AtEquipment m equipped.Eqt d dates) (AtEnd (with_sub m (sub_of d dates (action.Eqt an_equipment)))) (EquipmentPart an_equipment) (codes "J 320") [] refl equipment_line (done (AtEnd (with_sub m (sub_of d dates (action.Eqt an_equipment)))) (with_sub m (sub_of d dates (action.Eqt an_equipment))) refl)

body_tail : (a : ActionIdentifier) (m : MessageValue) (d : Designator) (dates : Dates) → Tail (body_expected a m d dates) (needs a)
body_tail identifier.New m d dates = equipment_tail equipped.New m d dates
body_tail identifier.Cnl m d dates = done (AtEnd (with_sub m (sub_of d dates action.Cnl))) (with_sub m (sub_of d dates action.Cnl)) refl
body_tail identifier.Rpl m d dates = equipment_tail equipped.Rpl m d dates
body_tail identifier.Eqt m d dates = equipment_tail equipped.Eqt m d dates
body_tail identifier.Tim m d dates = no_legs_tail m d dates change.Tim

period_tail : (a : ActionIdentifier) (m : MessageValue) (d : Designator) → Tail (AtPeriod m a d) (codes "01JAN25 01JAN25 1" ∷ needs a)
period_tail a m d = one_more (AtPeriod m a d) (body_expected a m d (Period a_period)) (PeriodPart a_period) (codes "01JAN25 01JAN25 1") (needs a) refl period_line (body_tail a m d (Period a_period))

flight_tail : (a : ActionIdentifier) (m : MessageValue) → Tail (AtFlight m a) (codes "LX1" ∷ codes "01JAN25 01JAN25 1" ∷ needs a)
flight_tail a m = one_more (AtFlight m a) (AtPeriod m a a_flight) (FlightPart a_flight) (codes "LX1") (codes "01JAN25 01JAN25 1" ∷ needs a) refl flight_line (period_tail a m a_flight)

dated_tail : (a : ActionIdentifier) (m : MessageValue) → Tail (AtDatedFlight m a) (codes "LX1/01JAN25" ∷ needs a)
dated_tail a m = one_more (AtDatedFlight m a) (body_expected a m a_flight (Date a_date)) (DatedFlightPart a_flight a_date) (codes "LX1/01JAN25") (needs a) refl dated_line (body_tail a m a_flight (Date a_date))

flight_line_tail : (kind : Kind) (m : MessageValue) → Tail (flight_expected kind m identifier.Cnl) (drop 4 (shortest kind identifier.Cnl))
flight_line_tail Ssm m = flight_tail identifier.Cnl m
flight_line_tail Asm m = dated_tail identifier.Cnl m

action_tail : (kind : Kind) (m : MessageValue) → m.kind ≡ kind → Tail (AtAction m) (drop 3 (shortest kind identifier.Cnl))
action_tail Ssm m e = one_more (AtAction m) (flight_expected Ssm m identifier.Cnl) (ActionPart identifier.Cnl) (codes "CNL") (drop 4 (shortest Ssm identifier.Cnl)) (ap (λ (k : Kind). Some (flight_expected k m identifier.Cnl)) e) refl (flight_line_tail Ssm m)
action_tail Asm m e = one_more (AtAction m) (flight_expected Asm m identifier.Cnl) (ActionPart identifier.Cnl) (codes "CNL") (drop 4 (shortest Asm identifier.Cnl)) (ap (λ (k : Kind). Some (flight_expected k m identifier.Cnl)) e) refl (flight_line_tail Asm m)

reference_tail : (o : List ℕ) (kind : Kind) (mode : TimeMode) → Tail (AtReference o kind mode) (codes "01JAN00001E001" ∷ drop 3 (shortest kind identifier.Cnl))
reference_tail o kind mode = one_more (AtReference o kind mode) (AtAction (begun o kind mode a_reference)) (ReferencePart a_reference) (codes "01JAN00001E001") (drop 3 (shortest kind identifier.Cnl)) refl reference_line (action_tail kind (begun o kind mode a_reference) refl)

mode_tail : (o : List ℕ) (kind : Kind) → Tail (AtMode o kind) (codes "UTC" ∷ codes "01JAN00001E001" ∷ drop 3 (shortest kind identifier.Cnl))
mode_tail o kind = one_more (AtMode o kind) (AtReference o kind Utc) (ModePart Utc) (codes "UTC") (codes "01JAN00001E001" ∷ drop 3 (shortest kind identifier.Cnl)) refl refl (reference_tail o kind Utc)

-- the state has a completion
record Completes (s : State) : Type 0 where
  completion : List (List ℕ)
  is_completion : IsCompletion completion
  tail : Tail s completion

by_tail : (s : State) (n : ℕ) (kind : Kind) (a : ActionIdentifier) (lines : List (List ℕ)) → lines ≡ drop n (shortest kind a) → Tail s lines → Completes s
by_tail s n kind a lines e w = record { completion = lines; is_completion = inr (n, kind, a, e); tail = w }

whole_finish : (m : MessageValue) (b : Body) → is_whole b ≡ true → finish (AtLegs m b) ≡ Some (with_body m b)
whole_finish m b h = rw h refl

legs_there : (l : LegLine) (legs : List LegLine) → nat_lt 0 (length (l ∷ legs)) ≡ true
legs_there l legs = lt-ltb 0 (length (l ∷ legs)) (omega arith)

legs_complete : (m : MessageValue) (d : Designator) (dates : Dates) (c : LegChange) (legs : List LegLine) (segments : List SegmentLine) → AllByRecursion (λ s. flies legs s ≡ true) segments → Completes (AtLegs m (record { designator = d; dates = dates; change = c; legs = legs; segments = segments }))
legs_complete m d dates c [] [] h = by_tail (AtLegs m (no_legs d dates c)) 6 Ssm identifier.Tim (codes "ZRH0000 LHR0000" ∷ []) refl (no_legs_tail m d dates c)
legs_complete m d dates c [] (s ∷ segments) h = absurd (false_true h.0)
legs_complete m d dates c (l ∷ legs) segments h =
    let b : Body = record { designator = d; dates = dates; change = c; legs = l ∷ legs; segments = segments } in
    by_tail (AtLegs m b) 9 Ssm identifier.Tim [] refl (done (AtLegs m b) (with_body m b) (whole_finish m b (legs_there l legs)))

completes : (s : State) (ps : List Part) → Holds s ps → Completes s
completes AtStart ps h = by_tail AtStart 0 Ssm identifier.Cnl (shortest Ssm identifier.Cnl) refl (one_more AtStart (AtMode no_originator Ssm) (KindPart Ssm) (codes "SSM") (codes "UTC" ∷ codes "01JAN00001E001" ∷ drop 3 (shortest Ssm identifier.Cnl)) refl refl (mode_tail no_originator Ssm))
completes (AtKind o) ps h = by_tail (AtKind o) 0 Ssm identifier.Cnl (shortest Ssm identifier.Cnl) refl (one_more (AtKind o) (AtMode o Ssm) (KindPart Ssm) (codes "SSM") (codes "UTC" ∷ codes "01JAN00001E001" ∷ drop 3 (shortest Ssm identifier.Cnl)) refl refl (mode_tail o Ssm))
completes (AtMode o Ssm) ps h = by_tail (AtMode o Ssm) 1 Ssm identifier.Cnl (codes "UTC" ∷ codes "01JAN00001E001" ∷ drop 3 (shortest Ssm identifier.Cnl)) refl (mode_tail o Ssm)
completes (AtMode o Asm) ps h = by_tail (AtMode o Asm) 1 Asm identifier.Cnl (codes "UTC" ∷ codes "01JAN00001E001" ∷ drop 3 (shortest Asm identifier.Cnl)) refl (mode_tail o Asm)
completes (AtReference o Ssm mode) ps h = by_tail (AtReference o Ssm mode) 2 Ssm identifier.Cnl (codes "01JAN00001E001" ∷ drop 3 (shortest Ssm identifier.Cnl)) refl (reference_tail o Ssm mode)
completes (AtReference o Asm mode) ps h = by_tail (AtReference o Asm mode) 2 Asm identifier.Cnl (codes "01JAN00001E001" ∷ drop 3 (shortest Asm identifier.Cnl)) refl (reference_tail o Asm mode)
completes (AtAction m) ps h = by_tail (AtAction m) 3 m.kind identifier.Cnl (drop 3 (shortest m.kind identifier.Cnl)) refl (action_tail m.kind m refl)
completes (AtFlight m a) ps h = by_tail (AtFlight m a) 4 Ssm a (codes "LX1" ∷ codes "01JAN25 01JAN25 1" ∷ needs a) refl (flight_tail a m)
completes (AtDatedFlight m a) ps h = by_tail (AtDatedFlight m a) 4 Asm a (codes "LX1/01JAN25" ∷ needs a) refl (dated_tail a m)
completes (AtPeriod m a d) ps h = by_tail (AtPeriod m a d) 5 Ssm a (codes "01JAN25 01JAN25 1" ∷ needs a) refl (period_tail a m d)
completes (AtEquipment m equipped.New d dates) ps h = by_tail (AtEquipment m equipped.New d dates) 6 Ssm identifier.New (needs identifier.New) refl (equipment_tail equipped.New m d dates)
completes (AtEquipment m equipped.Rpl d dates) ps h = by_tail (AtEquipment m equipped.Rpl d dates) 6 Ssm identifier.Rpl (needs identifier.Rpl) refl (equipment_tail equipped.Rpl m d dates)
completes (AtEquipment m equipped.Eqt d dates) ps h = by_tail (AtEquipment m equipped.Eqt d dates) 6 Ssm identifier.Eqt (needs identifier.Eqt) refl (equipment_tail equipped.Eqt m d dates)
completes (AtLegs m b) ps h = legs_complete m b.designator b.dates b.change b.legs b.segments h.1.flown
completes (AtEnd m) ps h = by_tail (AtEnd m) 9 Ssm identifier.Cnl [] refl (done (AtEnd m) m refl)
completes (AtNext m) ps h = record { completion = codes "SI" ∷ []; is_completion = inl refl; tail = one_more (AtNext m) (AtFree (with_free m (codes "SI"))) (FreePart (codes "SI")) (codes "SI") [] refl refl (done (AtFree (with_free m (codes "SI"))) (with_free m (codes "SI")) refl) }
completes (AtFree m) ps h = by_tail (AtFree m) 9 Ssm identifier.Cnl [] refl (done (AtFree m) m refl)

spelled_both : (ps qs : List Part) (lines more : List (List ℕ)) → AllZip Spells ps lines → AllZip Spells qs more → AllZip Spells (ps ++ qs) (lines ++ more)
spelled_both [] qs [] more h k = k
spelled_both [] qs (l ∷ lines) more h k = absurd h
spelled_both (p ∷ ps) qs [] more h k = absurd h
spelled_both (p ∷ ps) qs (l ∷ lines) more h k = (h.0, spelled_both ps qs lines more h.1 k)

pub completed : (s : State) (lines : List (List ℕ)) → Reads s lines → IsCompletedShortly lines
completed s lines r =
    let w = completes s r.parts (reached_holds s r.parts r.reached) in
    let h = sound w.tail.last w.tail.message (r.parts ++ w.tail.parts) (run_append AtStart s r.parts w.tail.parts r.reached ∙ w.tail.reached) w.tail.finished in
    record {
      completion = w.completion;
      is_completion = w.is_completion;
      message = w.tail.message;
      spelled = record { shape = h.shape; parts = r.parts ++ w.tail.parts; has_parts = h.has_parts; spelled = spelled_both r.parts w.tail.parts lines w.completion r.spelled w.tail.spelled };
    }

pub starts : (s : State) (lines : List (List ℕ)) → Reads s lines → Starts lines
starts s lines r =
    let short = completed s lines r in
    record { completion = short.completion; message = short.message; spelled = short.spelled }

pub take_drop : (i : ℕ) (xs : List (List ℕ)) → take i xs ++ drop i xs ≡ xs
take_drop i xs = take-append-drop i xs

take_whole : (i : ℕ) (xs : List (List ℕ)) → i ≡ length xs → take i xs ≡ xs
take_whole i xs h = take_all i xs (omega (arith, h))

pub refused_here : (s : State) (lines : List (List ℕ)) (i : ℕ) (line : List ℕ) → Reads s (take i lines) → Refuses s line → i < length lines → take (i + 1) lines ≡ take i lines ++ line ∷ [] → NamesPlace lines i
refused_here s lines i line r no_part lt e = record {
  starts = starts s (take i lines) r;
  within = omega (arith, lt);
  no_text = λ m h. refused s m (take i lines) (drop (i + 1) lines) line r no_part (subst (λ (x : List (List ℕ)). SpellsText m x) (sym (take_drop (i + 1) lines) ∙ ap (λ (x : List (List ℕ)). x ++ drop (i + 1) lines) e) h);
  starts_no_more = λ _ h. starts_no_more s (take i lines) line r no_part (subst Starts e h);
}

pub refused_end : (s : State) (lines : List (List ℕ)) → Reads s lines → finish s ≡ None → NamesPlace lines (length lines)
refused_end s lines r d = record {
  starts = subst Starts (sym (take_whole (length lines) lines refl)) (starts s lines r);
  within = omega arith;
  no_text = λ m h. ends_short s m lines r d h;
  starts_no_more = λ lt. absurd (omega (arith, lt));
}

length-texts : {X : Type 0} (f : X → List ℕ) (xs : List X) → length (map f xs) ≡ length xs
length-texts f xs = length-map xs f

-- one more line
pub take_line : {X : Type 0} (f : X → List ℕ) (xs : List X) (i : ℕ) (d : X) → i < length xs → take (i + 1) (map f xs) ≡ take i (map f xs) ++ f (get_or xs i d) ∷ []
take_line f xs i d h =
    let lt : i < length (map f xs) = omega (arith, length-texts f xs) in
    take_more (map f xs) i (f d) lt ∙ ap (λ (x : List ℕ). take i (map f xs) ++ x ∷ []) (get_or-map f xs i d (f d) h)

pub read_line : {X : Type 0} (f : X → List ℕ) (s t : State) (xs : List X) (i : ℕ) (d : X) → Reads s (take i (map f xs)) → Takes s (f (get_or xs i d)) t → i < length xs → Reads t (take (i + 1) (map f xs))
read_line f s t xs i d r h lt = subst (λ (x : List (List ℕ)). Reads t x) (sym (take_line f xs i d lt)) (reads_on s t (take i (map f xs)) (f (get_or xs i d)) r h)

pub refused_line : {X : Type 0} (f : X → List ℕ) (s : State) (xs : List X) (i : ℕ) (d : X) → Reads s (take i (map f xs)) → Refuses s (f (get_or xs i d)) → i < length xs → NamesPlace (map f xs) i
refused_line f s xs i d r h lt = refused_here s (map f xs) i (f (get_or xs i d)) r h (omega (arith, lt, length-texts f xs)) (take_line f xs i d lt)

-- the loop is at its end
pub all_read : {X : Type 0} (f : X → List ℕ) (s : State) (xs : List X) (i : ℕ) → Reads s (take i (map f xs)) → length xs ≤ i → i ≤ length xs → Reads s (map f xs)
all_read f s xs i r h k = subst (λ (x : List (List ℕ)). Reads s x) (take_whole i (map f xs) (omega (arith, h, k, length-texts f xs))) r

pub refused_after : {X : Type 0} (f : X → List ℕ) (s : State) (xs : List X) → Reads s (map f xs) → finish s ≡ None → NamesPlace (map f xs) (length xs)
refused_after f s xs r d = subst (λ (n : ℕ). NamesPlace (map f xs) n) (length-texts f xs) (refused_end s (map f xs) r d)

-- ---- the fault at the place

rest_from : {X : Type 0} (f : X → List ℕ) (xs : List X) (i : ℕ) (d : X) → i < length xs → drop i (map f xs) ≡ f (get_or xs i d) ∷ drop (i + 1) (map f xs)
rest_from f xs i d lt =
    let long : i < length (map f xs) = omega (arith, lt, length-texts f xs) in
    let e : drop i (map f xs) ≡ get_or (map f xs) i (f d) ∷ drop (i + 1) (map f xs) = rw (add-one, drop-cons (map f xs) i (f d)) refl in
    e ∙ ap (λ (x : List ℕ). x ∷ drop (i + 1) (map f xs)) (get_or-map f xs i d (f d) lt)

pub fault_line : {X : Type 0} (f : X → List ℕ) (s : State) (xs : List X) (i : ℕ) (d : X) (w : Fault) → Reads s (take i (map f xs)) → i < length xs → w ≡ fault_of s (f (get_or xs i d)) → IsFaultAt (map f xs) i w
fault_line f s xs i d w r lt h = record { state = s; reads = r; fault = h ∙ sym (ap (fault_before s) (rest_from f xs i d lt)) }

pub fault_end : {X : Type 0} (f : X → List ℕ) (s : State) (xs : List X) (w : Fault) → Reads s (map f xs) → w ≡ fault_at s → IsFaultAt (map f xs) (length xs) w
fault_end f s xs w r h =
    let none_left : drop (length xs) (map f xs) ≡ [] = drop_of_length-le (map f xs) {i = length xs} (omega (arith, length-texts f xs)) in
    record {
      state = s;
      reads = subst (λ (x : List (List ℕ)). Reads s x) (sym (take_whole (length xs) (map f xs) (sym (length-texts f xs)))) r;
      fault = h ∙ sym (ap (fault_before s) none_left);
    }
