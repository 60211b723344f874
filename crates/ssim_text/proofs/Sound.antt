-- What a state says of the parts that led to it.
use Rattle.std.proofs.Common.{◌≡◌, ◌<◌, ◌≤◌, ℕ, ◌+◌, List, [], ◌∷◌, ◌++◌, length, refl, sym, ap, subst, inl, inr, ◌∙◌, Some, arith, true, false, append_assoc, map}
use Rattle.std.specs.Prelude.{Bool, ◌&&◌, nat_lt}
use Rattle.std.specs.List.{AllByRecursion}
use Rattle.std.proofs.lemmas.Bool.{ltb-true}
use Rattle.std.proofs.lemmas.List.{append-nil, length_push}
use Rattle.ssim_values.specs.declared.designator.Designator.{Designator}
use Rattle.ssim_text.specs.declared.kind.Kind.{Kind}
use Rattle.ssim_text.specs.declared.kind.Kind.TheVariants.{Ssm, Asm}
use Rattle.ssim_values.specs.declared.time_mode.TimeMode.{TimeMode}
use Rattle.ssim_values.specs.declared.time_mode.TimeMode.TheVariants.{Utc}
use Rattle.ssim_text.specs.declared.kind.ActionIdentifier.{ActionIdentifier}
use Rattle.ssim_text.specs.declared.kind.ActionIdentifier.TheVariants as identifier
use Rattle.ssim_text.specs.declared.reference.GivenReference.{GivenReference}
use Rattle.ssim_text.specs.declared.dates.Dates.{Dates}
use Rattle.ssim_text.specs.declared.dates.Dates.TheVariants.{Period, Date}
use Rattle.ssim_text.specs.declared.leg.LegLine.{LegLine}
use Rattle.ssim_text.specs.declared.segment.SegmentLine.{SegmentLine}
use Rattle.ssim_text.specs.declared.action.Action.TheVariants as action
use Rattle.ssim_text.specs.declared.action.Sub.{Sub}
use Rattle.ssim_text.specs.declared.decoder_state.LegChange.{LegChange}
use Rattle.ssim_text.specs.declared.decoder_state.LegChange.TheVariants as change
use Rattle.ssim_text.specs.declared.decoder_state.Equipped.{Equipped}
use Rattle.ssim_text.specs.declared.decoder_state.Equipped.TheVariants as equipped
use Rattle.ssim_text.specs.declared.decoder_state.Body.{Body}
use Rattle.ssim_text.specs.declared.decoder_state.State.{State}
use Rattle.ssim_text.specs.declared.decoder_state.State.TheVariants.{AtStart, AtKind, AtMode, AtReference, AtAction, AtFlight, AtDatedFlight, AtPeriod, AtEquipment, AtLegs, AtEnd, AtNext, AtFree}
use Rattle.ssim_text.specs.Values.{EquipmentValue, no_originator}
use Rattle.ssim_text.specs.Message.{MessageValue, begun, with_sub, with_free}
use Rattle.ssim_text.specs.Lines.{begins_free}
use Rattle.ssim_text.specs.Grammar.{Part, OriginatorPart, KindPart, ModePart, ReferencePart, ActionPart, FlightPart, DatedFlightPart, PeriodPart, EquipmentPart, LegPart, SegmentPart, Divider, FreePart, flight_parts, sub_parts, later_parts, subs_parts, free_parts, IsOriginatorPart, flies, IsBody, AreDates, IsSub, BeginsFree, IsShape, IsHeading, HasParts}
use Rattle.ssim_text.specs.Machine.{step, sub_of, flight_expected, body_expected, after_equipment, is_none_yet, with_leg, with_segment, takes_leg, has_segments, fits_segment, takes_segment, is_whole, action_of, with_body, run}
use Rattle.ssim_text.specs.internal.DecoderState.{finish}
use Rattle.ssim_text.proofs.Runs.{bind_some, none_some, some_same, guarded, false_true}

append_none : {A : Type 0} (xs : List A) → xs ++ [] ≡ xs
append_none xs = append-nil xs

-- the message so far has these parts
pub record Base (m : MessageValue) (ps : List Part) : Type 0 where
  pub heading : List Part
  pub is_heading : IsHeading m.originator m.kind m.mode m.reference heading
  pub whole : ps ≡ heading ++ subs_parts m.subs
  pub few : length m.subs ≤ 250
  pub subs : AllByRecursion (IsSub m.kind) m.subs
  pub no_free : m.free ≡ []

abbrev pub opened : List Sub → List Part
opened [] = []
opened (sub ∷ subs) = Divider ∷ []

-- a sub-message has begun, and has these parts of its own
pub record After (m : MessageValue) (own ps : List Part) : Type 0 where
  pub before : List Part
  pub base : Base m before
  pub whole : ps ≡ before ++ (opened m.subs ++ own)
  pub room : length m.subs < 250

abbrev pub sub_of_body : Body → Sub
sub_of_body b = sub_of b.designator b.dates (action_of b.change b.legs b.segments)

-- what may be said of a sub-message whose leg lines are read
pub record IsOpen (kind : Kind) (b : Body) : Type 0 where
  pub dates : AreDates kind b.dates
  pub legs : length b.legs ≤ 20
  pub segments : length b.segments ≤ 99
  pub flown : AllByRecursion (λ segment. flies b.legs segment ≡ true) b.segments

abbrev pub identifier_of_equipped : Equipped → ActionIdentifier
identifier_of_equipped equipped.New = identifier.New
identifier_of_equipped equipped.Rpl = identifier.Rpl
identifier_of_equipped equipped.Eqt = identifier.Eqt

abbrev pub Holds : State → List Part → Type 0
Holds AtStart ps = ps ≡ []
Holds (AtKind o) ps = ps ≡ OriginatorPart o ∷ []
Holds (AtMode o kind) ps = (os : List Part) × IsOriginatorPart o os × (ps ≡ os ++ KindPart kind ∷ [])
Holds (AtReference o kind mode) ps = (os : List Part) × IsOriginatorPart o os × (ps ≡ os ++ (KindPart kind ∷ ModePart mode ∷ []))
Holds (AtAction m) ps = Base m ps × (m.subs ≡ [])
Holds (AtFlight m a) ps = After m (ActionPart a ∷ []) ps × (m.kind ≡ Ssm)
Holds (AtDatedFlight m a) ps = After m (ActionPart a ∷ []) ps × (m.kind ≡ Asm)
Holds (AtPeriod m a d) ps = After m (ActionPart a ∷ FlightPart d ∷ []) ps × (m.kind ≡ Ssm)
Holds (AtEquipment m e d dates) ps = After m (ActionPart (identifier_of_equipped e) ∷ flight_parts d dates) ps × AreDates m.kind dates
Holds (AtLegs m b) ps = After m (sub_parts (sub_of_body b)) ps × IsOpen m.kind b
Holds (AtEnd m) ps = Base m ps × (1 ≤ length m.subs)
Holds (AtNext m) ps = (qs : List Part) × Base m qs × (1 ≤ length m.subs) × (ps ≡ qs ++ Divider ∷ [])
Holds (AtFree m) ps = IsShape m × HasParts m ps × (1 ≤ length m.free)

after_on : (m : MessageValue) (own ps : List Part) (p : Part) → After m own ps → After m (own ++ p ∷ []) (ps ++ p ∷ [])
after_on m own ps p a = record {
  before = a.before;
  base = a.base;
  whole = ap (λ (x : List Part). x ++ p ∷ []) a.whole ∙ append_assoc a.before (opened m.subs ++ own) (p ∷ []) ∙ ap (λ (x : List Part). a.before ++ x) (append_assoc (opened m.subs) own (p ∷ []));
  room = a.room;
}

after_same : (m : MessageValue) (own other ps : List Part) → own ≡ other → After m own ps → After m other ps
after_same m own other ps e a = subst (λ (x : List Part). After m x ps) e a

pub later-push : (subs : List Sub) (sub : Sub) → later_parts (subs ++ sub ∷ []) ≡ later_parts subs ++ (Divider ∷ sub_parts sub)
later-push [] sub = ap (λ (x : List Part). Divider ∷ x) (append_none (sub_parts sub))
later-push (s ∷ subs) sub = ap (λ (x : List Part). Divider ∷ (sub_parts s ++ x)) (later-push subs sub) ∙ ap (λ (x : List Part). Divider ∷ x) (sym (append_assoc (sub_parts s) (later_parts subs) (Divider ∷ sub_parts sub)))

pub subs-push : (subs : List Sub) (sub : Sub) → subs_parts (subs ++ sub ∷ []) ≡ subs_parts subs ++ (opened subs ++ sub_parts sub)
subs-push [] sub = append_none (sub_parts sub)
subs-push (s ∷ subs) sub = ap (λ (x : List Part). sub_parts s ++ x) (later-push subs sub) ∙ sym (append_assoc (sub_parts s) (later_parts subs) (Divider ∷ sub_parts sub))

all-push : {A : Type 0} (P : A → Type 0) (xs : List A) (x : A) → AllByRecursion P xs → P x → AllByRecursion P (xs ++ x ∷ [])
all-push P [] x h k = (k, tt)
all-push P (y ∷ xs) x h k = (h.0, all-push P xs x h.1 k)

length-one_more : {A : Type 0} (xs : List A) (x : A) → length (xs ++ x ∷ []) ≡ length xs + 1
length-one_more xs x = length_push xs x

some_more : {A : Type 0} (xs : List A) (x : A) → 1 ≤ length (xs ++ x ∷ [])
some_more xs x = omega (arith, length-one_more xs x)

push_base : (m : MessageValue) (sub : Sub) (ps : List Part) → After m (sub_parts sub) ps → IsSub m.kind sub → Base (with_sub m sub) ps
push_base m sub ps a h = record {
  heading = a.base.heading;
  is_heading = a.base.is_heading;
  whole = a.whole ∙ ap (λ (x : List Part). x ++ (opened m.subs ++ sub_parts sub)) a.base.whole ∙ append_assoc a.base.heading (subs_parts m.subs) (opened m.subs ++ sub_parts sub) ∙ ap (λ (x : List Part). a.base.heading ++ x) (sym (subs-push m.subs sub));
  few = omega (arith, a.room, length-one_more m.subs sub);
  subs = all-push (IsSub m.kind) m.subs sub a.base.subs h;
  no_free = a.base.no_free;
}

map-push : {A : Type 0} (f : A → Part) (xs : List A) (x : A) → map f (xs ++ x ∷ []) ≡ map f xs ++ f x ∷ []
map-push f [] x = refl
map-push f (y ∷ xs) x = ap (λ (z : List Part). f y ∷ z) (map-push f xs x)

-- ---- the start of a sub-message

first_action : (m : MessageValue) (a : ActionIdentifier) (ps : List Part) → Base m ps → m.subs ≡ [] → After m (ActionPart a ∷ []) (ps ++ ActionPart a ∷ [])
first_action m a ps b e = record {
  before = ps;
  base = b;
  whole = ap (λ (x : List Sub). ps ++ (opened x ++ ActionPart a ∷ [])) (sym e);
  room = subst (λ (x : List Sub). length x < 250) (sym e) (omega arith);
}

opened_some : (subs : List Sub) (own : List Part) → 1 ≤ length subs → Divider ∷ own ≡ opened subs ++ own
opened_some [] own h = absurd (omega (arith, h))
opened_some (s ∷ subs) own h = refl

next_action : (m : MessageValue) (a : ActionIdentifier) (ps qs : List Part) → Base m qs → 1 ≤ length m.subs → ps ≡ qs ++ Divider ∷ [] → length m.subs < 250 → After m (ActionPart a ∷ []) (ps ++ ActionPart a ∷ [])
next_action m a ps qs b h e room = record {
  before = qs;
  base = b;
  whole = ap (λ (x : List Part). x ++ ActionPart a ∷ []) e ∙ append_assoc qs (Divider ∷ []) (ActionPart a ∷ []) ∙ ap (λ (x : List Part). qs ++ x) (opened_some m.subs (ActionPart a ∷ []) h);
  room = room;
}

flight_on : (kind : Kind) (m : MessageValue) (a : ActionIdentifier) (ps : List Part) → After m (ActionPart a ∷ []) ps → m.kind ≡ kind → Holds (flight_expected kind m a) ps
flight_on Ssm m a ps h e = (h, e)
flight_on Asm m a ps h e = (h, e)

below : (a b : ℕ) → nat_lt a b ≡ true → a < b
below a b h = ltb-true a b h

-- ---- flight, dates, equipment

body_on : (a : ActionIdentifier) (m : MessageValue) (d : Designator) (dates : Dates) (ps : List Part) → After m (ActionPart a ∷ flight_parts d dates) ps → AreDates m.kind dates → Holds (body_expected a m d dates) ps
body_on identifier.New m d dates ps h k = (h, k)
body_on identifier.Rpl m d dates ps h k = (h, k)
body_on identifier.Eqt m d dates ps h k = (h, k)
body_on identifier.Cnl m d dates ps h k = (
  push_base m (sub_of d dates action.Cnl) ps (after_same m (ActionPart identifier.Cnl ∷ flight_parts d dates) (ActionPart identifier.Cnl ∷ (flight_parts d dates ++ [])) ps (ap (λ (x : List Part). ActionPart identifier.Cnl ∷ x) (sym (append_none (flight_parts d dates)))) h) (record { dates = k; body = tt }),
  some_more m.subs (sub_of d dates action.Cnl),
)
body_on identifier.Tim m d dates ps h k = (
  after_same m (ActionPart identifier.Tim ∷ flight_parts d dates) (ActionPart identifier.Tim ∷ (flight_parts d dates ++ [])) ps (ap (λ (x : List Part). ActionPart identifier.Tim ∷ x) (sym (append_none (flight_parts d dates)))) h,
  record { dates = k; legs = omega arith; segments = omega arith; flown = tt },
)

are_dates : (m : MessageValue) (kind : Kind) (dates : Dates) → m.kind ≡ kind → AreDates kind dates → AreDates m.kind dates
are_dates m kind dates e h = subst (λ (x : Kind). AreDates x dates) (sym e) h

equipment_on : (e : Equipped) (m : MessageValue) (d : Designator) (dates : Dates) (equipment : EquipmentValue) (ps : List Part) → After m ((ActionPart (identifier_of_equipped e) ∷ flight_parts d dates) ++ EquipmentPart equipment ∷ []) ps → AreDates m.kind dates → Holds (after_equipment e m d dates equipment) ps
equipment_on equipped.New m d dates equipment ps h k = (h, record { dates = k; legs = omega arith; segments = omega arith; flown = tt })
equipment_on equipped.Rpl m d dates equipment ps h k = (h, record { dates = k; legs = omega arith; segments = omega arith; flown = tt })
equipment_on equipped.Eqt m d dates equipment ps h k = (push_base m (sub_of d dates (action.Eqt equipment)) ps h (record { dates = k; body = tt }), some_more m.subs (sub_of d dates (action.Eqt equipment)))

-- ---- legs and segments

new_leg : (equipment : EquipmentValue) (legs : List LegLine) (leg : LegLine) → (EquipmentPart equipment ∷ (map LegPart legs ++ [])) ++ LegPart leg ∷ [] ≡ EquipmentPart equipment ∷ (map LegPart (legs ++ leg ∷ []) ++ [])
new_leg equipment legs leg =
    ap (λ (x : List Part). EquipmentPart equipment ∷ (x ++ LegPart leg ∷ [])) (append_none (map LegPart legs))
    ∙ ap (λ (x : List Part). EquipmentPart equipment ∷ x) (sym (map-push LegPart legs leg) ∙ sym (append_none (map LegPart (legs ++ leg ∷ []))))

new_segment : (equipment : EquipmentValue) (legs : List LegLine) (segments : List SegmentLine) (s : SegmentLine)
    → (EquipmentPart equipment ∷ (map LegPart legs ++ map SegmentPart segments)) ++ SegmentPart s ∷ [] ≡ EquipmentPart equipment ∷ (map LegPart legs ++ map SegmentPart (segments ++ s ∷ []))
new_segment equipment legs segments s =
    ap (λ (x : List Part). EquipmentPart equipment ∷ x) (append_assoc (map LegPart legs) (map SegmentPart segments) (SegmentPart s ∷ []) ∙ ap (λ (x : List Part). map LegPart legs ++ x) (sym (map-push SegmentPart segments s)))

-- a part after flight and dates
behind_flight : (a : ActionIdentifier) (d : Designator) (dates : Dates) (body longer : List Part) (p : Part) → body ++ p ∷ [] ≡ longer
    → (ActionPart a ∷ (flight_parts d dates ++ body)) ++ p ∷ [] ≡ ActionPart a ∷ (flight_parts d dates ++ longer)
behind_flight a d dates body longer p e = ap (λ (x : List Part). ActionPart a ∷ x) (append_assoc (flight_parts d dates) body (p ∷ []) ∙ ap (λ (x : List Part). flight_parts d dates ++ x) e)

sub_leg : (d : Designator) (dates : Dates) (c : LegChange) (legs : List LegLine) (segments : List SegmentLine) (leg : LegLine) → is_none_yet segments ≡ true
    → sub_parts (sub_of d dates (action_of c legs segments)) ++ LegPart leg ∷ [] ≡ sub_parts (sub_of d dates (action_of c (legs ++ leg ∷ []) segments))
sub_leg d dates c legs (s ∷ segments) leg h = absurd (false_true h)
sub_leg d dates change.Tim legs [] leg h = behind_flight identifier.Tim d dates (map LegPart legs) (map LegPart (legs ++ leg ∷ [])) (LegPart leg) (sym (map-push LegPart legs leg))
sub_leg d dates (change.New e) legs [] leg h = behind_flight identifier.New d dates (EquipmentPart e ∷ (map LegPart legs ++ [])) (EquipmentPart e ∷ (map LegPart (legs ++ leg ∷ []) ++ [])) (LegPart leg) (new_leg e legs leg)
sub_leg d dates (change.Rpl e) legs [] leg h = behind_flight identifier.Rpl d dates (EquipmentPart e ∷ (map LegPart legs ++ [])) (EquipmentPart e ∷ (map LegPart (legs ++ leg ∷ []) ++ [])) (LegPart leg) (new_leg e legs leg)

sub_segment : (d : Designator) (dates : Dates) (c : LegChange) (legs : List LegLine) (segments : List SegmentLine) (s : SegmentLine) → has_segments c ≡ true
    → sub_parts (sub_of d dates (action_of c legs segments)) ++ SegmentPart s ∷ [] ≡ sub_parts (sub_of d dates (action_of c legs (segments ++ s ∷ [])))
sub_segment d dates change.Tim legs segments s h = absurd (false_true h)
sub_segment d dates (change.New e) legs segments s h = behind_flight identifier.New d dates (EquipmentPart e ∷ (map LegPart legs ++ map SegmentPart segments)) (EquipmentPart e ∷ (map LegPart legs ++ map SegmentPart (segments ++ s ∷ []))) (SegmentPart s) (new_segment e legs segments s)
sub_segment d dates (change.Rpl e) legs segments s h = behind_flight identifier.Rpl d dates (EquipmentPart e ∷ (map LegPart legs ++ map SegmentPart segments)) (EquipmentPart e ∷ (map LegPart legs ++ map SegmentPart (segments ++ s ∷ []))) (SegmentPart s) (new_segment e legs segments s)

parts_of_and : (a b : Bool) → a && b ≡ true → (a ≡ true) × (b ≡ true)
parts_of_and true b h = (refl, h)
parts_of_and false b h = absurd (false_true h)

none_flown : (legs : List LegLine) (segments : List SegmentLine) → is_none_yet segments ≡ true → AllByRecursion (λ s. flies legs s ≡ true) segments
none_flown legs [] h = tt
none_flown legs (s ∷ segments) h = absurd (false_true h)

leg_on : (m : MessageValue) (b : Body) (leg : LegLine) (ps : List Part) → Holds (AtLegs m b) ps → takes_leg b ≡ true → Holds (AtLegs m (with_leg b leg)) (ps ++ LegPart leg ∷ [])
leg_on m b leg ps h t =
    let w = parts_of_and (is_none_yet b.segments) (nat_lt (length b.legs) 20) t in
    let short = below (length b.legs) 20 w.1 in (
      after_same m (sub_parts (sub_of_body b) ++ LegPart leg ∷ []) (sub_parts (sub_of_body (with_leg b leg))) (ps ++ LegPart leg ∷ []) (sub_leg b.designator b.dates b.change b.legs b.segments leg w.0) (after_on m (sub_parts (sub_of_body b)) ps (LegPart leg) h.0),
      record { dates = h.1.dates; legs = omega (arith, short, length-one_more b.legs leg); segments = h.1.segments; flown = none_flown (b.legs ++ leg ∷ []) b.segments w.0 },
    )

segment_on : (m : MessageValue) (b : Body) (s : SegmentLine) (ps : List Part) → Holds (AtLegs m b) ps → takes_segment b s ≡ true → Holds (AtLegs m (with_segment b s)) (ps ++ SegmentPart s ∷ [])
segment_on m b s ps h t =
    let w = parts_of_and (fits_segment b s) (nat_lt (length b.segments) 99) t in
    let v = parts_of_and (has_segments b.change) (flies b.legs s) w.0 in
    let short = below (length b.segments) 99 w.1 in (
      after_same m (sub_parts (sub_of_body b) ++ SegmentPart s ∷ []) (sub_parts (sub_of_body (with_segment b s))) (ps ++ SegmentPart s ∷ []) (sub_segment b.designator b.dates b.change b.legs b.segments s v.0) (after_on m (sub_parts (sub_of_body b)) ps (SegmentPart s) h.0),
      record { dates = h.1.dates; legs = h.1.legs; segments = omega (arith, short, length-one_more b.segments s); flown = all-push (λ (x : SegmentLine). flies b.legs x ≡ true) b.segments s h.1.flown v.1 },
    )

is_body : (c : LegChange) (legs : List LegLine) (segments : List SegmentLine) → 1 ≤ length legs → length legs ≤ 20 → length segments ≤ 99 → AllByRecursion (λ s. flies legs s ≡ true) segments → IsBody (action_of c legs segments)
is_body change.Tim legs segments some few short flown = (some, few)
is_body (change.New e) legs segments some few short flown = record { some = some; legs = few; segments = short; flown = flown }
is_body (change.Rpl e) legs segments some few short flown = record { some = some; legs = few; segments = short; flown = flown }

pushed_body : (m : MessageValue) (b : Body) (ps : List Part) → Holds (AtLegs m b) ps → is_whole b ≡ true → Base (with_body m b) ps
pushed_body m b ps h t =
    let some = below 0 (length b.legs) t in
    push_base m (sub_of_body b) ps h.0 (record { dates = h.1.dates; body = is_body b.change b.legs b.segments (omega (arith, some)) h.1.legs h.1.segments h.1.flown })

-- ---- free text

shape_of_base : (m : MessageValue) (ps : List Part) → Base m ps → 1 ≤ length m.subs → IsShape m
shape_of_base m ps b some = record { some = some; few = b.few; subs = b.subs; free = subst BeginsFree (sym b.no_free) tt }

parts_of_base : (m : MessageValue) (ps : List Part) → Base m ps → HasParts m ps
parts_of_base m ps b = record {
  heading = b.heading;
  is_heading = b.is_heading;
  whole = b.whole ∙ ap (λ (x : List Part). b.heading ++ x) (sym (append_none (subs_parts m.subs)) ∙ ap (λ (x : List (List ℕ)). subs_parts m.subs ++ free_parts x) (sym b.no_free));
}

first_free_on : (m : MessageValue) (line : List ℕ) (ps : List Part) → Holds (AtNext m) ps → begins_free line ≡ true → Holds (AtFree (with_free m line)) (ps ++ FreePart line ∷ [])
first_free_on m line ps (qs, b, some, e) h =
    let g : m.free ++ line ∷ [] ≡ line ∷ [] = ap (λ (x : List (List ℕ)). x ++ line ∷ []) b.no_free in
    let own : List Part = Divider ∷ FreePart line ∷ [] in (
      record { some = some; few = b.few; subs = b.subs; free = subst BeginsFree (sym g) h },
      record {
        heading = b.heading;
        is_heading = b.is_heading;
        whole = ap (λ (x : List Part). x ++ FreePart line ∷ []) e ∙ append_assoc qs (Divider ∷ []) (FreePart line ∷ []) ∙ ap (λ (x : List Part). x ++ own) b.whole ∙ append_assoc b.heading (subs_parts m.subs) own
            ∙ ap (λ (x : List (List ℕ)). b.heading ++ (subs_parts m.subs ++ free_parts x)) (sym g);
      },
      some_more m.free line,
    )

pub free_parts-push : (free : List (List ℕ)) (line : List ℕ) → 1 ≤ length free → free_parts (free ++ line ∷ []) ≡ free_parts free ++ FreePart line ∷ []
free_parts-push [] line h = absurd (omega (arith, h))
free_parts-push (l ∷ lines) line h = ap (λ (x : List Part). Divider ∷ FreePart l ∷ x) (map-push FreePart lines line)

BeginsFree-push : (free : List (List ℕ)) (line : List ℕ) → 1 ≤ length free → BeginsFree free → BeginsFree (free ++ line ∷ [])
BeginsFree-push [] line h b = absurd (omega (arith, h))
BeginsFree-push (l ∷ lines) line h b = b

free_on : (m : MessageValue) (line : List ℕ) (ps : List Part) → Holds (AtFree m) ps → Holds (AtFree (with_free m line)) (ps ++ FreePart line ∷ [])
free_on m line ps (t, h, some) = (
  record { some = t.some; few = t.few; subs = t.subs; free = BeginsFree-push m.free line some t.free },
  record {
    heading = h.heading;
    is_heading = h.is_heading;
    whole = ap (λ (x : List Part). x ++ FreePart line ∷ []) h.whole ∙ append_assoc h.heading (subs_parts m.subs ++ free_parts m.free) (FreePart line ∷ []) ∙ ap (λ (x : List Part). h.heading ++ x) (append_assoc (subs_parts m.subs) (free_parts m.free) (FreePart line ∷ []) ∙ ap (λ (x : List Part). subs_parts m.subs ++ x) (sym (free_parts-push m.free line some)));
  },
  some_more m.free line,
)

-- ---- the lines before the sub-messages

first_base : (o : List ℕ) (kind : Kind) (mode : TimeMode) (r : GivenReference) (heading : List Part) → IsHeading o kind mode r heading → Base (begun o kind mode r) heading
first_base o kind mode r heading h = record { heading = heading; is_heading = h; whole = sym (append_none heading); few = omega arith; subs = tt; no_free = refl }

reference_on : (o : List ℕ) (kind : Kind) (mode : TimeMode) (r : GivenReference) (ps : List Part) → Holds (AtReference o kind mode) ps → Base (begun o kind mode r) (ps ++ ReferencePart r ∷ [])
reference_on o kind mode r ps (os, is, e) = first_base o kind mode r (ps ++ ReferencePart r ∷ []) (record {
  originator_parts = os;
  is_originator = is;
  mode_parts = ModePart mode ∷ [];
  is_mode = inl refl;
  whole = ap (λ (x : List Part). x ++ ReferencePart r ∷ []) e ∙ append_assoc os (KindPart kind ∷ ModePart mode ∷ []) (ReferencePart r ∷ []);
})

only_reference_on : (o : List ℕ) (kind : Kind) (r : GivenReference) (ps : List Part) → Holds (AtMode o kind) ps → Base (begun o kind Utc r) (ps ++ ReferencePart r ∷ [])
only_reference_on o kind r ps (os, is, e) = first_base o kind Utc r (ps ++ ReferencePart r ∷ []) (record {
  originator_parts = os;
  is_originator = is;
  mode_parts = [];
  is_mode = inr (refl, refl);
  whole = ap (λ (x : List Part). x ++ ReferencePart r ∷ []) e ∙ append_assoc os (KindPart kind ∷ []) (ReferencePart r ∷ []);
})

mode_on : (o : List ℕ) (kind : Kind) (mode : TimeMode) (ps : List Part) → Holds (AtMode o kind) ps → Holds (AtReference o kind mode) (ps ++ ModePart mode ∷ [])
mode_on o kind mode ps (os, is, e) = (os, is, ap (λ (x : List Part). x ++ ModePart mode ∷ []) e ∙ append_assoc os (KindPart kind ∷ []) (ModePart mode ∷ []))

moved : (s t : State) (ps : List Part) → Some s ≡ Some t → Holds s ps → Holds t ps
moved s t ps d h = subst (λ (x : State). Holds x ps) (some_same s t d) h

push_eq : (p : Part) (qs ps : List Part) → ps ≡ qs → ps ++ p ∷ [] ≡ qs ++ p ∷ []
push_eq p qs ps e = ap (λ (x : List Part). x ++ p ∷ []) e

-- ---- each part that is taken

holds_on : (s t : State) (ps : List Part) (p : Part) → Holds s ps → step s p ≡ Some t → Holds t (ps ++ p ∷ [])
holds_on AtStart t ps (OriginatorPart o) h d = moved (AtKind o) t (ps ++ OriginatorPart o ∷ []) d (push_eq (OriginatorPart o) [] ps h)
holds_on AtStart t ps (KindPart kind) h d = moved (AtMode no_originator kind) t (ps ++ KindPart kind ∷ []) d ([], inl (refl, refl), push_eq (KindPart kind) [] ps h)
holds_on AtStart t ps p h d = absurd (none_some t d)
holds_on (AtKind o) t ps (KindPart kind) h d = moved (AtMode o kind) t (ps ++ KindPart kind ∷ []) d (OriginatorPart o ∷ [], inr refl, push_eq (KindPart kind) (OriginatorPart o ∷ []) ps h)
holds_on (AtKind o) t ps p h d = absurd (none_some t d)
holds_on (AtMode o kind) t ps (ModePart mode) h d = moved (AtReference o kind mode) t (ps ++ ModePart mode ∷ []) d (mode_on o kind mode ps h)
holds_on (AtMode o kind) t ps (ReferencePart r) h d = moved (AtAction (begun o kind Utc r)) t (ps ++ ReferencePart r ∷ []) d (only_reference_on o kind r ps h, refl)
holds_on (AtMode o kind) t ps p h d = absurd (none_some t d)
holds_on (AtReference o kind mode) t ps (ReferencePart r) h d = moved (AtAction (begun o kind mode r)) t (ps ++ ReferencePart r ∷ []) d (reference_on o kind mode r ps h, refl)
holds_on (AtReference o kind mode) t ps p h d = absurd (none_some t d)
holds_on (AtAction m) t ps (ActionPart a) h d = moved (flight_expected m.kind m a) t (ps ++ ActionPart a ∷ []) d (flight_on m.kind m a (ps ++ ActionPart a ∷ []) (first_action m a ps h.0 h.1) refl)
holds_on (AtAction m) t ps p h d = absurd (none_some t d)
holds_on (AtFlight m a) t ps (FlightPart f) h d = moved (AtPeriod m a f) t (ps ++ FlightPart f ∷ []) d (after_on m (ActionPart a ∷ []) ps (FlightPart f) h.0, h.1)
holds_on (AtFlight m a) t ps p h d = absurd (none_some t d)
holds_on (AtDatedFlight m a) t ps (DatedFlightPart f date) h d = moved (body_expected a m f (Date date)) t (ps ++ DatedFlightPart f date ∷ []) d (body_on a m f (Date date) (ps ++ DatedFlightPart f date ∷ []) (after_on m (ActionPart a ∷ []) ps (DatedFlightPart f date) h.0) (are_dates m Asm (Date date) h.1 tt))
holds_on (AtDatedFlight m a) t ps p h d = absurd (none_some t d)
holds_on (AtPeriod m a f) t ps (PeriodPart n) h d = moved (body_expected a m f (Period n)) t (ps ++ PeriodPart n ∷ []) d (body_on a m f (Period n) (ps ++ PeriodPart n ∷ []) (after_on m (ActionPart a ∷ FlightPart f ∷ []) ps (PeriodPart n) h.0) (are_dates m Ssm (Period n) h.1 tt))
holds_on (AtPeriod m a f) t ps p h d = absurd (none_some t d)
holds_on (AtEquipment m e f dates) t ps (EquipmentPart n) h d = moved (after_equipment e m f dates n) t (ps ++ EquipmentPart n ∷ []) d (equipment_on e m f dates n (ps ++ EquipmentPart n ∷ []) (after_on m (ActionPart (identifier_of_equipped e) ∷ flight_parts f dates) ps (EquipmentPart n) h.0) h.1)
holds_on (AtEquipment m e f dates) t ps p h d = absurd (none_some t d)
holds_on (AtLegs m b) t ps (LegPart leg) h d =
    let w = guarded (takes_leg b) (AtLegs m (with_leg b leg)) t d in
    subst (λ (x : State). Holds x (ps ++ LegPart leg ∷ [])) w.1 (leg_on m b leg ps h w.0)
holds_on (AtLegs m b) t ps (SegmentPart s) h d =
    let w = guarded (takes_segment b s) (AtLegs m (with_segment b s)) t d in
    subst (λ (x : State). Holds x (ps ++ SegmentPart s ∷ [])) w.1 (segment_on m b s ps h w.0)
holds_on (AtLegs m b) t ps Divider h d =
    let w = guarded (is_whole b) (AtNext (with_body m b)) t d in
    subst (λ (x : State). Holds x (ps ++ Divider ∷ [])) w.1 (ps, pushed_body m b ps h w.0, some_more m.subs (sub_of_body b), refl)
holds_on (AtLegs m b) t ps p h d = absurd (none_some t d)
holds_on (AtEnd m) t ps Divider h d = moved (AtNext m) t (ps ++ Divider ∷ []) d (ps, h.0, h.1, refl)
holds_on (AtEnd m) t ps p h d = absurd (none_some t d)
holds_on (AtNext m) t ps (ActionPart a) h d =
    let w = guarded (nat_lt (length m.subs) 250) (flight_expected m.kind m a) t d in
    subst (λ (x : State). Holds x (ps ++ ActionPart a ∷ [])) w.1 (flight_on m.kind m a (ps ++ ActionPart a ∷ []) (next_action m a ps h.0 h.1 h.2 h.3 (below (length m.subs) 250 w.0)) refl)
holds_on (AtNext m) t ps (FreePart line) h d =
    let w = guarded (begins_free line) (AtFree (with_free m line)) t d in
    subst (λ (x : State). Holds x (ps ++ FreePart line ∷ [])) w.1 (first_free_on m line ps h w.0)
holds_on (AtNext m) t ps p h d = absurd (none_some t d)
holds_on (AtFree m) t ps (FreePart line) h d = moved (AtFree (with_free m line)) t (ps ++ FreePart line ∷ []) d (free_on m line ps h)
holds_on (AtFree m) t ps p h d = absurd (none_some t d)

holds_run : (s t : State) (earlier ps : List Part) → Holds s earlier → run s ps ≡ Some t → Holds t (earlier ++ ps)
holds_run s t earlier [] h d = subst (λ (x : List Part). Holds t x) (sym (append_none earlier)) (moved s t earlier d h)
holds_run s t earlier (p ∷ ps) h d =
    let w = bind_some (λ (x : State). run x ps) (step s p) t d in
    subst (λ (x : List Part). Holds t x) (append_assoc earlier (p ∷ []) ps) (holds_run w.0 t (earlier ++ p ∷ []) ps (holds_on s w.0 earlier p h w.1) w.2)

-- what a state that was reached says
pub reached_holds : (s : State) (ps : List Part) → run AtStart ps ≡ Some s → Holds s ps
reached_holds s ps r = holds_run AtStart s [] ps refl r

-- what is read when the text may end is a message with these parts
pub record IsRead (m : MessageValue) (ps : List Part) : Type 0 where
  pub shape : IsShape m
  pub has_parts : HasParts m ps

read_of_base : (m : MessageValue) (ps : List Part) → Base m ps → 1 ≤ length m.subs → IsRead m ps
read_of_base m ps b some = record { shape = shape_of_base m ps b some; has_parts = parts_of_base m ps b }

moved_read : (n m : MessageValue) (ps : List Part) → Some n ≡ Some m → IsRead n ps → IsRead m ps
moved_read n m ps d h = subst (λ (x : MessageValue). IsRead x ps) (some_same n m d) h

finished : (s : State) (m : MessageValue) (ps : List Part) → Holds s ps → finish s ≡ Some m → IsRead m ps
finished (AtLegs n b) m ps h d =
    let w = guarded (is_whole b) (with_body n b) m d in
    subst (λ (x : MessageValue). IsRead x ps) w.1 (read_of_base (with_body n b) ps (pushed_body n b ps h w.0) (some_more n.subs (sub_of_body b)))
finished (AtEnd n) m ps h d = moved_read n m ps d (read_of_base n ps h.0 h.1)
finished (AtFree n) m ps h d = moved_read n m ps d (record { shape = h.0; has_parts = h.1 })
finished s m ps h d = absurd (none_some m d)

pub sound : (s : State) (m : MessageValue) (ps : List Part) → run AtStart ps ≡ Some s → finish s ≡ Some m → IsRead m ps
sound s m ps r d = finished s m ps (reached_holds s ps r) d
