-- Each text is read to its end.
use Rattle.std.proofs.Common.{◌≡◌, ◌<◌, ◌≤◌, ℕ, ◌+◌, List, [], ◌∷◌, ◌++◌, length, refl, sym, ap, inl, inr, ◌∙◌, Option, Some, None, arith, true, append_assoc, map}
use Rattle.std.specs.Prelude.{option_and_then, Bool, ◌&&◌, if◌then◌else◌, nat_lt}
use Rattle.std.specs.List.{AllByRecursion}
use Rattle.std.proofs.lemmas.Bool.{lt-ltb}
use Rattle.std.proofs.lemmas.List.{append-nil, length_push}
use Rattle.ssim_values.specs.declared.designator.Designator.{Designator}
use Rattle.ssim_text.specs.declared.kind.Kind.{Kind}
use Rattle.ssim_text.specs.declared.kind.Kind.TheVariants.{Ssm, Asm}
use Rattle.ssim_values.specs.declared.time_mode.TimeMode.{TimeMode}
use Rattle.ssim_text.specs.declared.kind.ActionIdentifier.{ActionIdentifier}
use Rattle.ssim_text.specs.declared.reference.GivenReference.{GivenReference}
use Rattle.ssim_text.specs.declared.dates.Dates.{Dates}
use Rattle.ssim_text.specs.declared.dates.Dates.TheVariants.{Period, Date}
use Rattle.ssim_text.specs.declared.leg.LegLine.{LegLine}
use Rattle.ssim_text.specs.declared.segment.SegmentLine.{SegmentLine}
use Rattle.ssim_text.specs.declared.action.NewLegs.{NewLegs}
use Rattle.ssim_text.specs.declared.action.Action.{Action}
use Rattle.ssim_text.specs.declared.action.Action.TheVariants as action
use Rattle.ssim_text.specs.declared.action.Sub.{Sub}
use Rattle.ssim_text.specs.declared.decoder_state.LegChange.{LegChange}
use Rattle.ssim_text.specs.declared.decoder_state.LegChange.TheVariants as change
use Rattle.ssim_text.specs.declared.decoder_state.Body.{Body}
use Rattle.ssim_text.specs.declared.decoder_state.State.{State}
use Rattle.ssim_text.specs.declared.decoder_state.State.TheVariants.{AtStart, AtMode, AtAction, AtLegs, AtEnd, AtNext, AtFree}
use Rattle.ssim_text.specs.Message.{MessageValue, begun, with_sub, with_free}
use Rattle.ssim_text.specs.Lines.{begins_free}
use Rattle.ssim_text.specs.Grammar.{Part, KindPart, ReferencePart, ActionPart, LegPart, SegmentPart, Divider, FreePart, flight_parts, identifier_of, body_parts, sub_parts, later_parts, subs_parts, free_parts, IsOriginatorPart, IsModePart, flies, IsNewLegs, IsBody, AreDates, IsSub, BeginsFree, IsShape, IsHeading, HasParts}
use Rattle.ssim_text.specs.Machine.{step, sub_of, flight_expected, body_expected, has_segments, fits_segment, takes_segment, is_whole, with_body, run}
use Rattle.ssim_text.specs.internal.DecoderState.{finish}

append_none : {A : Type 0} (xs : List A) → xs ++ [] ≡ xs
append_none xs = append-nil xs

choose_some : {A : Type 0} (b : Bool) (x : A) → b ≡ true → (if b then Some x else None) ≡ Some x
choose_some b x h = rw h refl

less : (a b : ℕ) → a < b → nat_lt a b ≡ true
less a b h = lt-ltb a b h

both : (a b : Bool) → a ≡ true → b ≡ true → a && b ≡ true
both a b h k = rw (h, k) refl

abbrev pub body_of : Designator → Dates → LegChange → List LegLine → List SegmentLine → Body
body_of d dates c legs segments = record { designator = d; dates = dates; change = c; legs = legs; segments = segments }

-- one step on
step_on : (s t : State) (p : Part) (qs : List Part) → step s p ≡ Some t → run s (p ∷ qs) ≡ run t qs
step_on s t p qs h = ap (λ (o : Option State). option_and_then (λ x. run x qs) o) h

length-one_more : {A : Type 0} (xs : List A) (x : A) → length (xs ++ x ∷ []) ≡ length xs + 1
length-one_more xs x = length_push xs x

run_legs : (m : MessageValue) (d : Designator) (dates : Dates) (c : LegChange) (more legs : List LegLine) (qs : List Part) → length legs + length more ≤ 20
    → run (AtLegs m (body_of d dates c legs [])) (map LegPart more ++ qs) ≡ run (AtLegs m (body_of d dates c (legs ++ more) [])) qs
run_legs m d dates c [] legs qs h = ap (λ (x : List LegLine). run (AtLegs m (body_of d dates c x [])) qs) (sym (append_none legs))
run_legs m d dates c (leg ∷ more) legs qs h =
    let lt : length legs < 20 = omega (arith, h) in
    let le : length (legs ++ leg ∷ []) + length more ≤ 20 = omega (arith, h, length-one_more legs leg) in
    step_on (AtLegs m (body_of d dates c legs [])) (AtLegs m (body_of d dates c (legs ++ leg ∷ []) [])) (LegPart leg) (map LegPart more ++ qs) (choose_some (nat_lt (length legs) 20) (AtLegs m (body_of d dates c (legs ++ leg ∷ []) [])) (less (length legs) 20 lt))
    ∙ run_legs m d dates c more (legs ++ leg ∷ []) qs le
    ∙ ap (λ (x : List LegLine). run (AtLegs m (body_of d dates c x [])) qs) (append_assoc legs (leg ∷ []) more)

run_segments : (m : MessageValue) (d : Designator) (dates : Dates) (c : LegChange) (legs : List LegLine) (more segments : List SegmentLine) (qs : List Part) → has_segments c ≡ true → length segments + length more ≤ 99 → AllByRecursion (λ s. flies legs s ≡ true) more
    → run (AtLegs m (body_of d dates c legs segments)) (map SegmentPart more ++ qs) ≡ run (AtLegs m (body_of d dates c legs (segments ++ more))) qs
run_segments m d dates c legs [] segments qs has h f = ap (λ (x : List SegmentLine). run (AtLegs m (body_of d dates c legs x)) qs) (sym (append_none segments))
run_segments m d dates c legs (s ∷ more) segments qs has h f =
    let lt : length segments < 99 = omega (arith, h) in
    let le : length (segments ++ s ∷ []) + length more ≤ 99 = omega (arith, h, length-one_more segments s) in
    let b = body_of d dates c legs segments in
    let next = AtLegs m (body_of d dates c legs (segments ++ s ∷ [])) in
    step_on (AtLegs m b) next (SegmentPart s) (map SegmentPart more ++ qs) (choose_some (takes_segment b s) next (both (fits_segment b s) (nat_lt (length segments) 99) (both (has_segments c) (flies legs s) has f.0) (less (length segments) 99 lt)))
    ∙ run_segments m d dates c legs more (segments ++ s ∷ []) qs has le f.1
    ∙ ap (λ (x : List SegmentLine). run (AtLegs m (body_of d dates c legs x)) qs) (append_assoc segments (s ∷ []) more)

-- the state after a sub-message
abbrev pub ended : MessageValue → Designator → Dates → Action → State
ended m d dates (action.New new) = AtLegs m (body_of d dates (change.New new.equipment) new.legs new.segments)
ended m d dates action.Cnl = AtEnd (with_sub m (sub_of d dates action.Cnl))
ended m d dates (action.Rpl new) = AtLegs m (body_of d dates (change.Rpl new.equipment) new.legs new.segments)
ended m d dates (action.Eqt e) = AtEnd (with_sub m (sub_of d dates (action.Eqt e)))
ended m d dates (action.Tim legs) = AtLegs m (body_of d dates change.Tim legs [])

run_new : (m : MessageValue) (d : Designator) (dates : Dates) (c : LegChange) (new : NewLegs) (qs : List Part) → has_segments c ≡ true → IsNewLegs new
    → run (AtLegs m (body_of d dates c [] [])) ((map LegPart new.legs ++ map SegmentPart new.segments) ++ qs) ≡ run (AtLegs m (body_of d dates c new.legs new.segments)) qs
run_new m d dates c new qs has h =
    ap (λ (x : List Part). run (AtLegs m (body_of d dates c [] [])) x) (append_assoc (map LegPart new.legs) (map SegmentPart new.segments) qs)
    ∙ run_legs m d dates c new.legs [] (map SegmentPart new.segments ++ qs) (omega (arith, h.legs))
    ∙ run_segments m d dates c new.legs new.segments [] qs has (omega (arith, h.segments)) h.flown

run_body : (m : MessageValue) (d : Designator) (dates : Dates) (a : Action) (qs : List Part) → IsBody a → run (body_expected (identifier_of a) m d dates) (body_parts a ++ qs) ≡ run (ended m d dates a) qs
run_body m d dates (action.New new) qs h = run_new m d dates (change.New new.equipment) new qs refl h
run_body m d dates action.Cnl qs h = refl
run_body m d dates (action.Rpl new) qs h = run_new m d dates (change.Rpl new.equipment) new qs refl h
run_body m d dates (action.Eqt e) qs h = refl
run_body m d dates (action.Tim legs) qs h = run_legs m d dates change.Tim legs [] qs (omega (arith, h.1))

run_flight : (kind : Kind) (m : MessageValue) (a : ActionIdentifier) (d : Designator) (dates : Dates) (qs : List Part) → AreDates kind dates → run (flight_expected kind m a) (flight_parts d dates ++ qs) ≡ run (body_expected a m d dates) qs
run_flight Ssm m a d (Period p) qs h = refl
run_flight Asm m a d (Date x) qs h = refl
run_flight Ssm m a d (Date x) qs h = absurd h
run_flight Asm m a d (Period p) qs h = absurd h

run_rest : (m : MessageValue) (sub : Sub) (qs : List Part) → IsSub m.kind sub → run (flight_expected m.kind m (identifier_of sub.action)) ((flight_parts sub.designator sub.dates ++ body_parts sub.action) ++ qs) ≡ run (ended m sub.designator sub.dates sub.action) qs
run_rest m sub qs h =
    ap (λ (x : List Part). run (flight_expected m.kind m (identifier_of sub.action)) x) (append_assoc (flight_parts sub.designator sub.dates) (body_parts sub.action) qs)
    ∙ run_flight m.kind m (identifier_of sub.action) sub.designator sub.dates (body_parts sub.action ++ qs) h.dates
    ∙ run_body m sub.designator sub.dates sub.action qs h.body

run_first : (m : MessageValue) (sub : Sub) (qs : List Part) → IsSub m.kind sub → run (AtAction m) (sub_parts sub ++ qs) ≡ run (ended m sub.designator sub.dates sub.action) qs
run_first m sub qs h = run_rest m sub qs h

run_next : (m : MessageValue) (sub : Sub) (qs : List Part) → IsSub m.kind sub → length m.subs < 250 → run (AtNext m) (sub_parts sub ++ qs) ≡ run (ended m sub.designator sub.dates sub.action) qs
run_next m sub qs h room =
    step_on (AtNext m) (flight_expected m.kind m (identifier_of sub.action)) (ActionPart (identifier_of sub.action)) ((flight_parts sub.designator sub.dates ++ body_parts sub.action) ++ qs) (choose_some (nat_lt (length m.subs) 250) (flight_expected m.kind m (identifier_of sub.action)) (less (length m.subs) 250 room))
    ∙ run_rest m sub qs h

whole : (m : MessageValue) (b : Body) (n : MessageValue) → 1 ≤ length b.legs → with_body m b ≡ n → finish (AtLegs m b) ≡ Some n
whole m b n h e = choose_some (is_whole b) (with_body m b) (less 0 (length b.legs) (omega (arith, h))) ∙ ap (λ (x : MessageValue). Some x) e

divided : (m : MessageValue) (b : Body) (n : MessageValue) → 1 ≤ length b.legs → with_body m b ≡ n → step (AtLegs m b) Divider ≡ Some (AtNext n)
divided m b n h e = choose_some (is_whole b) (AtNext (with_body m b)) (less 0 (length b.legs) (omega (arith, h))) ∙ ap (λ (x : MessageValue). Some (AtNext x)) e

step_divider : (m : MessageValue) (d : Designator) (dates : Dates) (a : Action) → IsBody a → step (ended m d dates a) Divider ≡ Some (AtNext (with_sub m (sub_of d dates a)))
step_divider m d dates (action.New new) h = divided m (body_of d dates (change.New new.equipment) new.legs new.segments) (with_sub m (sub_of d dates (action.New new))) h.some refl
step_divider m d dates action.Cnl h = refl
step_divider m d dates (action.Rpl new) h = divided m (body_of d dates (change.Rpl new.equipment) new.legs new.segments) (with_sub m (sub_of d dates (action.Rpl new))) h.some refl
step_divider m d dates (action.Eqt e) h = refl
step_divider m d dates (action.Tim legs) h = divided m (body_of d dates change.Tim legs []) (with_sub m (sub_of d dates (action.Tim legs))) h.0 refl

finish_ended : (m : MessageValue) (d : Designator) (dates : Dates) (a : Action) → IsBody a → finish (ended m d dates a) ≡ Some (with_sub m (sub_of d dates a))
finish_ended m d dates (action.New new) h = whole m (body_of d dates (change.New new.equipment) new.legs new.segments) (with_sub m (sub_of d dates (action.New new))) h.some refl
finish_ended m d dates action.Cnl h = refl
finish_ended m d dates (action.Rpl new) h = whole m (body_of d dates (change.Rpl new.equipment) new.legs new.segments) (with_sub m (sub_of d dates (action.Rpl new))) h.some refl
finish_ended m d dates (action.Eqt e) h = refl
finish_ended m d dates (action.Tim legs) h = whole m (body_of d dates change.Tim legs []) (with_sub m (sub_of d dates (action.Tim legs))) h.0 refl

run_divider : (m : MessageValue) (sub : Sub) (qs : List Part) → IsBody sub.action → run (ended m sub.designator sub.dates sub.action) (Divider ∷ qs) ≡ run (AtNext (with_sub m sub)) qs
run_divider m sub qs h = step_on (ended m sub.designator sub.dates sub.action) (AtNext (with_sub m sub)) Divider qs (step_divider m sub.designator sub.dates sub.action h)

-- ---- whole messages

abbrev text : MessageValue → List Sub → List (List ℕ) → MessageValue
text m subs free = record m { subs = subs; free = free }

run_free : (m : MessageValue) (subs : List Sub) (free lines : List (List ℕ)) → run (AtFree (text m subs free)) (map FreePart lines) ≡ Some (AtFree (text m subs (free ++ lines)))
run_free m subs free [] = ap (λ (x : List (List ℕ)). Some (AtFree (text m subs x))) (sym (append_none free))
run_free m subs free (l ∷ lines) = run_free m subs (free ++ l ∷ []) lines ∙ ap (λ (x : List (List ℕ)). Some (AtFree (text m subs x))) (append_assoc free (l ∷ []) lines)

-- the parts lead to the end of a message
pub record Ends (s : State) (ps : List Part) (m : MessageValue) : Type 0 where
  pub last : State
  pub reached : run s ps ≡ Some last
  pub finished : finish last ≡ Some m

run_first_free : (m : MessageValue) (line : List ℕ) (qs : List Part) → begins_free line ≡ true → run (AtNext m) (FreePart line ∷ qs) ≡ run (AtFree (with_free m line)) qs
run_first_free m line qs h = step_on (AtNext m) (AtFree (with_free m line)) (FreePart line) qs (choose_some (begins_free line) (AtFree (with_free m line)) h)

ends_later : (m : MessageValue) (done : List Sub) (sub : Sub) (subs : List Sub) (free : List (List ℕ)) → IsSub m.kind sub → AllByRecursion (IsSub m.kind) subs → BeginsFree free → length done + 1 + length subs ≤ 250
    → Ends (ended (text m done []) sub.designator sub.dates sub.action) (later_parts subs ++ free_parts free) (text m (done ++ sub ∷ subs) free)
ends_later m done sub [] [] h k b few = record { last = ended (text m done []) sub.designator sub.dates sub.action; reached = refl; finished = finish_ended (text m done []) sub.designator sub.dates sub.action h.body }
ends_later m done sub [] (line ∷ lines) h k b few = record {
  last = AtFree (text m (done ++ sub ∷ []) (line ∷ lines));
  reached = run_divider (text m done []) sub (map FreePart (line ∷ lines)) h.body
      ∙ run_first_free (text m (done ++ sub ∷ []) []) line (map FreePart lines) b
      ∙ run_free m (done ++ sub ∷ []) (line ∷ []) lines;
  finished = refl;
}
ends_later m done sub (s ∷ subs) free h k b few =
    let before = text m done [] in
    let after = text m (done ++ sub ∷ []) [] in
    let rest = later_parts subs ++ free_parts free in
    let e : (Divider ∷ (sub_parts s ++ later_parts subs)) ++ free_parts free ≡ Divider ∷ (sub_parts s ++ rest) = ap (λ (x : List Part). Divider ∷ x) (append_assoc (sub_parts s) (later_parts subs) (free_parts free)) in
    let room : length (done ++ sub ∷ []) < 250 = omega (arith, few, length-one_more done sub) in
    let fewer : length (done ++ sub ∷ []) + 1 + length subs ≤ 250 = omega (arith, few, length-one_more done sub) in
    let path = ap (λ (x : List Part). run (ended before sub.designator sub.dates sub.action) x) e ∙ run_divider before sub (sub_parts s ++ rest) h.body ∙ run_next after s rest k.0 room in
    let ends = ends_later m (done ++ sub ∷ []) s subs free k.0 k.1 b fewer in
    record { last = ends.last; reached = path ∙ ends.reached; finished = ends.finished ∙ ap (λ (x : List Sub). Some (text m x free)) (append_assoc done (sub ∷ []) (s ∷ subs)) }

ends_subs : (m : MessageValue) (subs : List Sub) (free : List (List ℕ)) → 1 ≤ length subs → length subs ≤ 250 → AllByRecursion (IsSub m.kind) subs → BeginsFree free
    → Ends (AtAction (begun m.originator m.kind m.mode m.reference)) (subs_parts subs ++ free_parts free) (text m subs free)
ends_subs m [] free h few k b = absurd (omega (arith, h))
ends_subs m (s ∷ subs) free h few k b =
    let rest = later_parts subs ++ free_parts free in
    let start = begun m.originator m.kind m.mode m.reference in
    let ends = ends_later m [] s subs free k.0 k.1 b (omega (arith, few)) in
    record {
      last = ends.last;
      reached = ap (λ (x : List Part). run (AtAction start) x) (append_assoc (sub_parts s) (later_parts subs) (free_parts free)) ∙ run_first start s rest k.0 ∙ ends.reached;
      finished = ends.finished;
    }

run_mode : (o : List ℕ) (kind : Kind) (mode : TimeMode) (r : GivenReference) (ms qs : List Part) → IsModePart mode ms → run (AtMode o kind) ((ms ++ ReferencePart r ∷ []) ++ qs) ≡ run (AtAction (begun o kind mode r)) qs
run_mode o kind mode r ms qs (inl e) = ap (λ (x : List Part). run (AtMode o kind) ((x ++ ReferencePart r ∷ []) ++ qs)) e
run_mode o kind mode r ms qs (inr w) = ap (λ (x : List Part). run (AtMode o kind) ((x ++ ReferencePart r ∷ []) ++ qs)) w.1 ∙ ap (λ (x : TimeMode). run (AtAction (begun o kind x r)) qs) (sym w.0)

run_originator : (o : List ℕ) (kind : Kind) (os qs : List Part) → IsOriginatorPart o os → run AtStart ((os ++ KindPart kind ∷ []) ++ qs) ≡ run (AtMode o kind) qs
run_originator o kind os qs (inl w) = ap (λ (x : List Part). run AtStart ((x ++ KindPart kind ∷ []) ++ qs)) w.1 ∙ ap (λ (x : List ℕ). run (AtMode x kind) qs) (sym w.0)
run_originator o kind os qs (inr e) = ap (λ (x : List Part). run AtStart ((x ++ KindPart kind ∷ []) ++ qs)) e

-- the first parts, with the kind alone in the middle
regrouped : (os ms qs : List Part) (k r : Part) → (os ++ (k ∷ (ms ++ r ∷ []))) ++ qs ≡ (os ++ k ∷ []) ++ ((ms ++ r ∷ []) ++ qs)
regrouped os ms qs k r = append_assoc os (k ∷ (ms ++ r ∷ [])) qs ∙ sym (append_assoc os (k ∷ []) ((ms ++ r ∷ []) ++ qs))

run_heading : (o : List ℕ) (kind : Kind) (mode : TimeMode) (r : GivenReference) (heading qs : List Part) → IsHeading o kind mode r heading → run AtStart (heading ++ qs) ≡ run (AtAction (begun o kind mode r)) qs
run_heading o kind mode r heading qs h =
    ap (λ (x : List Part). run AtStart (x ++ qs)) h.whole
    ∙ ap (λ (x : List Part). run AtStart x) (regrouped h.originator_parts h.mode_parts qs (KindPart kind) (ReferencePart r))
    ∙ run_originator o kind h.originator_parts ((h.mode_parts ++ ReferencePart r ∷ []) ++ qs) h.is_originator
    ∙ run_mode o kind mode r h.mode_parts qs h.is_mode

pub complete : (m : MessageValue) (ps : List Part) → IsShape m → HasParts m ps → Ends AtStart ps m
complete m ps t h =
    let ends = ends_subs m m.subs m.free t.some t.few t.subs t.free in
    record {
      last = ends.last;
      reached = ap (λ (x : List Part). run AtStart x) h.whole ∙ run_heading m.originator m.kind m.mode m.reference h.heading (subs_parts m.subs ++ free_parts m.free) h.is_heading ∙ ends.reached;
      finished = ends.finished;
    }
