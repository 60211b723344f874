-- A text can have a sub-message with full dates alone: each of its parts reads again, and it is far
-- from too long.
use Rattle.std.proofs.Common.{◌≡◌, ◌≤◌, ◌<◌, ◌+◌, ◌%◌, ◌/◌, ℕ, Bool, true, false, if◌then◌else◌}
use Rattle.std.proofs.Common.{List, [], ◌∷◌, ◌++◌, length, length-append, append-nil, refl, sym, ap, subst, arith}
use Rattle.std.proofs.Common.{Option, Some, None, IfSome, IsTrue, drop, take}
use Rattle.std.specs.Prelude.{◌==◌, nat_lt, slice_index}
use Rattle.std.specs.List.{AllByRecursion}
use Rattle.std.specs.Str.{bytes_eq}
use Rattle.std.proofs.lemmas.Bool.Decides.{nat_tests}
use Rattle.std.proofs.lemmas.List.{length-take}
use Rattle.ssim_values.specs.Airline.{airline_text, is_airline}
use Rattle.ssim_values.specs.Calendar.{day_limit}
use Rattle.ssim_values.specs.DayMask.{IsMask}
use Rattle.ssim_values.specs.DayMonth.{month_day_text}
use Rattle.ssim_values.specs.Designator.{SpellsDesignator, designator_text}
use Rattle.ssim_values.specs.Flight.{four_digits, number_text, suffix_text}
use Rattle.ssim_values.specs.declared.designator.Designator.{Designator}
use Rattle.ssim_values.specs.declared.time_mode.TimeMode.{TimeMode}
use Rattle.ssim_values.specs.declared.time_mode.TimeMode.TheVariants.{Local, Utc}
use Rattle.ssim_text.specs.clauses.Bounds.{IsCreatorBounded}
use Rattle.ssim_text.specs.Canonical.{creator_text, five_digits, group_code_text, originator_parts}
use Rattle.ssim_text.specs.Canonical.{period_text, reference_text, three_digits, written}
use Rattle.ssim_text.specs.Grammar.{AreDates, KindPart, ModePart, OriginatorPart, Part}
use Rattle.ssim_text.specs.Grammar.{ReferencePart, body_parts, identifier_of, sub_parts, subs_parts}
use Rattle.ssim_text.specs.Lines.{address_of, identifier_text, is_blank_or_none, kind_text, mode_text, originator_of}
use Rattle.ssim_text.specs.Message.{MessageValue}
use Rattle.ssim_text.specs.Spelling.{SpellsMessage}
use Rattle.ssim_text.specs.Values.{no_originator}
use Rattle.ssim_text.specs.declared.action.Action.{Action}
use Rattle.ssim_text.specs.declared.dates.Dates.TheVariants.{Period}
use Rattle.ssim_text.specs.declared.kind.ActionIdentifier.{ActionIdentifier}
use Rattle.ssim_text.specs.declared.kind.ActionIdentifier.TheVariants as identifier
use Rattle.ssim_text.specs.declared.kind.Kind.{Kind}
use Rattle.ssim_text.specs.declared.kind.Kind.TheVariants.{Asm, Ssm}
use Rattle.ssim_text.specs.declared.reference.GivenReference.{GivenReference}
use Rattle.ssim_text.specs.declared.reference.GroupCode.{GroupCode}
use Rattle.ssim_text.specs.declared.reference.GroupCode.TheVariants.{Continuation, End}
use Rattle.ssim_text.proofs.BoundsLemmas.{spelled_reference_bounded}
use Rattle.ssim_text.proofs.DatesAgain.{flight_again}
use Rattle.ssim_text.proofs.HeadingAgain.{address_sound}
use Rattle.ssim_text.proofs.LinesKept.{ReadsAgain}
use Rattle.ssim_text.proofs.ReadsBack.{action_again, all_left, all_right}
use Rattle.ssim_text.proofs.Words.{only_if}
use Rattle.ssim_text.proofs.Writing.{written_both}
use Rattle.ssim_outbox.specs.DatedSub.{dated}
use Rattle.ssim_outbox.specs.clauses.Messages.{IsAlone}
use Rattle.ssim_outbox.specs.Reach.{IsSaid}
use Rattle.ssim_outbox.specs.internal.Texts.{heading_parts}
use Rattle.ssim_outbox.proofs.FullPeriods.{full_again, full_period, full_short}
use Rattle.ssim_outbox.proofs.OtherGroup.{date_five}
use Rattle.ssim_outbox.proofs.ActionParts.{body_again, body_short}
use Rattle.ssim_outbox.proofs.Said.{IsKnown, known}
use Rattle.ssim_outbox.proofs.TextLines.{in_two}
use Rattle.ssim_outbox.proofs.Together.{IsGood, heading_again, text_of}

-- ---- the heading

originator_seven : (originator : List ℕ) → originator_of (46 ∷ originator) ≡ Some originator
    → length originator ≡ 7
unfolding originator_of
originator_seven originator h =
    let p = only_if (is_blank_or_none (take 1 (drop 7 originator))) (address_of (take 7 originator)) originator h in
    (address_sound (take 7 originator) originator p.1).long

choice_short : (b : Bool) (originator : List ℕ)
    → AllByRecursion ReadsAgain (if b then [] else OriginatorPart originator ∷ [])
    → length (written (if b then [] else OriginatorPart originator ∷ [])) ≤ 9
choice_short true originator h = omega arith
choice_short false originator h =
    omega (
      arith,
      length-append ((46 ∷ originator) ++ 10 ∷ []) [],
      length-append (46 ∷ originator) (10 ∷ []),
      originator_seven originator h.0.spelled,
    )

kind_short : (kind : Kind) → length (kind_text kind) ≤ 3
kind_short Ssm = omega arith
kind_short Asm = omega arith

mode_short : (mode : TimeMode) → length (mode_text mode) ≤ 3
mode_short Utc = omega arith
mode_short Local = omega arith

code_short : (code : GroupCode) → length (group_code_text code) ≤ 1
code_short Continuation = omega arith
code_short End = omega arith

creator_short : (creator : Option (List ℕ)) → IfSome creator IsCreatorBounded → length (creator_text creator) ≤ 36
creator_short None h = omega arith
creator_short (Some creator) h = let few = h.few in omega (arith, few)

reference_short : (r : GivenReference) → ReadsAgain (ReferencePart r) → length (creator_text r.creator) ≤ 36
    → length (reference_text r) ≤ 50
reference_short r h bounded =
    let date = month_day_text r.date in
    let code = group_code_text r.code in
    omega (
      arith,
      length-append (date ++ five_digits r.group ++ code ++ three_digits r.serial) (creator_text r.creator),
      length-append (date ++ five_digits r.group ++ code) (three_digits r.serial),
      length-append (date ++ five_digits r.group) code,
      length-append date (five_digits r.group),
      date_five r h,
      code_short r.code,
      bounded,
    )

lines_short : (own kind mode reference : List ℕ) → length own ≤ 9 → length kind ≤ 3 → length mode ≤ 3
    → length reference ≤ 50
    → length (own ++ ((kind ++ 10 ∷ []) ++ ((mode ++ 10 ∷ []) ++ ((reference ++ 10 ∷ []) ++ [])))) ≤ 68
lines_short own kind mode reference h k l m =
    let last = (reference ++ 10 ∷ []) ++ [] in
    omega (
      arith,
      length-append own ((kind ++ 10 ∷ []) ++ ((mode ++ 10 ∷ []) ++ last)),
      length-append (kind ++ 10 ∷ []) ((mode ++ 10 ∷ []) ++ last),
      length-append kind (10 ∷ []),
      length-append (mode ++ 10 ∷ []) last,
      length-append mode (10 ∷ []),
      length-append (reference ++ 10 ∷ []) [],
      length-append reference (10 ∷ []),
      h,
      k,
      l,
      m,
    )

heading_short : (m : MessageValue) (g : ℕ) → AllByRecursion ReadsAgain (heading_parts m g)
    → length (creator_text m.reference.creator) ≤ 36 → length (written (heading_parts m g)) ≤ 68
heading_short m g h bounded =
    let own = originator_parts m.originator in
    let r = record m.reference { group = g } in
    let three = KindPart m.kind ∷ ModePart m.mode ∷ ReferencePart r ∷ [] in
    let last = all_right ReadsAgain own three h in
    subst (λ (x : List ℕ). length x ≤ 68) (sym (written_both own three))
    (lines_short (written own) (kind_text m.kind) (mode_text m.mode) (reference_text r)
    (choice_short (bytes_eq m.originator no_originator) m.originator (all_left ReadsAgain own three h))
    (kind_short m.kind) (mode_short m.mode) (reference_short r last.1.1.0 bounded))

-- ---- the flight

airline_three : (columns : List ℕ) → IsTrue (is_airline columns) → length columns ≡ 3
airline_three columns h = grind (arith, nat_tests)

airline_at : (b : Bool) (columns : List ℕ) → length columns ≡ 3
    → length (if b then take 2 columns else columns) ≤ 3
airline_at true columns h = omega (arith, length-take 2 columns)
airline_at false columns h = omega (arith, h)

number_at : (b : Bool) (x y z : ℕ) (four : List ℕ) → length four ≡ 4
    → length (if b then x ∷ y ∷ z ∷ [] else four) ≤ 4
number_at true x y z four h = omega arith
number_at false x y z four h = omega (arith, h)

suffix_at : (b : Bool) (s : ℕ) → length (if b then [] else s ∷ []) ≤ 1
suffix_at true s = omega arith
suffix_at false s = omega arith

pub designator_short : (d : Designator) (text : List ℕ) → SpellsDesignator d text → length (designator_text d) ≤ 8
designator_short d text h =
    let n = d.flight.number in
    let airline = airline_at (slice_index d.airline 2 == 32) d.airline (airline_three d.airline h.is_code) in
    let number = number_at (nat_lt n 1000) (48 + n / 100) (48 + n / 10 % 10) (48 + n % 10) (four_digits n) refl in
    omega (
      arith,
      length-append (airline_text d.airline) (number_text n ++ suffix_text d.flight.suffix),
      length-append (number_text n) (suffix_text d.flight.suffix),
      airline,
      number,
      suffix_at (d.flight.suffix == 32) d.flight.suffix,
    )

identifier_short : (a : ActionIdentifier) → length (identifier_text a) ≤ 3
identifier_short identifier.New = omega arith
identifier_short identifier.Cnl = omega arith
identifier_short identifier.Rpl = omega arith
identifier_short identifier.Eqt = omega arith
identifier_short identifier.Tim = omega arith

sub_lines_short : (action flight period body : List ℕ) → length action ≤ 3 → length flight ≤ 8
    → length period ≤ 170 → length body ≤ 20520
    → length ((action ++ 10 ∷ []) ++ ((flight ++ 10 ∷ []) ++ ((period ++ 10 ∷ []) ++ body))) ≤ 20704
sub_lines_short action flight period body h k l m =
    omega (
      arith,
      length-append (action ++ 10 ∷ []) ((flight ++ 10 ∷ []) ++ ((period ++ 10 ∷ []) ++ body)),
      length-append action (10 ∷ []),
      length-append (flight ++ 10 ∷ []) ((period ++ 10 ∷ []) ++ body),
      length-append flight (10 ∷ []),
      length-append (period ++ 10 ∷ []) body,
      length-append period (10 ∷ []),
      h,
      k,
      l,
      m,
    )

period_allowed : (kind : Kind) → kind ≡ Ssm → (first last : ℕ) (days : List Bool)
    → AreDates kind (Period (full_period first last days))
period_allowed Ssm e first last days = tt
period_allowed Asm e first last days = cc

-- under a heading whose parts read again
pub alone_under : (h : MessageValue) (d : Designator) (line : List ℕ) (first last : ℕ)
    (days : List Bool) (action : Action) → h.kind ≡ Ssm
    → AllByRecursion ReadsAgain (heading_parts h h.reference.group)
    → length (creator_text h.reference.creator) ≤ 36 → SpellsDesignator d line
    → first < day_limit → last < day_limit → IsMask days → IsKnown action
    → IsAlone h (dated d (record { first = first; last = last; days = days }) action)
alone_under h d line first last days action ssm heading creator flight low high mask k =
    let sub = dated d (record { first = first; last = last; days = days }) action in
    let g = h.reference.group in
    let own = written (subs_parts (sub ∷ [])) in
    let good : IsGood h.kind sub = record {
      again = (
        action_again (identifier_of action),
        (flight_again d line flight, (full_again first last days low high mask, body_again action k.can)),
      );
      allowed = record { dates = period_allowed h.kind ssm first last days; body = k.allowed };
    } in
    let sub_short = sub_lines_short (identifier_text (identifier_of action)) (designator_text d)
    (period_text (full_period first last days)) (written (body_parts action))
    (identifier_short (identifier_of action)) (designator_short d line flight)
    (full_short first last days low high mask) (body_short action k.allowed k.can) in
    let own_is : length own ≡ length (written (sub_parts sub)) =
    ap (λ (p : List Part). length (written p)) (append-nil (sub_parts sub)) in
    text_of h g sub [] heading (good, tt) (omega arith)
    (omega (
      arith,
      ap length (in_two h g (sub ∷ [])),
      length-append (written (heading_parts h g)) own,
      heading_short h g heading creator,
      own_is,
      sub_short,
    ))

pub alone : (h : MessageValue) (text : List ℕ) (d : Designator) (line : List ℕ) (first last : ℕ)
    (days : List Bool) (action : Action) → h.kind ≡ Ssm → SpellsMessage h text → SpellsDesignator d line
    → first < day_limit → last < day_limit → IsMask days → IsSaid action
    → IsAlone h (dated d (record { first = first; last = last; days = days }) action)
alone h text d line first last days action ssm spelled flight low high mask said =
    let bounded = spelled_reference_bounded h text spelled in
    alone_under h d line first last days action ssm
    (heading_again h text h.reference.group bounded.group spelled)
    (creator_short h.reference.creator bounded.creator) flight low high mask (known action said)
