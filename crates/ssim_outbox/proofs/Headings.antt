-- The text of a heading that cancels a flight spells its message exactly if the line in the place of
-- the reference is one: the other lines are fixed.
use Rattle.std.proofs.Common.{◌≡◌, ◌⊎◌, ◌≤◌, ◌+◌, ℕ, false, true, List, [], ◌∷◌, ◌++◌, map, length, take, drop}
use Rattle.std.proofs.Common.{Option, Some, None, Result, Ok, Err, IfOk, IfErr, append-nil, ◌/◌, ◌%◌, refl, sym, ap, subst, inl, inr, ◌∙◌, arith, codes, append_assoc}
use Rattle.std.proofs.Common.{length-append, leb-true, lit<, ◌&&◌, Bool, if◌then◌else◌, bytes_eq, drop_of_length-le, take_all}
use Rattle.std.specs.Prelude.{◌==◌, nat_le}
use Rattle.std.proofs.lemmas.Bool.{and_parts}
use Rattle.std.proofs.lemmas.List.{length-drop}
use Rattle.std.specs.List.{AllByRecursion, AllZip, list_all}
use Rattle.ssim_values.specs.Calendar.{day_number, leap_years, months_length}
use Rattle.ssim_values.specs.Day.{day_of}
use Rattle.ssim_values.specs.DayMask.{days_of}
use Rattle.ssim_values.specs.Designator.{SpellsDesignator, designator_text}
use Rattle.ssim_values.specs.declared.designator.Designator.{Designator}
use Rattle.ssim_values.specs.declared.time_mode.TimeMode.{TimeMode}
use Rattle.ssim_values.specs.declared.time_mode.TimeMode.TheVariants.{Local, Utc}
use Rattle.ssim_values.specs.Day.{month_name}
use Rattle.ssim_values.proofs.DayMonthLaws.{month_day_of-sound}
use Rattle.ssim_text.specs.Bytes.{is_alphanumeric}
use Rattle.ssim_text.specs.Canonical.{canonical, creator_text, originator_parts, part_text, written}
use Rattle.ssim_text.specs.Grammar.{ActionPart, FlightPart, FreePart, IsModePart, IsOriginatorPart, KindPart}
use Rattle.ssim_text.specs.Grammar.{ModePart, OriginatorPart, Part, PeriodPart, ReferencePart, Spells, SpellsText}
use Rattle.ssim_text.specs.Grammar.{free_parts, subs_parts}
use Rattle.ssim_text.specs.Left.{first_unprintable, lines_left, texts}
use Rattle.ssim_text.specs.Lines.{address_of, creator_of, is_blank_or_none, kind_text, mode_text, numbers_of, originator_of, period_of, reference_of}
use Rattle.ssim_text.specs.Message.{MessageValue}
use Rattle.ssim_text.specs.Spelling.{SpellsMessage}
use Rattle.ssim_text.specs.Values.{no_originator}
use Rattle.ssim_text.specs.declared.action.Action.TheVariants.{Cnl}
use Rattle.ssim_text.specs.declared.kind.Kind.{Kind}
use Rattle.ssim_text.specs.declared.kind.Kind.TheVariants.{Asm, Ssm}
use Rattle.ssim_text.specs.declared.kind.ActionIdentifier.TheVariants as identifier
use Rattle.ssim_text.specs.declared.dates.GivenDate.TheVariants.{Full}
use Rattle.ssim_text.specs.declared.dates.GivenEnd.TheVariants.{Until}
use Rattle.ssim_text.specs.declared.dates.GivenPeriod.{GivenPeriod}
use Rattle.ssim_text.specs.declared.reference.GivenReference.{GivenReference}
use Rattle.ssim_text.specs.examples.Texts.{text_of}
use Rattle.ssim_text.proofs.DatesAgain.{flight_again}
use Rattle.ssim_text.proofs.HeadingAgain.{address_sound, originator_again, reference_again, reference_sound}
use Rattle.ssim_text.proofs.LinesKept.{IsLine, ReadsAgain, chosen, written_left, written_printable}
use Rattle.ssim_text.proofs.Place.{one_message}
use Rattle.ssim_text.proofs.Runs.{none_some, some_same}
use Rattle.ssim_text.proofs.Words.{only_if}
use Rattle.ssim_text.proofs.ReadsBack.{action_again, all_both, kind_again, mode_again}
use Rattle.ssim_text.specs.Left.{IsTextLine}
use Rattle.ssim_outbox.specs.internal.Texts.{heading_parts}
use Rattle.ssim_outbox.proofs.Alone.{alone_under, designator_short}
use Rattle.ssim_outbox.specs.Heading.{IsOriginatedWord, IsPlainWord, IsReferenceLine, NamesHeading}
use Rattle.ssim_outbox.specs.declared.fault.OutboxFault.{OutboxFault}
use Rattle.ssim_outbox.specs.declared.fault.OutboxFault.TheVariants as fault
use Rattle.ssim_outbox.specs.internal.Headings.{RefusesText, RefusesWord, added_lines}
use Rattle.ssim_outbox.specs.internal.Headings.{cancellation, cancelling, cancelling_lines, first_flight}

-- ---- the lines of a text

free_text : (lines : List (List ℕ)) → written (map FreePart lines) ≡ text_of lines
free_text [] = refl
free_text (line ∷ lines) = ap (λ (x : List ℕ). (line ++ 10 ∷ []) ++ x) (free_text lines)

free_own : (lines : List (List ℕ)) → AllByRecursion IsLine lines
    → AllByRecursion (λ (p : Part). IsLine (part_text p)) (map FreePart lines)
free_own [] h = tt
free_own (line ∷ lines) h = (h.0, free_own lines h.1)

free_lines : (lines : List (List ℕ)) → map part_text (map FreePart lines) ≡ lines
free_lines [] = refl
free_lines (line ∷ lines) = ap (λ (x : List (List ℕ)). line ∷ x) (free_lines lines)

-- lines of a text are left as they are
lines_are : (lines : List (List ℕ)) → AllByRecursion IsLine lines → texts (lines_left (text_of lines)) ≡ lines
lines_are lines h =
    ap (λ (x : List ℕ). texts (lines_left x)) (sym (free_text lines))
    ∙ written_left 1 (map FreePart lines) (free_own lines h) ∙ free_lines lines

are_printable : (lines : List (List ℕ)) → AllByRecursion IsLine lines → first_unprintable (lines_left (text_of lines)) ≡ None
are_printable lines h =
    ap (λ (x : List ℕ). first_unprintable (lines_left x)) (sym (free_text lines))
    ∙ written_printable 1 (map FreePart lines) (free_own lines h)

-- ---- a reference line is short

creator_few : (text : List ℕ) (creator : Option (List ℕ)) → creator_of text ≡ Some creator
    → (length text ≤ 36) × (length (creator_text creator) ≤ 36)
creator_few [] creator h =
    (omega arith, subst (λ (c : Option (List ℕ)). length (creator_text c) ≤ 36) (some_same None creator h) (omega arith))
creator_few (b ∷ text) creator h =
    let p = only_if ((b == 47) && nat_le 1 (length text) && nat_le (length text) 35) (Some (Some text)) creator h in
    let q = and_parts ((b == 47) && nat_le 1 (length text)) (nat_le (length text) 35) p.0 in
    let few : length text ≤ 35 = leb-true (length text) 35 q.1 in (
      omega (arith, few),
      subst (λ (c : Option (List ℕ)). length (creator_text c) ≤ 36) (some_same (Some text) creator p.1)
          (omega (arith, few)),
    )

line_few : (line : List ℕ) (r : GivenReference) → reference_of line ≡ Some r
    → (length line ≤ 50) × (length (creator_text r.creator) ≤ 36)
line_few line r h =
    let few = creator_few (drop 14 line) r.creator (reference_sound line r h).creator_read in
    (omega (arith, few.0, length-drop 14 line), few.1)

-- ---- the lines of a text that cancels a flight

abbrev week : GivenPeriod
week = record {
  first = Full 9313;
  last = Until (Full 9319);
  days = false ∷ true ∷ false ∷ false ∷ false ∷ false ∷ false ∷ [];
}

week_reads : period_of (codes "01JUL25 07JUL25 2") ≡ Some week
unfolding period_of day_of day_number leap_years months_length days_of
week_reads = refl

week_line : IsLine (codes "01JUL25 07JUL25 2")
week_line = record { some = omega arith; printable = refl; ended = refl }

-- the lines before the heading: that of an originator, or none
pub record IsOwn (originator : List ℕ) (own : List (List ℕ)) (parts : List Part) : Type 0 where
  pub is_part : IsOriginatorPart originator parts
  pub spells : AllZip Spells parts own
  pub lines : AllByRecursion IsLine own
  pub again : AllByRecursion ReadsAgain (originator_parts originator)
  pub few : length (text_of own) ≤ 9

no_own : IsOwn no_originator [] []
no_own = record { is_part = inl (refl, refl); spells = tt; lines = tt; again = tt; few = omega arith }

own_again : (b : Bool) (originator : List ℕ) → ReadsAgain (OriginatorPart originator)
    → AllByRecursion ReadsAgain (if b then [] else OriginatorPart originator ∷ [])
own_again true originator h = tt
own_again false originator h = (h, tt)

-- a dot and an address
dotted_address : (originator : List ℕ) → length originator ≡ 7 → address_of originator ≡ Some originator
    → originator_of (46 ∷ originator) ≡ Some originator
unfolding originator_of
dotted_address originator l h =
    let none_behind : drop 7 originator ≡ [] = drop_of_length-le originator {i = 7} (omega (arith, l)) in
    let all : take 7 originator ≡ originator = take_all 7 originator (omega (arith, l)) in
    chosen (is_blank_or_none (take 1 (drop 7 originator))) (address_of (take 7 originator)) None
    (ap (λ (x : List ℕ). is_blank_or_none (take 1 x)) none_behind)
    ∙ ap address_of all ∙ h

an_own : (originator : List ℕ) → address_of originator ≡ Some originator
    → IsOwn originator ((46 ∷ originator) ∷ []) (OriginatorPart originator ∷ [])
an_own originator h =
    let a = address_sound originator originator h in
    let reads = dotted_address originator a.long h in
    let again = originator_again originator (46 ∷ originator) reads in
    record {
      is_part = inr refl;
      spells = (reads, tt);
      lines = (again.line, tt);
      again = own_again (bytes_eq originator no_originator) originator again;
      few = (let long = a.long in omega (
        arith,
        long,
        length-append ((46 ∷ originator) ++ 10 ∷ []) [],
        length-append (46 ∷ originator) (10 ∷ []),
      ));
    }

both_zip : {A B : Type 0} (R : A → B → Type 0) (xs more : List A) (ys others : List B) → AllZip R xs ys
    → AllZip R more others → AllZip R (xs ++ more) (ys ++ others)
both_zip R [] more [] others h k = k
both_zip R [] more (y ∷ ys) others h k = absurd h
both_zip R (x ∷ xs) more [] others h k = absurd h
both_zip R (x ∷ xs) more (y ∷ ys) others h k = (h.0, both_zip R xs more ys others h.1 k)

text_both : (xs ys : List (List ℕ)) → text_of (xs ++ ys) ≡ text_of xs ++ text_of ys
text_both [] ys = refl
text_both (x ∷ xs) ys =
    ap (λ (t : List ℕ). (x ++ 10 ∷ []) ++ t) (text_both xs ys)
    ∙ sym (append_assoc (x ++ 10 ∷ []) (text_of xs) (text_of ys))

mode_few : (mode : TimeMode) → length (mode_text mode) ≤ 3
mode_few Utc = omega arith
mode_few Local = omega arith

module _ (mode : TimeMode) (airline : List ℕ)
    (code : SpellsDesignator (first_flight airline) (designator_text (first_flight airline))) where
  abbrev d : Designator
  d = first_flight airline

  rest_lines : (line : List ℕ) → IsTextLine line → AllByRecursion IsLine (cancelling_lines mode airline line)
  rest_lines line h = (
    (kind_again Ssm).line,
    ((mode_again mode).line, (h, ((action_again identifier.Cnl).line, ((flight_again d (designator_text d) code).line, (week_line, tt))))),
  )

  abbrev rest_parts : GivenReference → List Part
  rest_parts r =
      KindPart Ssm ∷ ModePart mode ∷ ReferencePart r ∷ ActionPart identifier.Cnl ∷ FlightPart d ∷ PeriodPart week ∷ []

  rest_spelled : (line : List ℕ) (r : GivenReference) → reference_of line ≡ Some r
      → AllZip Spells (rest_parts r) (cancelling_lines mode airline line)
  rest_spelled line r h = (refl, (refl, (h, (refl, (code, (week_reads, tt))))))

  -- the lines but that of the reference have at most 45 bytes
  line_short : (line : List ℕ) → length (text_of (cancelling_lines mode airline line)) ≤ 100 + length line
  line_short line =
      let flight = designator_text d in
      let after = text_of (flight ∷ codes "01JUL25 07JUL25 2" ∷ []) in
      let later = text_of (codes "CNL" ∷ flight ∷ codes "01JUL25 07JUL25 2" ∷ []) in
      omega (
        arith,
        mode_few mode,
        designator_short d flight code,
        length-append (mode_text mode ++ 10 ∷ []) ((line ++ 10 ∷ []) ++ later),
        length-append (mode_text mode) (10 ∷ []),
        length-append (line ++ 10 ∷ []) later,
        length-append line (10 ∷ []),
        length-append (flight ++ 10 ∷ []) (text_of (codes "01JUL25 07JUL25 2" ∷ [])),
        length-append flight (10 ∷ []),
      )

  -- the message, by itself
  module _ (originator : List ℕ) (own : List (List ℕ)) (parts : List Part) (o : IsOwn originator own parts) where
    abbrev whole : List ℕ → List (List ℕ)
    whole line = own ++ cancelling_lines mode airline line

    whole_lines : (line : List ℕ) → IsTextLine line → AllByRecursion IsLine (whole line)
    whole_lines line h = all_both IsLine own (cancelling_lines mode airline line) o.lines (rest_lines line h)

    abbrev message : GivenReference → MessageValue
    message r = cancelling originator mode r airline

    itself : (line : List ℕ) (r : GivenReference) → IsTextLine line → reference_of line ≡ Some r
        → SpellsMessage (message r) (canonical (message r))
    itself line r l h =
        let three = KindPart Ssm ∷ ModePart mode ∷ ReferencePart r ∷ [] in
        let heading : AllByRecursion ReadsAgain (heading_parts (message r) r.group) =
        all_both ReadsAgain (originator_parts originator) three o.again
        (kind_again Ssm, (mode_again mode, (reference_again r line h l, tt))) in
        alone_under (message r) d (designator_text d) 9313 9319
        (false ∷ true ∷ false ∷ false ∷ false ∷ false ∷ false ∷ []) Cnl refl heading (line_few line r h).1 code
        (lit< tt) (lit< tt) (record { seven = refl; some = lit< tt }) (record { allowed = tt; can = tt })

    -- the text spells it
    pub spelled : (line : List ℕ) (r : GivenReference) → IsTextLine line → reference_of line ≡ Some r
        → SpellsMessage (message r) (text_of own ++ text_of (cancelling_lines mode airline line))
    spelled line r l h =
        let is = itself line r l h in
        let lines = whole_lines line l in
        subst (SpellsMessage (message r)) (text_both own (cancelling_lines mode airline line)) (record {
          short = omega (
            arith,
            o.few,
            (line_few line r h).0,
            line_short line,
            ap length (text_both own (cancelling_lines mode airline line)),
            length-append (text_of own) (text_of (cancelling_lines mode airline line)),
          );
          printable = are_printable (whole line) lines;
          spelled = record {
            shape = is.spelled.shape;
            parts = parts ++ rest_parts r;
            has_parts = record {
              heading = parts ++ (KindPart Ssm ∷ (ModePart mode ∷ []) ++ ReferencePart r ∷ []);
              is_heading = record {
                originator_parts = parts;
                is_originator = o.is_part;
                mode_parts = ModePart mode ∷ [];
                is_mode = inl refl;
                whole = refl;
              };
              whole = sym (append_assoc parts (KindPart Ssm ∷ ModePart mode ∷ ReferencePart r ∷ [])
                  (ActionPart identifier.Cnl ∷ FlightPart d ∷ PeriodPart week ∷ []));
            };
            spelled = subst (λ (x : List (List ℕ)). AllZip Spells (parts ++ rest_parts r) x)
                (sym (lines_are (whole line) lines))
                (both_zip Spells parts (rest_parts r) own (cancelling_lines mode airline line) o.spells
                (rest_spelled line r h));
          };
          canonical_short = is.canonical_short;
        })

    -- a message whose text it is has a reference line in its place
    abbrev Reads : List ℕ → Type 0
    Reads line = (r : GivenReference) × (reference_of line ≡ Some r)

    -- the message of the text is that one
    pub only : (m : MessageValue) (line : List ℕ) → IsTextLine line
        → (SpellsText m (whole line) → Reads line)
        → SpellsMessage m (text_of own ++ text_of (cancelling_lines mode airline line))
        → (r : GivenReference) × (reference_of line ≡ Some r) × (m ≡ message r)
    only m line l find h =
        let text = text_of own ++ text_of (cancelling_lines mode airline line) in
        let whole_text : texts (lines_left text) ≡ whole line =
        ap (λ (x : List ℕ). texts (lines_left x)) (sym (text_both own (cancelling_lines mode airline line)))
        ∙ lines_are (whole line) (whole_lines line l) in
        let p = find (subst (SpellsText m) whole_text h.spelled) in
        (p.0, p.1, one_message m (message p.0) (texts (lines_left text)) h.spelled (spelled line p.0 l p.1).spelled)

-- ---- a line in the place of the reference is one

no_reference : (mode : TimeMode) (r : GivenReference) → reference_of (mode_text mode) ≡ Some r → ⊥
unfolding reference_of numbers_of
no_reference Utc r h = none_some r h
no_reference Local r h = none_some r h

heads_same : (x y : ℕ) (xs ys : List ℕ) → x ∷ xs ≡ y ∷ ys → x ≡ y
heads_same x y xs ys h = cc

tails_same : (x y : ℕ) (xs ys : List ℕ) → x ∷ xs ≡ y ∷ ys → xs ≡ ys
tails_same x y xs ys h = cc

kind_no_dot : (kind : Kind) (originator : List ℕ) → 46 ∷ originator ≡ kind_text kind → ⊥
kind_no_dot Ssm originator h = let e = heads_same 46 83 originator (codes "SM") h in omega (arith, e)
kind_no_dot Asm originator h = let e = heads_same 46 65 originator (codes "SM") h in omega (arith, e)

no_dot : (originator : List ℕ) → originator_of (codes "SSM") ≡ Some originator → ⊥
unfolding originator_of
no_dot originator h = none_some originator h

-- the parts from the kind on
after_kind : (kind : Kind) (given mode : TimeMode) (r : GivenReference) (mode_parts more : List Part)
    (line : List ℕ) (rest : List (List ℕ)) → IsModePart given mode_parts
    → AllZip Spells ((KindPart kind ∷ (mode_parts ++ ReferencePart r ∷ [])) ++ more)
    (codes "SSM" ∷ mode_text mode ∷ line ∷ rest) → reference_of line ≡ Some r
after_kind kind given mode r mode_parts more line rest (inl is) h =
    let k = subst (λ (x : List Part). AllZip Spells ((KindPart kind ∷ (x ++ ReferencePart r ∷ [])) ++ more)
    (codes "SSM" ∷ mode_text mode ∷ line ∷ rest)) is h in
    k.1.1.0
after_kind kind given mode r mode_parts more line rest (inr is) h =
    let k = subst (λ (x : List Part). AllZip Spells ((KindPart kind ∷ (x ++ ReferencePart r ∷ [])) ++ more)
    (codes "SSM" ∷ mode_text mode ∷ line ∷ rest)) is.1 h in
    absurd (no_reference mode r k.1.0)

abbrev IsRead : List ℕ → Type 0
IsRead line = (r : GivenReference) × (reference_of line ≡ Some r)

-- without an originator
pub reads_plain : (m : MessageValue) (mode : TimeMode) (line : List ℕ) (rest : List (List ℕ))
    → SpellsText m (codes "SSM" ∷ mode_text mode ∷ line ∷ rest) → IsRead line
reads_plain m mode line rest h =
    let f = h.has_parts.is_heading in
    let more = subs_parts m.subs ++ free_parts m.free in
    let whole = subst (λ (x : List Part). AllZip Spells x (codes "SSM" ∷ mode_text mode ∷ line ∷ rest))
    (h.has_parts.whole ∙ ap (λ (x : List Part). x ++ more) f.whole) h.spelled in
    by f.originator_parts f.mode_parts f.is_originator f.is_mode whole
  where
    by : (own mode_parts : List Part) → IsOriginatorPart m.originator own → IsModePart m.mode mode_parts
        → AllZip Spells ((own ++ (KindPart m.kind ∷ (mode_parts ++ ReferencePart m.reference ∷ [])))
        ++ (subs_parts m.subs ++ free_parts m.free)) (codes "SSM" ∷ mode_text mode ∷ line ∷ rest) → IsRead line
    by own mode_parts (inl none) is h =
        let more = subs_parts m.subs ++ free_parts m.free in (
          m.reference,
          after_kind m.kind m.mode mode m.reference mode_parts more line rest is
              (subst (λ (x : List Part). AllZip Spells ((x ++ (KindPart m.kind ∷ (mode_parts ++ ReferencePart m.reference ∷ []))) ++ more)
              (codes "SSM" ∷ mode_text mode ∷ line ∷ rest)) none.1 h),
        )
    by own mode_parts (inr one) is h =
        let more = subs_parts m.subs ++ free_parts m.free in
        let k = subst (λ (x : List Part). AllZip Spells ((x ++ (KindPart m.kind ∷ (mode_parts ++ ReferencePart m.reference ∷ []))) ++ more)
        (codes "SSM" ∷ mode_text mode ∷ line ∷ rest)) one h in
        absurd (no_dot m.originator k.0)

-- with the line of an originator
pub reads_originated : (m : MessageValue) (originator : List ℕ) (mode : TimeMode) (line : List ℕ) (rest : List (List ℕ))
    → SpellsText m ((46 ∷ originator) ∷ codes "SSM" ∷ mode_text mode ∷ line ∷ rest) → IsRead line
reads_originated m originator mode line rest h =
    let f = h.has_parts.is_heading in
    let more = subs_parts m.subs ++ free_parts m.free in
    let whole = subst (λ (x : List Part). AllZip Spells x ((46 ∷ originator) ∷ codes "SSM" ∷ mode_text mode ∷ line ∷ rest))
    (h.has_parts.whole ∙ ap (λ (x : List Part). x ++ more) f.whole) h.spelled in
    by f.originator_parts f.mode_parts f.is_originator f.is_mode whole
  where
    by : (own mode_parts : List Part) → IsOriginatorPart m.originator own → IsModePart m.mode mode_parts
        → AllZip Spells ((own ++ (KindPart m.kind ∷ (mode_parts ++ ReferencePart m.reference ∷ [])))
        ++ (subs_parts m.subs ++ free_parts m.free)) ((46 ∷ originator) ∷ codes "SSM" ∷ mode_text mode ∷ line ∷ rest) → IsRead line
    by own mode_parts (inl none) is h =
        let more = subs_parts m.subs ++ free_parts m.free in
        let k = subst (λ (x : List Part). AllZip Spells ((x ++ (KindPart m.kind ∷ (mode_parts ++ ReferencePart m.reference ∷ []))) ++ more)
        ((46 ∷ originator) ∷ codes "SSM" ∷ mode_text mode ∷ line ∷ rest)) none.1 h in
        absurd (kind_no_dot m.kind originator k.0)
    by own mode_parts (inr one) is h =
        let more = subs_parts m.subs ++ free_parts m.free in
        let k = subst (λ (x : List Part). AllZip Spells ((x ++ (KindPart m.kind ∷ (mode_parts ++ ReferencePart m.reference ∷ []))) ++ more)
        ((46 ∷ originator) ∷ codes "SSM" ∷ mode_text mode ∷ line ∷ rest)) one h in
        (m.reference, after_kind m.kind m.mode mode m.reference mode_parts more line rest is k.1)

-- ---- the heading of a word

if_ok : {T E : Type 0} {P Q : T → Type 0} (r : Result T E) → ((x : T) → P x → Q x) → IfOk r P → IfOk r Q
if_ok (Ok x) f p = f x p
if_ok (Err e) f p = p

if_err : {T E : Type 0} {P Q : E → Type 0} (r : Result T E) → ((e : E) → P e → Q e) → IfErr r P → IfErr r Q
if_err (Ok x) f p = p
if_err (Err e) f p = f e p

pub false_true : false ≡ true → ⊥
false_true h = cc

-- lines that are added to a text
added : (lines : List (List ℕ)) (text : List ℕ) → added_lines text lines ≡ text ++ text_of lines
added [] text = sym (append-nil text)
added (line ∷ lines) text =
    added lines (text ++ (line ++ 10 ∷ [])) ∙ append_assoc text (line ++ 10 ∷ []) (text_of lines)

abbrev pub HasNoOriginator : List ℕ → Type 0
HasNoOriginator word =
    (address line : List ℕ) → length address ≡ 7 → word ≡ 46 ∷ address ++ 47 ∷ line → ⊥

plain_none : (mode : TimeMode) (word : List ℕ) → HasNoOriginator word
    → ((r : GivenReference) → IsReferenceLine word r → ⊥) → (m : MessageValue) → NamesHeading mode word m → ⊥
plain_none mode word other none m names = by names.word_is
  where
    by : IsPlainWord word m.originator m.reference ⊎ IsOriginatedWord word m.originator m.reference → ⊥
    by (inl p) = none m.reference p.line
    by (inr o) = other m.originator o.reference_line (address_sound m.originator m.originator o.address).long o.word_is

-- a word that is no line
pub plain_no_line : (mode : TimeMode) (word : List ℕ) → HasNoOriginator word → (IsTextLine word → ⊥)
    → RefusesWord mode word fault.Reference
plain_no_line mode word other none = inr (refl, plain_none mode word other (λ r line. none line.is_line))

parts_same : (a b x y : List ℕ) → length a ≡ length b → a ++ x ≡ b ++ y → (a ≡ b) × (x ≡ y)
parts_same [] [] x y l e = (refl, e)
parts_same [] (d ∷ ds) x y l e = absurd (omega (arith, l))
parts_same (c ∷ cs) [] x y l e = absurd (omega (arith, l))
parts_same (c ∷ cs) (d ∷ ds) x y l e =
    let p = parts_same cs ds x y (omega (arith, l)) (tails_same c d (cs ++ x) (ds ++ y) e) in (
      ap (λ (z : ℕ). z ∷ cs) (heads_same c d (cs ++ x) (ds ++ y) e) ∙ ap (λ (zs : List ℕ). d ∷ zs) p.0,
      p.1,
    )

no_digit : (n : ℕ) (rest more : List ℕ) → 46 ∷ rest ≡ (48 + n) ∷ more → ⊥
no_digit n rest more h = let e = heads_same 46 (48 + n) rest more h in omega (arith, e)

-- no reference line begins with a dot
dot_no_reference : (rest : List ℕ) (r : GivenReference) → reference_of (46 ∷ rest) ≡ Some r → ⊥
dot_no_reference rest r h =
    let s = reference_sound (46 ∷ rest) r h in
    let spelled = (month_day_of-sound r.date (take 5 (take 14 (46 ∷ rest))) s.numbers.date_read).spelled in
    no_digit (r.date.day / 10) (take 4 (take 13 rest)) ((48 + r.date.day % 10) ∷ month_name r.date.month) spelled

-- what the originator and the reference of a word are, that has an address of seven bytes
originated_none : (mode : TimeMode) (word address line : List ℕ) → length address ≡ 7
    → word ≡ 46 ∷ address ++ 47 ∷ line
    → ((r : GivenReference) → address_of address ≡ Some address → IsReferenceLine line r → ⊥)
    → (m : MessageValue) → NamesHeading mode word m → ⊥
originated_none mode word address line long is none m names = by names.word_is
  where
    by : IsPlainWord word m.originator m.reference ⊎ IsOriginatedWord word m.originator m.reference → ⊥
    by (inl p) =
        dot_no_reference (address ++ 47 ∷ line) m.reference
        (subst (λ (w : List ℕ). reference_of w ≡ Some m.reference) is p.line.reads)
    by (inr o) =
        let own = (address_sound m.originator m.originator o.address).long in
        let cut = parts_same m.originator address (47 ∷ o.reference_line) (47 ∷ line) (own ∙ sym long)
        (tails_same 46 46 (m.originator ++ 47 ∷ o.reference_line) (address ++ 47 ∷ line) (sym o.word_is ∙ is)) in
        none m.reference (subst (λ (x : List ℕ). address_of x ≡ Some x) cut.0 o.address)
        (subst (λ (x : List ℕ). IsReferenceLine x m.reference)
        (tails_same 47 47 o.reference_line line cut.1) o.line)

pub originated_no_address : (mode : TimeMode) (word address line : List ℕ) → length address ≡ 7
    → word ≡ 46 ∷ address ++ 47 ∷ line → list_all is_alphanumeric address ≡ false
    → RefusesWord mode word fault.Reference
originated_no_address mode word address line long is not_all =
    inr (
      refl,
      originated_none mode word address line long is
          (λ r reads its. false_true (sym not_all ∙ (address_sound address address reads).all)),
    )

pub originated_no_line : (mode : TimeMode) (word address line : List ℕ) → length address ≡ 7
    → word ≡ 46 ∷ address ++ 47 ∷ line → (IsTextLine line → ⊥) → RefusesWord mode word fault.Reference
originated_no_line mode word address line long is none =
    inr (refl, originated_none mode word address line long is (λ r reads its. none its.is_line))

module _ (mode : TimeMode) (airline : List ℕ)
    (code : SpellsDesignator (first_flight airline) (designator_text (first_flight airline)))
    (result : Result MessageValue OutboxFault) (text : List ℕ) (line : List ℕ) (is_line : IsTextLine line)
  where
    abbrev lines : List (List ℕ)
    lines = cancelling_lines mode airline line

    -- the word has no originator
    module _ (empty : text ≡ []) where
      plain_text : added_lines text lines ≡ [] ++ text_of lines
      plain_text = ap (λ (t : List ℕ). added_lines t lines) empty ∙ added lines []

      plain_is : (m : MessageValue) → SpellsMessage m (added_lines text lines)
          → (r : GivenReference) × (reference_of line ≡ Some r) × (m ≡ cancelling no_originator mode r airline)
      plain_is m h =
          only mode airline code no_originator [] [] no_own m line is_line
          (reads_plain m mode line (drop 3 lines)) (subst (SpellsMessage m) plain_text h)

      plain_names : (m : MessageValue) → SpellsMessage m (added_lines text lines) → NamesHeading mode line m
      plain_names m h =
          let p = plain_is m h in
          subst (NamesHeading mode line) (sym p.2) (record {
            kind = refl;
            mode_is = refl;
            word_is = inl (record { none = refl; line = record { is_line = is_line; reads = p.1 } });
          })

      plain_subs : (m : MessageValue) → SpellsMessage m (added_lines text lines)
          → m.subs ≡ cancellation airline ∷ []
      plain_subs m h = let p = plain_is m h in ap (λ (x : MessageValue). x.subs) p.2

      pub plain_named : IfOk result (λ m. SpellsMessage m (added_lines text lines))
          → IfOk result (NamesHeading mode line)
      plain_named h = if_ok result plain_names h

      pub plain_cancels : IfOk result (λ m. SpellsMessage m (added_lines text lines))
          → IfOk result (λ m. m.subs ≡ cancellation airline ∷ [])
      plain_cancels h = if_ok result plain_subs h

      plain_word : (refusal : OutboxFault) → HasNoOriginator line → RefusesText (added_lines text lines) refusal
          → RefusesWord mode line refusal
      plain_word refusal other (inl e) = inl e
      plain_word refusal other (inr h) =
          inr (
            h.0,
            plain_none mode line other (λ r its.
                h.1 (cancelling no_originator mode r airline)
                (subst (SpellsMessage (cancelling no_originator mode r airline)) (sym plain_text)
                (spelled mode airline code no_originator [] [] no_own line r is_line its.reads))),
          )

      pub plain_refused : HasNoOriginator line → IfErr result (RefusesText (added_lines text lines))
          → IfErr result (RefusesWord mode line)
      plain_refused other h = if_err result (λ refusal. plain_word refusal other) h

    -- the word has the address of an originator
    module _ (address : List ℕ) (long : length address ≡ 7) (reads_address : address_of address ≡ Some address)
        (begun : text ≡ (46 ∷ address) ++ 10 ∷ []) where
      abbrev own : List (List ℕ)
      own = (46 ∷ address) ∷ []

      originated_text : added_lines text lines ≡ text_of own ++ text_of lines
      originated_text =
          added lines text ∙ ap (λ (t : List ℕ). t ++ text_of lines)
          (begun ∙ sym (append-nil ((46 ∷ address) ++ 10 ∷ [])))

      originated_is : (m : MessageValue) → SpellsMessage m (added_lines text lines)
          → (r : GivenReference) × (reference_of line ≡ Some r) × (m ≡ cancelling address mode r airline)
      originated_is m h =
          only mode airline code address own (OriginatorPart address ∷ []) (an_own address reads_address) m line is_line
          (reads_originated m address mode line (drop 3 lines)) (subst (SpellsMessage m) originated_text h)

      originated_names : (word : List ℕ) → word ≡ 46 ∷ address ++ 47 ∷ line → (m : MessageValue)
          → SpellsMessage m (added_lines text lines) → NamesHeading mode word m
      originated_names word is m h =
          let p = originated_is m h in
          subst (NamesHeading mode word) (sym p.2) (record {
            kind = refl;
            mode_is = refl;
            word_is = inr (record {
              address = reads_address;
              reference_line = line;
              line = record { is_line = is_line; reads = p.1 };
              word_is = is;
            });
          })

      originated_subs : (m : MessageValue) → SpellsMessage m (added_lines text lines)
          → m.subs ≡ cancellation airline ∷ []
      originated_subs m h = let p = originated_is m h in ap (λ (x : MessageValue). x.subs) p.2

      pub originated_named : (word : List ℕ) → word ≡ 46 ∷ address ++ 47 ∷ line
          → IfOk result (λ m. SpellsMessage m (added_lines text lines)) → IfOk result (NamesHeading mode word)
      originated_named word is h = if_ok result (originated_names word is) h

      pub originated_cancels : IfOk result (λ m. SpellsMessage m (added_lines text lines))
          → IfOk result (λ m. m.subs ≡ cancellation airline ∷ [])
      originated_cancels h = if_ok result originated_subs h

      originated_word : (word : List ℕ) → word ≡ 46 ∷ address ++ 47 ∷ line → (refusal : OutboxFault)
          → RefusesText (added_lines text lines) refusal → RefusesWord mode word refusal
      originated_word word is refusal (inl e) = inl e
      originated_word word is refusal (inr h) =
          inr (
            h.0,
            originated_none mode word address line long is (λ r reads its.
                h.1 (cancelling address mode r airline)
                (subst (SpellsMessage (cancelling address mode r airline)) (sym originated_text)
                (spelled mode airline code address own (OriginatorPart address ∷ []) (an_own address reads_address) line r
                is_line its.reads))),
          )

      pub originated_refused : (word : List ℕ) → word ≡ 46 ∷ address ++ 47 ∷ line
          → IfErr result (RefusesText (added_lines text lines)) → IfErr result (RefusesWord mode word)
      originated_refused word is h = if_err result (originated_word word is) h
