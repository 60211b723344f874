-- An itinerary with the times of leg lines has each leg as before, or with the times of a line that
-- fits no earlier leg. So the lines of the legs whose times are other ones make the same of it.
use Rattle.std.proofs.Common.{◌≡◌, ◌⊎◌, ◌||◌, ◌&&◌, ◌∙◌, ℕ, Bool, true, false, if◌then◌else◌}
use Rattle.std.proofs.Common.{List, [], ◌∷◌, ◌++◌, map, length, bytes_eq, refl, sym, ap, subst}
use Rattle.std.proofs.Common.{inl, inr, append_assoc, Option, Some, None}
use Rattle.std.specs.List.{AllByRecursion, AllZip}
use Rattle.std.proofs.lemmas.Bool.{and_parts, and_from}
use Rattle.std.proofs.lemmas.Slice.Eq.{bytes_eq-Decides}
use Rattle.ssim_columns.specs.Leg.{leg_columns, spread}
use Rattle.ssim_columns.proofs.lemmas.Rows.{same_columns}
use Rattle.std.proofs.Common.{lit<, lit≤, ◌<◌, ◌≤◌}
use Rattle.ssim_text.specs.Grammar.{IsLegLine}
use Rattle.ssim_text.specs.Values.{EquipmentValue}
use Rattle.ssim_text.specs.declared.leg.LegLine.{LegLine}
use Rattle.ssim_base.specs.Timetable.{LegValue, Legs}
use Rattle.ssim_schedule.specs.Effect.{equipped, fits, has_leg, have_legs, retimed, with_line}
use Rattle.ssim_schedule.specs.Effect.{with_lines}
use Rattle.ssim_schedule.specs.MessageColumns.{equipment_of, times_of, with_times}
use Rattle.ssim_outbox.specs.Route.{same_times}
use Rattle.ssim_outbox.specs.Sayable.{HaveColumns, equipped_by}
use Rattle.ssim_outbox.specs.internal.ColumnLines.{HasLine, retimed_columns}
use Rattle.ssim_outbox.proofs.Columns.{arrival_timed, departure_timed, equipment_changed}
use Rattle.ssim_outbox.proofs.Columns.{times_twice}
use Rattle.ssim_outbox.proofs.OldLegs.{line_long}
use Rattle.ssim_outbox.proofs.ColumnLines.{HasTimes, retimed_has, times_kept}

-- the leg with other columns
abbrev of_columns : LegValue → List ℕ → LegValue
of_columns leg columns = record leg { columns = columns }

-- ---- legs that are retimed or not

-- the new leg has the times of a leg line that fits it, and no earlier leg
pub record IsRetimed (before : Legs) (leg new : LegValue) : Type 0 where
  pub line : LegLine
  pub is_line : IsLegLine line
  pub fit : fits line leg ≡ true
  pub first : has_leg before line ≡ false
  pub made : new ≡ retimed line leg

-- each leg is as before or retimed; the legs before them are given, the last one first
abbrev pub Changed : Legs → Legs → Legs → Type 0
Changed before [] [] = Unit {0}
Changed before [] (new ∷ news) = ⊥
Changed before (leg ∷ legs) [] = ⊥
Changed before (leg ∷ legs) (new ∷ news) =
    ((new ≡ leg) ⊎ IsRetimed before leg new) × Changed (leg ∷ before) legs news

unchanged : (before legs : Legs) → Changed before legs legs
unchanged before [] = tt
unchanged before (leg ∷ legs) = (inl refl, unchanged (leg ∷ before) legs)

pub fits_retimed : (line other : LegLine) (leg : LegValue) → length leg.columns ≡ 158
    → fits line (retimed other leg) ≡ fits line leg
fits_retimed line other leg len = λ i.
    bytes_eq (departure_timed (times_of other) leg.columns len i) line.departure.station
    && bytes_eq (arrival_timed (times_of other) leg.columns len i) line.arrival.station

-- the stations stay
fits_changed : (line : LegLine) (before : Legs) (leg new : LegValue) → length leg.columns ≡ 158
    → (new ≡ leg) ⊎ IsRetimed before leg new → fits line new ≡ fits line leg
fits_changed line before leg new len (inl same) = ap (fits line) same
fits_changed line before leg new len (inr r) =
    ap (fits line) r.made ∙ fits_retimed line r.line leg len

-- the leg with the times of a line, whatever times it has got before
made_again : (line : LegLine) (before : Legs) (leg new : LegValue) → length leg.columns ≡ 158
    → (new ≡ leg) ⊎ IsRetimed before leg new → retimed line new ≡ retimed line leg
made_again line before leg new len (inl same) = ap (retimed line) same
made_again line before leg new len (inr r) =
    ap (retimed line) r.made
    ∙ ap (of_columns leg) (times_twice (times_of line) (times_of r.line) leg.columns len)

line_changed : (line : LegLine) (before legs news : Legs) → IsLegLine line → HaveColumns legs
    → has_leg before line ≡ false → Changed before legs news
    → Changed before legs (with_line line news)
line_changed line before [] [] is long fresh c = tt
line_changed line before [] (new ∷ news) is long fresh c = absurd c
line_changed line before (leg ∷ legs) [] is long fresh c = absurd c
line_changed line before (leg ∷ legs) (new ∷ news) is long fresh c =
    by (fits line new) refl
    (λ rest. line_changed line (leg ∷ before) legs news is long.1 rest c.1)
  where
    fit : fits line new ≡ fits line leg
    fit = fits_changed line before leg new long.0 c.0

    by : (b : Bool) → fits line new ≡ b
        → (has_leg (leg ∷ before) line ≡ false
        → Changed (leg ∷ before) legs (with_line line news))
        → Changed before (leg ∷ legs) (if b then retimed line new ∷ news else new ∷ with_line line news)
    by true e later = (
      inr (record {
        line = line;
        is_line = is;
        fit = sym fit ∙ e;
        first = fresh;
        made = made_again line before leg new long.0 c.0;
      }),
      c.1,
    )
    by false e later = (c.0, later (λ i. (sym fit ∙ e) i || fresh i))

lines_changed : (lines : List LegLine) (legs news : Legs) → AllByRecursion IsLegLine lines
    → HaveColumns legs → Changed [] legs news → Changed [] legs (with_lines lines news)
lines_changed [] legs news are long c = c
lines_changed (line ∷ lines) legs news are long c =
    lines_changed lines legs (with_line line news) are.1 long
    (line_changed line [] legs news are.0 long refl c)

pub with_lines_changed : (lines : List LegLine) (legs : Legs) → AllByRecursion IsLegLine lines
    → HaveColumns legs → Changed [] legs (with_lines lines legs)
with_lines_changed lines legs are long =
    lines_changed lines legs legs are long (unchanged [] legs)

-- ---- the same times

-- two legs have the same times
pub record TimesAre (d e : List ℕ) : Type 0 where
  pub passenger_departure : leg_columns 40 43 d ≡ leg_columns 40 43 e
  pub aircraft_departure : leg_columns 44 47 d ≡ leg_columns 44 47 e
  pub aircraft_arrival : leg_columns 58 61 d ≡ leg_columns 58 61 e
  pub passenger_arrival : leg_columns 62 65 d ≡ leg_columns 62 65 e
  pub variations : leg_columns 193 194 d ≡ leg_columns 193 194 e

times_are : (d e : List ℕ) → same_times d e ≡ true → TimesAre d e
unfolding same_times
times_are d e h =
    let eq : (first last : ℕ) → bytes_eq (leg_columns first last d) (leg_columns first last e) ≡ true
    → leg_columns first last d ≡ leg_columns first last e =
    λ first last. (bytes_eq-Decides (leg_columns first last d) (leg_columns first last e)).0 in
    let test = λ (first last : ℕ). bytes_eq (leg_columns first last d) (leg_columns first last e) in
    let p = and_parts (((test 40 43 && test 44 47) && test 58 61) && test 62 65) (test 193 194) h in
    let q = and_parts ((test 40 43 && test 44 47) && test 58 61) (test 62 65) p.0 in
    let r = and_parts (test 40 43 && test 44 47) (test 58 61) q.0 in
    let s = and_parts (test 40 43) (test 44 47) r.0 in
    record {
      passenger_departure = eq 40 43 s.0;
      aircraft_departure = eq 44 47 s.1;
      aircraft_arrival = eq 58 61 r.1;
      passenger_arrival = eq 62 65 q.1;
      variations = eq 193 194 p.1;
    }

times_same : (d e : List ℕ) → TimesAre d e → same_times d e ≡ true
unfolding same_times
times_same d e h =
    let test = λ (first last : ℕ). bytes_eq (leg_columns first last d) (leg_columns first last e) in
    let eq : (first last : ℕ) → leg_columns first last d ≡ leg_columns first last e
    → test first last ≡ true =
    λ first last. (bytes_eq-Decides (leg_columns first last d) (leg_columns first last e)).1 in
    and_from (((test 40 43 && test 44 47) && test 58 61) && test 62 65) (test 193 194)
    (and_from ((test 40 43 && test 44 47) && test 58 61) (test 62 65)
    (and_from (test 40 43 && test 44 47) (test 58 61)
    (and_from (test 40 43) (test 44 47) (eq 40 43 h.passenger_departure)
    (eq 44 47 h.aircraft_departure)) (eq 58 61 h.aircraft_arrival))
    (eq 62 65 h.passenger_arrival)) (eq 193 194 h.variations)

-- the legs have the times of the old ones
abbrev pub HaveTimesOf : Legs → Legs → Type 0
HaveTimesOf [] [] = Unit {0}
HaveTimesOf [] (leg ∷ legs) = ⊥
HaveTimesOf (old ∷ olds) [] = ⊥
HaveTimesOf (old ∷ olds) (leg ∷ legs) = TimesAre old.columns leg.columns × HaveTimesOf olds legs

own_times : (olds : Legs) → HaveTimesOf olds olds
own_times [] = tt
own_times (old ∷ olds) = (
  record {
    passenger_departure = refl;
    aircraft_departure = refl;
    aircraft_arrival = refl;
    passenger_arrival = refl;
    variations = refl;
  },
  own_times olds,
)

equipped_times : (e : EquipmentValue) (olds : Legs) → HaveColumns olds
    → HaveTimesOf olds (map (equipped e) olds)
equipped_times e [] long = tt
equipped_times e (old ∷ olds) long =
    let d = old.columns in
    let x = (equipped e old).columns in
    let c = equipment_changed (equipment_of e) d long.0 in
    let same : (first last : ℕ) → 36 < first → first ≤ last → last ≤ 72
    → leg_columns first last d ≡ leg_columns first last x =
    λ first last low le high. sym (same_columns (spread x) (spread d) 36 72 first last
    c.columns_37_to_72 low le high) in (
      record {
        passenger_departure = same 40 43 (lit< tt) (lit≤ tt) (lit≤ tt);
        aircraft_departure = same 44 47 (lit< tt) (lit≤ tt) (lit≤ tt);
        aircraft_arrival = same 58 61 (lit< tt) (lit≤ tt) (lit≤ tt);
        passenger_arrival = same 62 65 (lit< tt) (lit≤ tt) (lit≤ tt);
        variations = sym c.columns_193_to_194;
      },
      equipped_times e olds long.1,
    )

pub parts_times : (e : Option EquipmentValue) (olds : Legs) → HaveColumns olds
    → HaveTimesOf olds (equipped_by e olds)
parts_times None olds long = own_times olds
parts_times (Some e) olds long = equipped_times e olds long

-- ---- the lines of the legs whose times are other ones

-- each line fits a leg, with the times of the lines before it
abbrev pub Fit : List LegLine → Legs → Type 0
Fit [] legs = Unit {0}
Fit (line ∷ lines) legs = (has_leg legs line ≡ true) × Fit lines (with_line line legs)

-- leg lines with these columns, which make the new legs after some that stay
pub record Chosen (front legs news : Legs) (columns : List (List ℕ)) : Type 0 where
  pub lines : List LegLine
  pub have : AllZip HasLine lines columns
  pub fit : Fit lines (front ++ legs)
  pub made : with_lines lines (front ++ legs) ≡ front ++ news

has_after : (front : Legs) (leg : LegValue) (line : LegLine)
    → has_leg (front ++ leg ∷ []) line ≡ fits line leg || has_leg front line
has_after [] leg line = refl
has_after (first ∷ front) leg line =
    ap (λ (b : Bool). fits line first || b) (has_after front leg line)
    ∙ turned (fits line first) (fits line leg) (has_leg front line)
  where
    turned : (a b c : Bool) → a || (b || c) ≡ b || (a || c)
    turned true true c = refl
    turned true false c = refl
    turned false b c = refl

has_in : (front legs : Legs) (leg : LegValue) (line : LegLine) → fits line leg ≡ true
    → has_leg (front ++ leg ∷ legs) line ≡ true
has_in [] legs leg line h = ap (λ (b : Bool). b || has_leg legs line) h
has_in (first ∷ front) legs leg line h =
    ap (λ (b : Bool). fits line first || b) (has_in front legs leg line h) ∙ last (fits line first)
  where
    last : (a : Bool) → a || true ≡ true
    last true = refl
    last false = refl

neither : (a b : Bool) → a || b ≡ false → (a ≡ false) × (b ≡ false)
neither false b h = (refl, h)
neither true b h = absurd cc

line_after : (front legs : Legs) (leg : LegValue) (line : LegLine) → has_leg front line ≡ false
    → fits line leg ≡ true
    → with_line line (front ++ leg ∷ legs) ≡ front ++ retimed line leg ∷ legs
line_after [] legs leg line fresh h =
    ap (λ (b : Bool). if b then retimed line leg ∷ legs else leg ∷ with_line line legs) h
line_after (first ∷ front) legs leg line fresh h =
    let p = neither (fits line first) (has_leg front line) fresh in
    ap (λ (b : Bool). if b then retimed line first ∷ (front ++ leg ∷ legs)
    else first ∷ with_line line (front ++ leg ∷ legs)) p.0
    ∙ ap (λ (ls : Legs). first ∷ ls) (line_after front legs leg line p.1 h)

-- a leg whose times are those of the old one is as before
kept_leg : (before : Legs) (old leg new : LegValue) → length leg.columns ≡ 158
    → TimesAre old.columns leg.columns → same_times old.columns new.columns ≡ true
    → (new ≡ leg) ⊎ IsRetimed before leg new → new ≡ leg
kept_leg before old leg new len times same (inl kept) = kept
kept_leg before old leg new len times same (inr r) =
    let d = leg.columns in
    let x = with_times r.line d in
    let has = retimed_has r.line leg r.is_line len r.fit in
    let are = times_are old.columns new.columns same in
    let there : new.columns ≡ x = ap (λ (l : LegValue). l.columns) r.made in
    let to : (first last : ℕ) → leg_columns first last old.columns ≡ leg_columns first last d
    → leg_columns first last old.columns ≡ leg_columns first last new.columns
    → leg_columns first last d ≡ leg_columns first last x =
    λ first last a b. sym a ∙ b ∙ ap (leg_columns first last) there in
    let own : HasTimes (times_of r.line) d = record {
      passenger_departure = to 40 43 times.passenger_departure are.passenger_departure
          ∙ has.passenger_departure;
      aircraft_departure = to 44 47 times.aircraft_departure are.aircraft_departure
          ∙ has.aircraft_departure;
      aircraft_arrival = to 58 61 times.aircraft_arrival are.aircraft_arrival
          ∙ has.aircraft_arrival;
      passenger_arrival = to 62 65 times.passenger_arrival are.passenger_arrival
          ∙ has.passenger_arrival;
      variations = to 193 194 times.variations are.variations ∙ has.variations;
    } in
    r.made ∙ ap (of_columns leg) (times_kept (times_of r.line) d len own)

-- a leg with other times is retimed
retimed_leg : (before : Legs) (old leg new : LegValue) → TimesAre old.columns leg.columns
    → same_times old.columns new.columns ≡ false → (new ≡ leg) ⊎ IsRetimed before leg new
    → IsRetimed before leg new
retimed_leg before old leg new times other (inr r) = r
retimed_leg before old leg new times other (inl kept) =
    let same = subst (λ (l : LegValue). same_times old.columns l.columns ≡ true) (sym kept)
    (times_same old.columns leg.columns times) in
    let bad : true ≡ false = sym same ∙ other in
    absurd cc

pub choose : (before front olds legs news : Legs) → HaveColumns legs → HaveTimesOf olds legs
    → ((line : LegLine) → has_leg front line ≡ has_leg before line) → Changed before legs news
    → Chosen front legs news (retimed_columns olds news)
choose before front [] [] [] long times same c =
    record { lines = []; have = tt; fit = tt; made = refl }
choose before front [] [] (new ∷ news) long times same c = absurd c
choose before front [] (leg ∷ legs) news long times same c = absurd times
choose before front (old ∷ olds) [] news long times same c = absurd times
choose before front (old ∷ olds) (leg ∷ legs) [] long times same c = absurd c
choose before front (old ∷ olds) (leg ∷ legs) (new ∷ news) long times same c =
    by (same_times old.columns new.columns) refl
    (choose (leg ∷ before) (front ++ new ∷ []) olds legs news long.1 times.1
    (λ line. has_after front new line
    ∙ (λ i. fits_changed line before leg new long.0 c.0 i || same line i)) c.1)
  where
    joined : (rest : Legs) → (front ++ new ∷ []) ++ rest ≡ front ++ new ∷ rest
    joined rest = append_assoc front (new ∷ []) rest

    by : (b : Bool) → same_times old.columns new.columns ≡ b
        → Chosen (front ++ new ∷ []) legs news (retimed_columns olds news)
        → Chosen front (leg ∷ legs) (new ∷ news)
        (if b then retimed_columns olds news else new.columns ∷ retimed_columns olds news)
    by true e later =
        let kept = kept_leg before old leg new long.0 times.0 e c.0 in
        let whole : (front ++ new ∷ []) ++ legs ≡ front ++ leg ∷ legs =
        joined legs ∙ ap (λ (l : LegValue). front ++ l ∷ legs) kept in
        record {
          lines = later.lines;
          have = later.have;
          fit = subst (Fit later.lines) whole later.fit;
          made = ap (with_lines later.lines) (sym whole) ∙ later.made ∙ joined news;
        }
    by false e later =
        let r = retimed_leg before old leg new times.0 e c.0 in
        let whole : with_line r.line (front ++ leg ∷ legs) ≡ (front ++ new ∷ []) ++ legs =
        line_after front legs leg r.line (same r.line ∙ r.first) r.fit
        ∙ ap (λ (l : LegValue). front ++ l ∷ legs) (sym r.made) ∙ sym (joined legs) in
        let has : HasLine r.line new.columns =
        subst (λ (l : LegValue). HasLine r.line l.columns) (sym r.made)
        (retimed_has r.line leg r.is_line long.0 r.fit) in
        record {
          lines = r.line ∷ later.lines;
          have = (has, later.have);
          fit = (
            has_in front legs leg r.line r.fit,
            subst (Fit later.lines) (sym whole) later.fit,
          );
          made = ap (with_lines later.lines) whole ∙ later.made ∙ joined news;
        }

-- ---- legs that lines fit

has_kept : (line other : LegLine) (legs : Legs) → HaveColumns legs
    → has_leg (with_line line legs) other ≡ has_leg legs other
has_kept line other [] long = refl
has_kept line other (leg ∷ legs) long = by (fits line leg) (has_kept line other legs long.1)
  where
    by : (b : Bool) → has_leg (with_line line legs) other ≡ has_leg legs other
        → has_leg (if b then retimed line leg ∷ legs else leg ∷ with_line line legs) other
        ≡ fits other leg || has_leg legs other
    by true later = ap (λ (b : Bool). b || has_leg legs other) (fits_retimed other line leg long.0)
    by false later = ap (λ (b : Bool). fits other leg || b) later

pub have_kept : (line : LegLine) (lines : List LegLine) (legs : Legs) → HaveColumns legs
    → have_legs (with_line line legs) lines ≡ have_legs legs lines
have_kept line [] legs long = refl
have_kept line (other ∷ lines) legs long = λ i.
    has_kept line other legs long i && have_kept line lines legs long i

pub fit_have : (lines : List LegLine) (legs : Legs) → HaveColumns legs → Fit lines legs
    → have_legs legs lines ≡ true
fit_have [] legs long fit = refl
fit_have (line ∷ lines) legs long fit =
    and_from (has_leg legs line) (have_legs legs lines) fit.0
    (sym (have_kept line lines legs long)
    ∙ fit_have lines (with_line line legs) (line_long line legs long) fit.1)

pub fit_split : (first later : List LegLine) (legs : Legs) → Fit (first ++ later) legs
    → Fit first legs × Fit later (with_lines first legs)
fit_split [] later legs fit = (tt, fit)
fit_split (line ∷ first) later legs fit =
    let rest = fit_split first later (with_line line legs) fit.1 in
    ((fit.0, rest.0), rest.1)
