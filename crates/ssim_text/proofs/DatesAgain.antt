-- The flight lines and the period lines that are written are read as what they were written from: a
-- date, an end and days have one text each, and a designator's text has letters and digits alone.
use Rattle.std.proofs.Common.{◌≡◌, ◌≤◌, ℕ, ◌+◌, ◌/◌, ◌%◌, Bool, true, false, not, IsTrue, List, [], ◌∷◌, ◌++◌, length, refl, sym, ap, subst, ◌∙◌, append_assoc, arith, Option, Some, None, codes, drop, length-append, length-drop}
use Rattle.std.specs.Prelude.{◌==◌, nat_lt, if◌then◌else◌, option_map}
use Rattle.std.specs.List.{list_all}
use Rattle.std.proofs.lemmas.Bool.{and_parts}
use Rattle.std.specs.Str.{bytes_eq}
use Rattle.std.proofs.lemmas.Bool.Decides.{nat_tests}
use Rattle.std.proofs.lemmas.Slice.Eq.{bytes_eq-Decides}
use Rattle.ssim_values.specs.Characters.{is_digit}
use Rattle.ssim_values.specs.Day.{day_of}
use Rattle.ssim_values.specs.DayMonth.{month_day_of}
use Rattle.ssim_values.specs.DayMask.{days_of, digits_of, without_blanks}
use Rattle.ssim_values.specs.Airline.{is_airline, airline_text}
use Rattle.ssim_values.specs.Flight.{FlightNumber, IsFlight, SpellsFlight, is_suffix, suffix_text, four_digits, number_text, flight_text}
use Rattle.ssim_values.specs.declared.designator.Designator.{Designator}
use Rattle.ssim_values.specs.Designator.{SpellsDesignator, designator_text}
use Rattle.ssim_values.proofs.DayLaws.{day_of-one_text}
use Rattle.ssim_values.proofs.DayMonthLaws.{month_day_of-sound}
use Rattle.ssim_values.proofs.DayMaskLaws.{days_of-sound}
use Rattle.ssim_values.proofs.FlightLemmas.{SpellsFlight-flight_text, SpellsFlight-some}
use Rattle.ssim_values.proofs.DesignatorLemmas.{SpellsDesignator-designator_text}
use Rattle.ssim_text.specs.declared.dates.GivenDate.{GivenDate}
use Rattle.ssim_text.specs.declared.dates.GivenDate.TheVariants.{Full, Yearless}
use Rattle.ssim_text.specs.declared.dates.GivenEnd.{GivenEnd}
use Rattle.ssim_text.specs.declared.dates.GivenEnd.TheVariants.{Until, Open}
use Rattle.ssim_text.specs.declared.dates.GivenPeriod.{GivenPeriod}
use Rattle.ssim_text.specs.Bytes.{◌>>=◌, before, from, drop_blanks, word, after_word, is_alphanumeric, is_printable}
use Rattle.ssim_text.specs.Lines.{month_day_in, date_of, last_date_of, compact_days_of, SpellsDatedFlight, period_of}
use Rattle.ssim_text.specs.Grammar.{FlightPart, DatedFlightPart, PeriodPart}
use Rattle.ssim_text.specs.Canonical.{given_date_text, given_end_text, period_text}
use Rattle.ssim_text.proofs.Runs.{none_some, some_same}
use Rattle.ssim_text.proofs.LinesKept.{IsLine, ReadsAgain, chosen, all_join, all_more, all_before, line_behind, line_from, line_drop}
use Rattle.ssim_text.proofs.Words.{bound, carried, only_if, lacks, is_solid, alphanumeric_solid, alphanumeric_no_solidus, solid_line, before_lacks, before_mark, from_mark, no_blanks, blanks_twice, word_first, behind_first, below_four, line_after, word_some}

-- ---- dates

mapped : {A B : Type 0} (f : A → B) (o : Option A) (y : B) → option_map f o ≡ Some y → (x : A) × (o ≡ Some x) × (f x ≡ y)
mapped f None y h = absurd (none_some y h)
mapped f (Some x) y h = (x, refl, some_same (f x) y h)

-- a date has one text
date_text_at : (b : Bool) (text : List ℕ) (date : GivenDate) → (if b then option_map Full (day_of text) else option_map Yearless (month_day_in text)) ≡ Some date → text ≡ given_date_text date
date_text_at true text date h =
    let w = mapped Full (day_of text) date h in
    day_of-one_text w.0 text w.1 ∙ ap given_date_text w.2
date_text_at false text date h =
    let w = mapped Yearless (month_day_in text) date h in
    let read = only_if (length text == 5) (month_day_of text) w.0 w.1 in
    (month_day_of-sound w.0 text read.1).spelled ∙ ap given_date_text w.2

date_one_text : (text : List ℕ) (date : GivenDate) → date_of text ≡ Some date → text ≡ given_date_text date
date_one_text text date h = date_text_at (length text == 7) text date h

end_text_at : (b : Bool) (text : List ℕ) (end : GivenEnd) → bytes_eq text (codes "00XXX00") ≡ b → (if b then Some Open else option_map Until (date_of text)) ≡ Some end → text ≡ given_end_text end
end_text_at true text end e h = (bytes_eq-Decides text (codes "00XXX00")).0 e ∙ ap given_end_text (some_same Open end h)
end_text_at false text end e h =
    let w = mapped Until (date_of text) end h in
    date_one_text text w.0 w.1 ∙ ap given_end_text w.2

end_one_text : (text : List ℕ) (end : GivenEnd) → last_date_of text ≡ Some end → text ≡ given_end_text end
end_one_text text end h = end_text_at (bytes_eq text (codes "00XXX00")) text end refl h

digit_no_blank : (b : ℕ) → is_digit b ≡ true → not (b == 32) ≡ true
digit_no_blank b h = grind (arith, nat_tests)

-- digits have no blanks
digits_whole : (text : List ℕ) → list_all is_digit text ≡ true → without_blanks text ≡ text
digits_whole [] h = refl
digits_whole (x ∷ text) h =
    let p = and_parts (is_digit x) (list_all is_digit text) h in
    chosen (not (x == 32)) (x ∷ without_blanks text) (without_blanks text) (digit_no_blank x p.0) ∙ ap (λ (y : List ℕ). x ∷ y) (digits_whole text p.1)

days_one_text : (text : List ℕ) (days : List Bool) → compact_days_of text ≡ Some days → text ≡ digits_of days
days_one_text text days h =
    let p = only_if (list_all is_digit text) (days_of text) days h in
    sym (digits_whole text p.0) ∙ (days_of-sound days text p.1).digits

-- ---- designators

three_columns : (a b c : ℕ) (blank : Bool) → (c == 32) ≡ blank → IsTrue (is_airline (a ∷ b ∷ c ∷ [])) → list_all is_alphanumeric (if blank then a ∷ b ∷ [] else a ∷ b ∷ c ∷ []) ≡ true
three_columns a b c true e h = grind (arith, nat_tests)
three_columns a b c false e h = grind (arith, nat_tests)

airline_length : (columns : List ℕ) → IsTrue (is_airline columns) → length columns ≡ 3
airline_length columns h = grind (arith, nat_tests)

by_columns : (columns : List ℕ) → length columns ≡ 3 → IsTrue (is_airline columns) → list_all is_alphanumeric (airline_text columns) ≡ true
by_columns (a ∷ b ∷ c ∷ []) l h = three_columns a b c (c == 32) refl h
by_columns [] l h = absurd (omega (arith, l))
by_columns (a ∷ []) l h = absurd (omega (arith, l))
by_columns (a ∷ b ∷ []) l h = absurd (omega (arith, l))
by_columns (a ∷ b ∷ c ∷ d ∷ columns) l h = absurd (omega (arith, l))

airline_alphanumeric : (columns : List ℕ) → IsTrue (is_airline columns) → list_all is_alphanumeric (airline_text columns) ≡ true
airline_alphanumeric columns h = by_columns columns (airline_length columns h) h

number_at : (n : ℕ) (short : Bool) → nat_lt n 1000 ≡ short → n ≤ 9999 → list_all is_alphanumeric (if short then (48 + n / 100) ∷ (48 + n / 10 % 10) ∷ (48 + n % 10) ∷ [] else four_digits n) ≡ true
number_at n true e h = grind (arith, nat_tests)
number_at n false e h = grind (arith, nat_tests)

number_alphanumeric : (n : ℕ) → n ≤ 9999 → list_all is_alphanumeric (number_text n) ≡ true
number_alphanumeric n h = number_at n (nat_lt n 1000) refl h

suffix_at : (s : ℕ) (blank : Bool) → (s == 32) ≡ blank → IsTrue (is_suffix s) → list_all is_alphanumeric (if blank then [] else s ∷ []) ≡ true
suffix_at s true e h = refl
suffix_at s false e h = grind (arith, nat_tests)

suffix_alphanumeric : (s : ℕ) → IsTrue (is_suffix s) → list_all is_alphanumeric (suffix_text s) ≡ true
suffix_alphanumeric s h = suffix_at s (s == 32) refl h

is_flight : (f : FlightNumber) (text : List ℕ) → SpellsFlight f text → IsFlight f
is_flight f text h = record {
  number_to = let lt = below_four h.digits h.is_number.all h.is_number.to in omega (arith, lt, h.is_number.number);
  suffixed = h.suffixed;
}

designator_alphanumeric : (d : Designator) (line : List ℕ) → SpellsDesignator d line → list_all is_alphanumeric (designator_text d) ≡ true
designator_alphanumeric d line h =
    let f = is_flight d.flight h.rest h.flight in
    all_join is_alphanumeric (airline_text d.airline) (flight_text d.flight) (airline_alphanumeric d.airline h.is_code)
    (all_join is_alphanumeric (number_text d.flight.number) (suffix_text d.flight.suffix) (number_alphanumeric d.flight.number f.number_to) (suffix_alphanumeric d.flight.suffix f.suffixed))

designator_some : (d : Designator) → IsFlight d.flight → 1 ≤ length (designator_text d)
designator_some d f = omega (arith, length-append (airline_text d.airline) (flight_text d.flight), SpellsFlight-some d.flight (flight_text d.flight) (SpellsFlight-flight_text d.flight f))

pub flight_again : (d : Designator) (line : List ℕ) → SpellsDesignator d line → ReadsAgain (FlightPart d)
flight_again d line h = record {
  spelled = SpellsDesignator-designator_text d h.is_code (is_flight d.flight h.rest h.flight);
  line = solid_line (designator_text d) (designator_some d (is_flight d.flight h.rest h.flight)) (all_more is_alphanumeric is_solid alphanumeric_solid (designator_text d) (designator_alphanumeric d line h));
}

date_some : (text : List ℕ) (date : GivenDate) → date_of text ≡ Some date → 1 ≤ length text
date_some [] date h = absurd (none_some date h)
date_some (x ∷ text) date h = omega arith

drop_one_some : (n : ℕ) (xs : List ℕ) → 1 ≤ length (drop n xs) → 1 ≤ length xs
drop_one_some n xs h = omega (arith, h, length-drop n xs)

pub dated_flight_again : (d : Designator) (date : GivenDate) (line : List ℕ) → SpellsDatedFlight d date line → IsLine line → ReadsAgain (DatedFlightPart d date)
dated_flight_again d date line h l =
    let given = drop 1 (from 47 line) in
    let one : given ≡ given_date_text date = date_one_text given date h.date_spelled in
    let some = date_some given date h.date_spelled in
    let again = flight_again d (before 47 line) h.designator_spelled in
    let whole = designator_text d in
    let lacking : lacks 47 whole ≡ true = all_more is_alphanumeric (λ b. not (b == 47)) alphanumeric_no_solidus whole (designator_alphanumeric d (before 47 line) h.designator_spelled) in
    let behind_it = line_drop 1 (from 47 line) (line_from 47 line l (drop_one_some 1 (from 47 line) some)) some in
    let date_line = subst IsLine one behind_it in
    record {
      spelled = record {
        designator_spelled = subst (λ (x : List ℕ). SpellsDesignator d x) (sym (before_mark 47 whole (given_date_text date) lacking)) again.spelled;
        date_spelled = ap (λ (x : List ℕ). date_of (drop 1 x)) (from_mark 47 whole (given_date_text date) lacking) ∙ ap date_of (sym one) ∙ h.date_spelled;
      };
      line = line_behind whole (47 ∷ given_date_text date) again.line.printable (line_behind (47 ∷ []) (given_date_text date) refl date_line);
    }

-- ---- the period

record IsPeriodLine (line : List ℕ) (p : GivenPeriod) : Type 0 where
  first : date_of (word line) ≡ Some p.first
  last : last_date_of (word (after_word line)) ≡ Some p.last
  days : compact_days_of (after_word (after_word line)) ≡ Some p.days

period_sound : (line : List ℕ) (p : GivenPeriod) → period_of line ≡ Some p → IsPeriodLine line p
unfolding period_of
period_sound line p h =
    let first = bound (date_of (word line)) (λ (x : GivenDate). last_date_of (word (after_word line)) >>= λ y. compact_days_of (after_word (after_word line)) >>= λ z. Some (record { first = x; last = y; days = z })) p h in
    let last = bound (last_date_of (word (after_word line))) (λ (y : GivenEnd). compact_days_of (after_word (after_word line)) >>= λ z. Some (record { first = first.0; last = y; days = z })) p first.2 in
    let days = bound (compact_days_of (after_word (after_word line))) (λ (z : List Bool). Some (record { first = first.0; last = last.0; days = z })) p last.2 in
    carried (IsPeriodLine line) (record { first = first.0; last = last.0; days = days.0 }) p days.2 (record { first = first.1; last = last.1; days = days.1 })

by_parts : (first : Option GivenDate) (last : Option GivenEnd) (days : Option (List Bool)) (p : GivenPeriod) → first ≡ Some p.first → last ≡ Some p.last → days ≡ Some p.days
    → (first >>= λ x. last >>= λ y. days >>= λ z. Some (record { first = x; last = y; days = z })) ≡ Some p
by_parts first last days p h k l = rw (h, k, l) refl

-- a first date, an end and days with a blank between them
joined : List ℕ → List ℕ → List ℕ → List ℕ
joined first last days = first ++ 32 ∷ (last ++ 32 ∷ days)

module _ (first last days : List ℕ) (first_lacks : lacks 32 first ≡ true) (last_lacks : lacks 32 last ≡ true) (last_some : 1 ≤ length last) (whole : drop_blanks days ≡ days) where
  first_word : word (joined first last days) ≡ first
  unfolding joined
  first_word = word_first first (last ++ 32 ∷ days) first_lacks

  behind_word : after_word (joined first last days) ≡ last ++ 32 ∷ days
  unfolding joined
  behind_word = behind_first first (last ++ 32 ∷ days) first_lacks (no_blanks last (32 ∷ days) last_some last_lacks)

  second_word : word (after_word (joined first last days)) ≡ last
  second_word = ap word behind_word ∙ word_first last days last_lacks

  third_word : after_word (after_word (joined first last days)) ≡ days
  third_word = ap after_word behind_word ∙ behind_first last days last_lacks whole

joined_line : (first last days : List ℕ) → list_all is_printable first ≡ true → list_all is_printable last ≡ true → IsLine days → IsLine (joined first last days)
unfolding joined
joined_line first last days h k l = line_behind first (32 ∷ (last ++ 32 ∷ days)) h (line_behind (32 ∷ []) (last ++ 32 ∷ days) refl (line_behind last (32 ∷ days) k (line_behind (32 ∷ []) days refl l)))

joined_period : (p : GivenPeriod) (first last days : List ℕ) → lacks 32 first ≡ true → lacks 32 last ≡ true → 1 ≤ length last → drop_blanks days ≡ days → date_of first ≡ Some p.first → last_date_of last ≡ Some p.last → compact_days_of days ≡ Some p.days → period_of (joined first last days) ≡ Some p
unfolding period_of
joined_period p first last days f l some w h k m =
    let whole = joined first last days in
    by_parts (date_of (word whole)) (last_date_of (word (after_word whole))) (compact_days_of (after_word (after_word whole))) p
    (ap date_of (first_word first last days f l some w) ∙ h) (ap last_date_of (second_word first last days f l some w) ∙ k) (ap compact_days_of (third_word first last days f l some w) ∙ m)

is_written : (p : GivenPeriod) (first last days : List ℕ) → first ≡ given_date_text p.first → last ≡ given_end_text p.last → days ≡ digits_of p.days → joined first last days ≡ period_text p
unfolding joined
is_written p first last days h k l = rw (h, k, l) (sym (append_assoc (given_date_text p.first) (32 ∷ given_end_text p.last) (32 ∷ digits_of p.days)))

end_some : (text : List ℕ) (end : GivenEnd) → last_date_of text ≡ Some end → 1 ≤ length text
end_some [] end h = absurd (none_some end h)
end_some (x ∷ text) end h = omega arith

days_some : (text : List ℕ) (days : List Bool) → compact_days_of text ≡ Some days → 1 ≤ length text
unfolding days_of
days_some [] days h = absurd (none_some days h)
days_some (x ∷ text) days h = omega arith

-- the three parts of the line that was read are those that are written
pub period_again : (p : GivenPeriod) (line : List ℕ) → period_of line ≡ Some p → IsLine line → ReadsAgain (PeriodPart p)
period_again p line h l =
    let s = period_sound line p h in
    let first = word line in
    let last = word (after_word line) in
    let days = after_word (after_word line) in
    let first_is : first ≡ given_date_text p.first = date_one_text first p.first s.first in
    let last_is : last ≡ given_end_text p.last = end_one_text last p.last s.last in
    let days_are : days ≡ digits_of p.days = days_one_text days p.days s.days in
    let last_some = end_some last p.last s.last in
    let after = line_after line l (word_some (after_word line) last_some) in
    let days_line = line_after (after_word line) after (days_some days p.days s.days) in
    let written = is_written p first last days first_is last_is days_are in
    record {
      spelled = ap period_of (sym written) ∙ joined_period p first last days (before_lacks 32 line) (before_lacks 32 (after_word line)) last_some (blanks_twice (from 32 (after_word line))) s.first s.last s.days;
      line = subst IsLine written (joined_line first last days (all_before is_printable 32 line l.printable) (all_before is_printable 32 (after_word line) after.printable) days_line);
    }
