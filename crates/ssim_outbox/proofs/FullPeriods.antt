-- A period with full dates is read from its written line.
use Rattle.std.proofs.Common.{◌≡◌, ◌≤◌, ◌<◌, ◌+◌, ◌-◌, ℕ, zero, suc, Bool, true, false, not, if◌then◌else◌}
use Rattle.std.proofs.Common.{List, [], ◌∷◌, ◌++◌, length, length-append, append_assoc, refl, sym, ap, subst, ◌∙◌, arith}
use Rattle.std.proofs.Common.{Option, Some, None, slice_index_or, append-nil, codes, eq-eqb}
use Rattle.std.specs.Prelude.{◌==◌, option_map}
use Rattle.std.specs.List.{AllByRecursion, list_all}
use Rattle.std.specs.Str.{bytes_eq}
use Rattle.std.proofs.lemmas.Bool.{and_from}
use Rattle.std.proofs.lemmas.Bool.Decides.{nat_tests}
use Rattle.std.proofs.lemmas.Slice.Eq.{bytes_eq-Decides}
use Rattle.ssim_values.specs.Calendar.{day_limit}
use Rattle.ssim_values.specs.Characters.{is_digit, two_digits}
use Rattle.ssim_values.specs.Day.{day_of, day_text, month_name, month_names}
use Rattle.ssim_values.specs.DayMask.{IsMask, days_of, digits_from, digits_of}
use Rattle.ssim_values.proofs.CalendarLemmas.{day_bound}
use Rattle.ssim_values.proofs.DayLaws.{SpellsDay-day_text, day_of-day_text}
use Rattle.ssim_values.proofs.DayMaskLaws.{days_of-digits_of}
use Rattle.ssim_text.specs.Bytes.{◌>>=◌, after_word, drop_blanks, is_printable, word}
use Rattle.ssim_text.specs.Canonical.{period_text}
use Rattle.ssim_text.specs.Grammar.{PeriodPart}
use Rattle.ssim_text.specs.Lines.{compact_days_of, date_of, last_date_of, period_of}
use Rattle.ssim_text.specs.declared.dates.GivenDate.{GivenDate}
use Rattle.ssim_text.specs.declared.dates.GivenDate.TheVariants.{Full}
use Rattle.ssim_text.specs.declared.dates.GivenEnd.{GivenEnd}
use Rattle.ssim_text.specs.declared.dates.GivenEnd.TheVariants.{Open, Until}
use Rattle.ssim_text.specs.declared.dates.GivenPeriod.{GivenPeriod}
use Rattle.ssim_text.proofs.LinesKept.{IsLine, ReadsAgain, all_join, all_more, chosen, line_behind, other}
use Rattle.ssim_text.proofs.Runs.{none_some}
use Rattle.ssim_text.proofs.Words.{behind_first, is_solid, lacks, no_blanks}
use Rattle.ssim_text.proofs.Words.{solid_line, solid_no_blank, solid_printable, word_first}

-- ---- the text of a day

digits_solid : (n : ℕ) → n < 100 → list_all is_solid (two_digits n) ≡ true
digits_solid n h = grind (arith, nat_tests)

-- an element of a list of solid texts, or an empty text
solid_element : (xs : List (List ℕ)) (k : ℕ) → AllByRecursion (λ x. list_all is_solid x ≡ true) xs
    → list_all is_solid (slice_index_or xs k []) ≡ true
solid_element [] k h = refl
solid_element (x ∷ xs) zero h = h.0
solid_element (x ∷ xs) (suc k) h = solid_element xs k h.1

name_solid : (m : ℕ) → list_all is_solid (month_name m) ≡ true
name_solid m =
    solid_element month_names (m - 1)
    (refl, (refl, (refl, (refl, (refl, (refl, (refl, (refl, (refl, (refl, (refl, (refl, tt))))))))))))

day_solid : (n : ℕ) → n < day_limit → list_all is_solid (day_text n) ≡ true
day_solid n h =
    let s = SpellsDay-day_text n h in
    let day = day_bound s.year s.month s.day s.is_date in
    let year = s.is_date.year_to in
    ap (list_all is_solid) s.spelled
    ∙ all_join is_solid (two_digits s.day ++ month_name s.month) (two_digits (s.year - 2000))
    (all_join is_solid (two_digits s.day) (month_name s.month) (digits_solid s.day (omega (arith, day))) (name_solid s.month))
    (digits_solid (s.year - 2000) (omega (arith, year)))

-- a text that spells a day has seven bytes
seven : (text : List ℕ) (n : ℕ) → day_of text ≡ Some n → length text ≡ 7
unfolding day_of
seven (a ∷ b ∷ c ∷ d ∷ e ∷ f ∷ g ∷ []) n h = refl
seven [] n h = absurd (none_some n h)
seven (a ∷ []) n h = absurd (none_some n h)
seven (a ∷ b ∷ []) n h = absurd (none_some n h)
seven (a ∷ b ∷ c ∷ []) n h = absurd (none_some n h)
seven (a ∷ b ∷ c ∷ d ∷ []) n h = absurd (none_some n h)
seven (a ∷ b ∷ c ∷ d ∷ e ∷ []) n h = absurd (none_some n h)
seven (a ∷ b ∷ c ∷ d ∷ e ∷ f ∷ []) n h = absurd (none_some n h)
seven (a ∷ b ∷ c ∷ d ∷ e ∷ f ∷ g ∷ i ∷ xs) n h = absurd (none_some n h)

day_read : (n : ℕ) → n < day_limit → date_of (day_text n) ≡ Some (Full n)
day_read n h =
    let read = day_of-day_text n h in
    chosen (length (day_text n) == 7) (option_map Full (day_of (day_text n))) _
    (eq-eqb (length (day_text n)) 7 (seven (day_text n) n read)) ∙ ap (option_map Full) read

-- no day is written as the open end
not_open : (n : ℕ) (b : Bool) → day_of (codes "00XXX00") ≡ None → n < day_limit
    → bytes_eq (day_text n) (codes "00XXX00") ≡ b → b ≡ false
not_open n false none h e = refl
not_open n true none h e =
    let same : day_text n ≡ codes "00XXX00" = (bytes_eq-Decides (day_text n) (codes "00XXX00")).0 e in
    absurd (none_some n (sym none ∙ ap day_of (sym same) ∙ day_of-day_text n h))

open_none : day_of (codes "00XXX00") ≡ None
unfolding day_of
open_none = refl

end_read : (n : ℕ) → n < day_limit → last_date_of (day_text n) ≡ Some (Until (Full n))
end_read n h =
    other (bytes_eq (day_text n) (codes "00XXX00")) (Some Open) (option_map Until (date_of (day_text n)))
    (not_open n (bytes_eq (day_text n) (codes "00XXX00")) open_none h refl)
    ∙ ap (option_map Until) (day_read n h)

-- ---- the digits of days

weekday_digit : (d : ℕ) → 48 ≤ d → d ≤ 57 → is_digit d ≡ true
weekday_digit d low high = grind (arith, nat_tests)

digits_at : (on : Bool) (d : ℕ) (rest : List ℕ) → is_digit d ≡ true → list_all is_digit rest ≡ true
    → list_all is_digit (if on then d ∷ rest else rest) ≡ true
digits_at true d rest h k = and_from (is_digit d) (list_all is_digit rest) h k
digits_at false d rest h k = k

are_digits : (d : ℕ) (days : List Bool) → 48 ≤ d → d + length days ≤ 58
    → list_all is_digit (digits_from d days) ≡ true
are_digits d [] low high = refl
are_digits d (on ∷ days) low high =
    digits_at on d (digits_from (d + 1) days) (weekday_digit d low (omega (arith, high)))
    (are_digits (d + 1) days (omega (arith, low)) (omega (arith, high)))

digits_few : (d : ℕ) (days : List Bool) → length (digits_from d days) ≤ length days
digits_few d [] = omega arith
digits_few d (true ∷ days) = let r = digits_few (d + 1) days in omega (arith, r)
digits_few d (false ∷ days) = let r = digits_few (d + 1) days in omega (arith, r)

digit_solid : (b : ℕ) → is_digit b ≡ true → is_solid b ≡ true
digit_solid b h = grind (arith, nat_tests)

-- ---- the line

-- a first date, an end and days with a blank between them
abbrev joined : List ℕ → List ℕ → List ℕ → List ℕ
joined first last days = first ++ 32 ∷ (last ++ 32 ∷ days)

by_parts : (first : Option GivenDate) (last : Option GivenEnd) (days : Option (List Bool))
    (p : GivenPeriod) → first ≡ Some p.first → last ≡ Some p.last → days ≡ Some p.days
    → (first >>= λ x. last >>= λ y. days >>= λ z. Some (record { first = x; last = y; days = z }))
    ≡ Some p
by_parts first last days p h k l = rw (h, k, l) refl

module _ (first last days : List ℕ) (first_solid : list_all is_solid first ≡ true)
    (last_solid : list_all is_solid last ≡ true) (last_some : 1 ≤ length last)
    (days_solid : list_all is_solid days ≡ true) (days_some : 1 ≤ length days) where
  first_lacks : lacks 32 first ≡ true
  first_lacks = all_more is_solid (λ b. not (b == 32)) solid_no_blank first first_solid

  last_lacks : lacks 32 last ≡ true
  last_lacks = all_more is_solid (λ b. not (b == 32)) solid_no_blank last last_solid

  days_lack : lacks 32 days ≡ true
  days_lack = all_more is_solid (λ b. not (b == 32)) solid_no_blank days days_solid

  whole_days : drop_blanks days ≡ days
  whole_days = ap drop_blanks (sym (append-nil days)) ∙ no_blanks days [] days_some days_lack ∙ append-nil days

  after_first : after_word (joined first last days) ≡ last ++ 32 ∷ days
  after_first = behind_first first (last ++ 32 ∷ days) first_lacks (no_blanks last (32 ∷ days) last_some last_lacks)

  joined_read : (p : GivenPeriod) → date_of first ≡ Some p.first → last_date_of last ≡ Some p.last
      → compact_days_of days ≡ Some p.days → period_of (joined first last days) ≡ Some p
  unfolding period_of
  joined_read p h k l =
      let whole = joined first last days in
      by_parts (date_of (word whole)) (last_date_of (word (after_word whole)))
      (compact_days_of (after_word (after_word whole))) p
      (ap date_of (word_first first (last ++ 32 ∷ days) first_lacks) ∙ h)
      (ap last_date_of (ap word after_first ∙ word_first last days last_lacks) ∙ k)
      (ap compact_days_of (ap after_word after_first ∙ behind_first last days last_lacks whole_days) ∙ l)

  joined_line : IsLine (joined first last days)
  joined_line =
      line_behind first (32 ∷ (last ++ 32 ∷ days)) (all_more is_solid is_printable solid_printable first first_solid)
      (line_behind (32 ∷ []) (last ++ 32 ∷ days) refl
      (line_behind last (32 ∷ days) (all_more is_solid is_printable solid_printable last last_solid)
      (line_behind (32 ∷ []) days refl (solid_line days days_some days_solid))))

-- a period with full dates
abbrev pub full_period : ℕ → ℕ → List Bool → GivenPeriod
full_period first last days = record { first = Full first; last = Until (Full last); days = days }

pub full_again : (first last : ℕ) (days : List Bool) → first < day_limit → last < day_limit → IsMask days
    → ReadsAgain (PeriodPart (full_period first last days))
full_again first last days h k mask =
    let a = day_text first in
    let b = day_text last in
    let digits = digits_of days in
    let all : list_all is_digit digits ≡ true =
    are_digits 49 days (omega arith) (let seven = mask.seven in omega (arith, seven)) in
    let solid = all_more is_digit is_solid digit_solid digits all in
    let some : 1 ≤ length digits = let s = mask.some in omega (arith, s) in
    let b_some : 1 ≤ length b = omega (arith, seven b last (day_of-day_text last k)) in
    let p = full_period first last days in
    let is : joined a b digits ≡ period_text p = sym (append_assoc a (32 ∷ b) (32 ∷ digits)) in
    let read : compact_days_of digits ≡ Some days =
    chosen (list_all is_digit digits) (days_of digits) None all ∙ days_of-digits_of days mask in
    record {
      spelled = ap period_of (sym is)
          ∙ joined_read a b digits (day_solid first h) (day_solid last k) b_some solid some p
          (day_read first h) (end_read last k) read;
      line = subst IsLine is (joined_line a b digits (day_solid first h) (day_solid last k) b_some solid some);
    }

-- the line of a period with full dates is short
pub full_short : (first last : ℕ) (days : List Bool) → first < day_limit → last < day_limit → IsMask days
    → length (period_text (full_period first last days)) ≤ 170
full_short first last days h k mask =
    let a = day_text first in
    let b = day_text last in
    let seven_days = mask.seven in
    omega (
      arith,
      length-append (a ++ 32 ∷ b) (32 ∷ digits_of days),
      length-append a (32 ∷ b),
      seven a first (day_of-day_text first h),
      seven b last (day_of-day_text last k),
      digits_few 49 days,
      seven_days,
    )
