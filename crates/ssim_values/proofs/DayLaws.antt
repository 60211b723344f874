-- A day is read from exactly the texts that spell it: the parts of a text, read one by one, are the
-- parts of its date.
use Rattle.std.proofs.Common.{◌≡◌, ℕ, ◌+◌, ◌-◌, ◌/◌, ◌%◌, ◌<◌, Bool, true, false, if◌then◌else◌, List, [], ◌∷◌, ◌++◌, length, refl, sym, ap, ◌∙◌, arith, Option, Some, None}
use Rattle.std.proofs.lemmas.Bool.Decides.{nat_tests}
use Rattle.ssim_values.specs.Calendar.{IsDate, is_date, day_number, day_limit, year_of, month_of, day_of_month}
use Rattle.ssim_values.specs.Characters.{two_digits, two_digits_of}
use Rattle.ssim_values.specs.Day.{month_name, month_named, date_text, date_number, SpellsDay, day_of, day_text}
use Rattle.ssim_values.proofs.SpellingLemmas.{month_named-complete, month_named-sound, two_digits_of-sound, two_digits_of-complete}
use Rattle.ssim_values.proofs.TextLemmas.{length-month_name}
use Rattle.ssim_values.proofs.CalendarLemmas.{day_bound, day_number_bound, day_number-injective}
use Rattle.ssim_values.proofs.CalendarCount.{date_of_number}

IsDate-tested : (y m d : ℕ) → is_date y m d ≡ true → IsDate y m d
IsDate-tested y m d e =
    record { year_from = grind (arith, nat_tests); year_to = grind (arith, nat_tests); month_from = grind (arith, nat_tests); month_to = grind (arith, nat_tests); day_from = grind (arith, nat_tests); day_to = grind (arith, nat_tests) }

pub tested-IsDate : (y m d : ℕ) → IsDate y m d → is_date y m d ≡ true
tested-IsDate y m d h = grind (arith, nat_tests, h.year_from, h.year_to, h.month_from, h.month_to, h.day_from, h.day_to)

-- the date whose number was found, part by part
pub record HasParts (y m d : Option ℕ) (n : ℕ) : Type 0 where
  pub year : ℕ
  pub month : ℕ
  pub day : ℕ
  pub year_is : y ≡ Some year
  pub month_is : m ≡ Some month
  pub day_is : d ≡ Some day
  pub is_date : IsDate (2000 + year) month day
  pub number : day_number (2000 + year) month day ≡ n

parts_if : (y m d n : ℕ) (b : Bool) → is_date (2000 + y) m d ≡ b → (if b then Some (day_number (2000 + y) m d) else None) ≡ Some n → HasParts (Some y) (Some m) (Some d) n
parts_if y m d n true is e = record { year = y; month = m; day = d; year_is = refl; month_is = refl; day_is = refl; is_date = IsDate-tested _ _ _ is; number = cc }
parts_if y m d n false is e = absurd (cc)

pub parts : (y m d : Option ℕ) (n : ℕ) → date_number y m d ≡ Some n → HasParts y m d n
parts (Some y) (Some m) (Some d) n e = parts_if y m d n (is_date (2000 + y) m d) refl e
parts (Some y) (Some m) None n e = absurd (cc)
parts (Some y) None d n e = absurd (cc)
parts None m d n e = absurd (cc)

spelled : (d₁ d₂ m₁ m₂ m₃ y₁ y₂ y m d : ℕ) → (d₁ ≡ 48 + d / 10) → (d₂ ≡ 48 + d % 10) → month_name m ≡ m₁ ∷ m₂ ∷ m₃ ∷ [] → (y₁ ≡ 48 + y / 10) → (y₂ ≡ 48 + y % 10) → d₁ ∷ d₂ ∷ m₁ ∷ m₂ ∷ m₃ ∷ y₁ ∷ y₂ ∷ [] ≡ date_text (2000 + y) m d
spelled d₁ d₂ m₁ m₂ m₃ y₁ y₂ y m d e₁ e₂ e₃ e₄ e₅ =
    let year : 2000 + y - 2000 ≡ y = omega arith in
    rw (year, e₃, e₁, e₂, e₄, e₅) refl

seven : (d₁ d₂ m₁ m₂ m₃ y₁ y₂ n : ℕ) → HasParts (two_digits_of y₁ y₂) (month_named (m₁ ∷ m₂ ∷ m₃ ∷ [])) (two_digits_of d₁ d₂) n → SpellsDay n (d₁ ∷ d₂ ∷ m₁ ∷ m₂ ∷ m₃ ∷ y₁ ∷ y₂ ∷ [])
seven d₁ d₂ m₁ m₂ m₃ y₁ y₂ n p =
    let y = two_digits_of-sound y₁ y₂ p.year p.year_is in
    let m = month_named-sound (m₁ ∷ m₂ ∷ m₃ ∷ []) p.month p.month_is in
    let d = two_digits_of-sound d₁ d₂ p.day p.day_is in
    record { year = 2000 + p.year; month = p.month; day = p.day; is_date = p.is_date; number = p.number; spelled = spelled d₁ d₂ m₁ m₂ m₃ y₁ y₂ p.year p.month p.day d.1 d.2 m.2 y.1 y.2 }

pub day_of-sound : (n : ℕ) (t : List ℕ) → day_of t ≡ Some n → SpellsDay n t
unfolding day_of
day_of-sound n (d₁ ∷ d₂ ∷ m₁ ∷ m₂ ∷ m₃ ∷ y₁ ∷ y₂ ∷ []) e = seven d₁ d₂ m₁ m₂ m₃ y₁ y₂ n (parts _ _ _ n e)
day_of-sound n [] e = absurd (cc)
day_of-sound n (a ∷ []) e = absurd (cc)
day_of-sound n (a ∷ b ∷ []) e = absurd (cc)
day_of-sound n (a ∷ b ∷ c ∷ []) e = absurd (cc)
day_of-sound n (a ∷ b ∷ c ∷ d ∷ []) e = absurd (cc)
day_of-sound n (a ∷ b ∷ c ∷ d ∷ f ∷ []) e = absurd (cc)
day_of-sound n (a ∷ b ∷ c ∷ d ∷ f ∷ g ∷ []) e = absurd (cc)
day_of-sound n (a ∷ b ∷ c ∷ d ∷ f ∷ g ∷ h ∷ i ∷ xs) e = absurd (cc)

read_parts : (d k : ℕ) (name : List ℕ) → length name ≡ 3 → day_of (two_digits d ++ name ++ two_digits k) ≡ date_number (two_digits_of (48 + k / 10) (48 + k % 10)) (month_named name) (two_digits_of (48 + d / 10) (48 + d % 10))
unfolding day_of
read_parts d k (a ∷ b ∷ c ∷ []) h = refl
read_parts d k [] h = absurd (omega arith)
read_parts d k (a ∷ []) h = absurd (omega arith)
read_parts d k (a ∷ b ∷ []) h = absurd (omega arith)
read_parts d k (a ∷ b ∷ c ∷ x ∷ xs) h = absurd (omega arith)

pub day_of-date_text : (y m d : ℕ) → IsDate y m d → day_of (date_text y m d) ≡ Some (day_number y m d)
day_of-date_text y m d h =
    let year : 2000 + (y - 2000) ≡ y = omega (arith, h.year_from) in
    let valid : is_date (2000 + (y - 2000)) m d ≡ true = rw year (tested-IsDate y m d h) in
    let low : y - 2000 < 100 = omega (arith, h.year_to) in
    let short : d < 100 = omega (arith, day_bound y m d h) in
    read_parts d (y - 2000) (month_name m) (length-month_name m h.month_from h.month_to)
    ∙ rw (two_digits_of-complete (y - 2000) low, month_named-complete m h.month_from h.month_to, two_digits_of-complete d short, valid, year) refl

pub day_of-complete : (n : ℕ) (t : List ℕ) → SpellsDay n t → day_of t ≡ Some n
day_of-complete n t p = ap day_of p.spelled ∙ day_of-date_text p.year p.month p.day p.is_date ∙ ap Some p.number

pub SpellsDay-day_text : (n : ℕ) → n < day_limit → SpellsDay n (day_text n)
unfolding day_text
SpellsDay-day_text n h =
    let is = date_of_number n h in
    record { year = year_of n; month = month_of n; day = day_of_month n; is_date = is.0; number = is.1; spelled = refl }

pub day_of-day_text : (n : ℕ) → n < day_limit → day_of (day_text n) ≡ Some n
day_of-day_text n h = day_of-complete n (day_text n) (SpellsDay-day_text n h)

-- a day has one text
pub day_text-only : (n : ℕ) (t : List ℕ) → SpellsDay n t → n < day_limit → t ≡ day_text n
day_text-only n t p h =
    let q = SpellsDay-day_text n h in
    let same = day_number-injective p.year p.month p.day q.year q.month q.day p.is_date q.is_date (p.number ∙ sym q.number) in
    p.spelled ∙ rw (same.0, same.1, same.2) (sym q.spelled)

pub day_of-bound : (n : ℕ) (t : List ℕ) → SpellsDay n t → n < day_limit
day_of-bound n t p = let low = day_number_bound p.year p.month p.day p.is_date in omega (arith, p.number)

pub day_of-one_text : (n : ℕ) (t : List ℕ) → day_of t ≡ Some n → t ≡ day_text n
day_of-one_text n t e = let p = day_of-sound n t e in day_text-only n t p (day_of-bound n t p)
