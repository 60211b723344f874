-- The parts of the text of a day, in the order of a date for spreadsheets.
use Rattle.std.proofs.Common.{◌≡◌, ◌∙◌, ℕ, zero, suc, ◌+◌, ◌-◌, ◌/◌, ◌%◌, ◌≤◌, ◌<◌, List, [], ◌∷◌, ◌++◌, refl, sym, ap, ap₂, get_or, unwrap_or, arith}
use Rattle.ssim_values.specs.Calendar.{day_limit, day_of_month, month_of, year_of}
use Rattle.ssim_values.specs.Day.{day_text, month_name, month_named}
use Rattle.ssim_values.proofs.CalendarCount.{date_of_number}
use Rattle.ssim_values.proofs.SpellingLemmas.{month_named-complete}
use Rattle.ssim_listing.specs.Rows.{iso_date}

-- two bytes, the name of a month and two bytes
abbrev pub around : ℕ → ℕ → ℕ → ℕ → ℕ → List ℕ
around m a b c d = a ∷ b ∷ (month_name m ++ c ∷ d ∷ [])

abbrev pub name_in : List ℕ → List ℕ
name_in text = get_or text 2 0 ∷ get_or text 3 0 ∷ get_or text 4 0 ∷ []

parts : (m : ℕ) → 1 ≤ m → m ≤ 12 → (a b c d : ℕ)
    → (name_in (around m a b c d) ≡ month_name m) × (get_or (around m a b c d) 5 0 ≡ c) × (get_or (around m a b c d) 6 0 ≡ d)
parts zero low high a b c d = absurd (omega arith)
parts (suc zero) low high a b c d = (refl, refl, refl)
parts (suc (suc zero)) low high a b c d = (refl, refl, refl)
parts (suc (suc (suc zero))) low high a b c d = (refl, refl, refl)
parts (suc (suc (suc (suc zero)))) low high a b c d = (refl, refl, refl)
parts (suc (suc (suc (suc (suc zero))))) low high a b c d = (refl, refl, refl)
parts (suc (suc (suc (suc (suc (suc zero)))))) low high a b c d = (refl, refl, refl)
parts (suc (suc (suc (suc (suc (suc (suc zero))))))) low high a b c d = (refl, refl, refl)
parts (suc (suc (suc (suc (suc (suc (suc (suc zero)))))))) low high a b c d = (refl, refl, refl)
parts (suc (suc (suc (suc (suc (suc (suc (suc (suc zero))))))))) low high a b c d = (refl, refl, refl)
parts (suc (suc (suc (suc (suc (suc (suc (suc (suc (suc zero)))))))))) low high a b c d = (refl, refl, refl)
parts (suc (suc (suc (suc (suc (suc (suc (suc (suc (suc (suc zero))))))))))) low high a b c d = (refl, refl, refl)
parts (suc (suc (suc (suc (suc (suc (suc (suc (suc (suc (suc (suc zero)))))))))))) low high a b c d = (refl, refl, refl)
parts (suc (suc (suc (suc (suc (suc (suc (suc (suc (suc (suc (suc (suc m))))))))))))) low high a b c d = absurd (omega arith)

-- the text of a day has the name of a month
pub named : (n : ℕ) (text : List ℕ) → n < day_limit → text ≡ day_text n → (1 ≤ month_of n) × (month_of n ≤ 12) × (month_name (month_of n) ≡ name_in text)
unfolding day_text
named n text h is =
    let date = (date_of_number n h).0 in
    let p = parts (month_of n) date.month_from date.month_to (48 + day_of_month n / 10) (48 + day_of_month n % 10) (48 + (year_of n - 2000) / 10) (48 + (year_of n - 2000) % 10) in
    (date.month_from, date.month_to, sym p.0 ∙ ap name_in (sym is))

-- the months with one name are one
one_month : (m k : ℕ) → 1 ≤ m → m ≤ 12 → 1 ≤ k → k ≤ 12 → month_name m ≡ month_name k → m ≡ k
one_month m k low high low_too high_too e =
    ap (λ o. unwrap_or o 0) (sym (month_named-complete m low high) ∙ (ap month_named e ∙ month_named-complete k low_too high_too))

abbrev pub iso_of : List ℕ → ℕ → List ℕ
iso_of text month =
    50 ∷ 48 ∷ get_or text 5 0 ∷ get_or text 6 0 ∷ 45 ∷ (48 + month / 10) ∷ (48 + month % 10) ∷ 45 ∷ get_or text 0 0 ∷ get_or text 1 0 ∷ []

-- the parts of the text of a day, with the number of its month, are its date
pub iso_is : (n month : ℕ) (text : List ℕ) → n < day_limit → text ≡ day_text n → 1 ≤ month → month ≤ 12 → month_name month ≡ name_in text → iso_of text month ≡ iso_date n
unfolding day_text
iso_is n month text h is low high name =
    let date = (date_of_number n h).0 in
    let p = parts (month_of n) date.month_from date.month_to (48 + day_of_month n / 10) (48 + day_of_month n % 10) (48 + (year_of n - 2000) / 10) (48 + (year_of n - 2000) % 10) in
    let same = one_month month (month_of n) low high date.month_from date.month_to (name ∙ (ap name_in is ∙ p.0)) in
    ap₂ iso_of is same
    ∙ (λ i. 50 ∷ 48 ∷ p.1 i ∷ p.2 i ∷ 45 ∷ (48 + month_of n / 10) ∷ (48 + month_of n % 10) ∷ 45 ∷ (48 + day_of_month n / 10) ∷ (48 + day_of_month n % 10) ∷ [])
