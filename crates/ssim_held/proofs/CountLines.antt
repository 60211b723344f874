-- A line of a word and a number: its number is read as it is written, and the line ends at the
-- first LF.
use Rattle.std.proofs.Common.{rules, ◌≡◌, ℕ, zero, suc, ◌<◌, ◌^◌, Bool, true, false, ◌&&◌, List, [], ◌∷◌, ◌++◌, length, take, drop, get_or, Some, None, Ok, Err, IfSome, refl, sym, ap, subst, ◌∙◌, arith, append_assoc}
use Rattle.std.specs.Prelude.{Option, Result, ◌==◌, if◌then◌else◌}
use Rattle.std.specs.Fmt.{decimal}
use Rattle.std.specs.List.{list_all}
use Rattle.std.specs.Result.{result_ok}
use Rattle.std.specs.Str.{IsUtf8}
use Rattle.std.specs.Str.Parse.{ParsesUnsigned, digits_value}
use Rattle.std.specs.List.{IsSplitAt}
use Rattle.std.proofs.lemmas.Bool.Decides.{nat_tests}
use Rattle.std.proofs.lemmas.Fmt.{decimal_digit, decimal_nonempty, digits_decimal, first_decimal, decimal-digits_value, parse-decimal, IsAscii-decimal}
use Rattle.std.proofs.lemmas.List.{take-append-drop, take_at}
use Rattle.std.proofs.lemmas.Str.{IsUtf8-from_ascii}
use Rattle.std.proofs.lemmas.Str.Parse.{IsDigitsTest, IsNumeralModel, numerals_by_value, parse_plain}
use Rattle.ssim_values.specs.Characters.{is_digit}
use Rattle.ssim_text.specs.Bytes.{before, from}
use Rattle.ssim_held.specs.File.{counted}
use Rattle.ssim_held.specs.internal.DeskFileReader.{is_empty, is_number}

-- ---- prefixes

pub with_prefix : (bytes prefix front rest : List ℕ) → IsSplitAt bytes (length prefix) front rest → front ≡ prefix → bytes ≡ prefix ++ rest
with_prefix bytes prefix front rest (le, is, back, len, total) e = sym (take-append-drop (length prefix) bytes) ∙ ap (λ xs. xs ++ drop (length prefix) bytes) (sym is ∙ e) ∙ ap (λ xs. prefix ++ xs) (sym back)

pub without_prefix : (bytes prefix front rest later : List ℕ) → IsSplitAt bytes (length prefix) front rest → (front ≡ prefix → ⊥) → bytes ≡ prefix ++ later → ⊥
without_prefix bytes prefix front rest later (le, is, back, len, total) apart e = apart (is ∙ ap (take (length prefix)) e ∙ take_at prefix later (length prefix) refl)

-- ---- the first line

one_part : (t : Bool) (x : ℕ) (ys zs xs : List ℕ) → ys ++ zs ≡ xs → (if t then [] else x ∷ ys) ++ (if t then x ∷ xs else zs) ≡ x ∷ xs
one_part true x ys zs xs h = refl
one_part false x ys zs xs h = ap (λ l. x ∷ l) h

pub before_and_from : (b : ℕ) (xs : List ℕ) → before b xs ++ from b xs ≡ xs
before_and_from b [] = refl
before_and_from b (x ∷ xs) = one_part (x == b) x (before b xs) (from b xs) xs (before_and_from b xs)

digit_is_no_end : (b : ℕ) → is_digit b ≡ true → (b == 10) ≡ false
digit_is_no_end b h = grind (arith, nat_tests)

left : (a b : Bool) → (a && b) ≡ true → a ≡ true
left true b h = refl
left false b h = absurd cc

right : (a b : Bool) → (a && b) ≡ true → b ≡ true
right true b h = h
right false b h = absurd cc

pub before_end : (digits later : List ℕ) → list_all is_digit digits ≡ true → before 10 (digits ++ 10 ∷ later) ≡ digits
before_end [] later h = refl
before_end (b ∷ digits) later h =
    ap (λ t. if t then [] else b ∷ before 10 (digits ++ 10 ∷ later)) (digit_is_no_end b (left (is_digit b) (list_all is_digit digits) h))
    ∙ ap (λ l. b ∷ l) (before_end digits later (right (is_digit b) (list_all is_digit digits) h))

pub from_end : (digits later : List ℕ) → list_all is_digit digits ≡ true → from 10 (digits ++ 10 ∷ later) ≡ 10 ∷ later
from_end [] later h = refl
from_end (b ∷ digits) later h =
    ap (λ t. if t then b ∷ (digits ++ 10 ∷ later) else from 10 (digits ++ 10 ∷ later)) (digit_is_no_end b (left (is_digit b) (list_all is_digit digits) h))
    ∙ from_end digits later (right (is_digit b) (list_all is_digit digits) h)

-- ---- numbers

abbrev AreDigits : List ℕ → Type 0
AreDigits text = list_all is_digit text ≡ true

digits_test : IsDigitsTest AreDigits
digits_test = search rules

own : IsNumeralModel AreDigits (digits_value 10)
own = numerals_by_value AreDigits digits_test

pub decimal_digits : (n : ℕ) → n < 2 ^ 64 → list_all is_digit (decimal n) ≡ true
decimal_digits n h = digits_decimal own n h

alone_zero : (rest : List ℕ) → length (48 ∷ rest) ≡ 1 → is_empty rest ≡ true
alone_zero [] h = refl
alone_zero (b ∷ rest) h = absurd (omega (arith, h))

digits_by : (t : Bool) (b : ℕ) (rest : List ℕ) → (b == 48) ≡ t → (if t then is_empty rest else list_all is_digit (b ∷ rest)) ≡ true → AreDigits (b ∷ rest)
digits_by false b rest e h = h
digits_by true b [] e h = let is : b ≡ 48 = grind (arith, nat_tests) in ap (λ x. is_digit x && true) is
digits_by true b (c ∷ rest) e h = absurd cc

are_digits : (text : List ℕ) → is_number text ≡ true → AreDigits text
are_digits [] h = absurd cc
are_digits (b ∷ rest) h = digits_by (b == 48) b rest refl h

some_digit : (text : List ℕ) → is_number text ≡ true → 0 < length text
some_digit [] h = absurd cc
some_digit (b ∷ rest) h = omega arith

leads_by : (t : Bool) (b : ℕ) (rest : List ℕ) → (b == 48) ≡ t → (if t then is_empty rest else list_all is_digit (b ∷ rest)) ≡ true → b ≡ 48 → length (b ∷ rest) ≡ 1
leads_by true b [] e h is = refl
leads_by true b (c ∷ rest) e h is = absurd cc
leads_by false b rest e h is = absurd (let one : (b == 48) ≡ true = grind (arith, nat_tests) in cc)

leading : (text : List ℕ) → is_number text ≡ true → get_or text 0 0 ≡ 48 → length text ≡ 1
leading [] h is = absurd cc
leading (b ∷ rest) h is = leads_by (b == 48) b rest refl h is

not_plus : (text : List ℕ) → AreDigits text → get_or text 0 0 ≡ 43 → ⊥
not_plus [] h is = absurd (omega (arith, is))
not_plus (b ∷ rest) h is = let first = left (is_digit b) (list_all is_digit rest) h in grind (arith, nat_tests)

-- a number without leading zeros is what `decimal` writes of its value
pub number_read : {E : Type 0} (text : List ℕ) (r : Result ℕ E) → is_number text ≡ true → ParsesUnsigned 64 10 text r → IfSome (result_ok r) (λ n. text ≡ decimal n)
number_read {E = E} text (Err e) h p = tt
number_read {E = E} text (Ok n) h p =
    let q = parse_plain own {E = E} 64 text (Ok n) p (not_plus text (are_digits text h)) in
    let is : n ≡ digits_value 10 text = q.1 in
    sym (decimal-digits_value own text (are_digits text h) (some_digit text h) (leading text h) q.0.2) ∙ ap decimal (sym is)

number_by : (text : List ℕ) → AreDigits text → 0 < length text → (get_or text 0 0 ≡ 48 → length text ≡ 1) → is_number text ≡ true
number_by [] h some leads = absurd (omega (arith, some))
number_by (b ∷ rest) h some leads = by (b == 48) refl
  where
    by : (t : Bool) → (b == 48) ≡ t → (if t then is_empty rest else list_all is_digit (b ∷ rest)) ≡ true
    by false e = h
    by true e =
        let is : b ≡ 48 = grind (arith, nat_tests) in
        let one : length (b ∷ rest) ≡ 1 = leads is in
        alone_zero rest (omega (arith, one))

first_zero : (n : ℕ) → n < 2 ^ 64 → get_or (decimal n) 0 0 ≡ 48 → length (decimal n) ≡ 1
first_zero zero h is = ap length (decimal_digit 0 (omega arith))
first_zero (suc n) h is = absurd (let more = first_decimal (suc n) (omega arith) h in omega (arith, more, is))

pub decimal_is_number : (n : ℕ) → n < 2 ^ 64 → is_number (decimal n) ≡ true
decimal_is_number n h = number_by (decimal n) (decimal_digits n h) (decimal_nonempty n h) (first_zero n h)

pub no_number : (text : List ℕ) (n : ℕ) → n < 2 ^ 64 → is_number text ≡ false → text ≡ decimal n → ⊥
no_number text n h f e = absurd (let yes : is_number text ≡ true = ap is_number e ∙ decimal_is_number n h in cc)

pub decimal_utf8 : (text : List ℕ) (n : ℕ) → n < 2 ^ 64 → text ≡ decimal n → IsUtf8 text
decimal_utf8 text n h e = subst IsUtf8 (sym e) (IsUtf8-from_ascii (decimal n) (IsAscii-decimal n h))

pub reads_number : {E : Type 0} (text : List ℕ) (r : Result ℕ E) (n : ℕ) → n < 2 ^ 64 → text ≡ decimal n → ParsesUnsigned 64 10 text r → result_ok r ≡ Some n
reads_number {E = E} text r n h e p = ap result_ok (parse-decimal {E = E} 64 n text r h h e p)

-- ---- the line

pub counted_on : (word later : List ℕ) (n : ℕ) → counted word n ++ later ≡ word ++ 32 ∷ (decimal n ++ 10 ∷ later)
counted_on word later n = append_assoc word (32 ∷ (decimal n ++ 10 ∷ [])) later ∙ ap (λ xs. word ++ 32 ∷ xs) (append_assoc (decimal n) (10 ∷ []) later)

pub line_is : (word bytes one two digits later : List ℕ) (n : ℕ) → bytes ≡ word ++ one → one ≡ 32 ∷ two → digits ≡ before 10 two → from 10 two ≡ 10 ∷ later → digits ≡ decimal n
    → bytes ≡ counted word n ++ later
line_is word bytes one two digits later n a b c d e =
    a ∙ ap (λ xs. word ++ xs) b
    ∙ ap (λ xs. word ++ 32 ∷ xs) (sym (before_and_from 10 two) ∙ ap (λ xs. xs ++ from 10 two) (sym c ∙ e) ∙ ap (λ xs. decimal n ++ xs) d)
    ∙ sym (counted_on word later n)

pub lines_are : (word bytes one two digits later : List ℕ) (o : Option ℕ) → bytes ≡ word ++ one → one ≡ 32 ∷ two → digits ≡ before 10 two → from 10 two ≡ 10 ∷ later
    → IfSome o (λ n. digits ≡ decimal n) → IfSome o (λ n. bytes ≡ counted word n ++ later)
lines_are word bytes one two digits later None a b c d h = tt
lines_are word bytes one two digits later (Some n) a b c d h = line_is word bytes one two digits later n a b c d h

pub no_end : (n : ℕ) (two later : List ℕ) → n < 2 ^ 64 → two ≡ decimal n ++ 10 ∷ later → from 10 two ≡ [] → ⊥
no_end n two later h e none = absurd (let some : 10 ∷ later ≡ [] = sym (from_end (decimal n) later (decimal_digits n h)) ∙ ap (from 10) (sym e) ∙ none in cc)

pub digits_are : (n : ℕ) (two digits later : List ℕ) → n < 2 ^ 64 → two ≡ decimal n ++ 10 ∷ later → digits ≡ before 10 two → digits ≡ decimal n
digits_are n two digits later h e is = is ∙ ap (before 10) e ∙ before_end (decimal n) later (decimal_digits n h)

pub later_is : (n : ℕ) (two later found : List ℕ) → n < 2 ^ 64 → two ≡ decimal n ++ 10 ∷ later → from 10 two ≡ 10 ∷ found → found ≡ later
later_is n two later found h e is = ap (drop 1) (sym is ∙ ap (from 10) e ∙ from_end (decimal n) later (decimal_digits n h))
