-- Numbers in digits: what is written is read again.
use Rattle.std.proofs.Common.{◌≡◌, ℕ, zero, suc, ◌+◌, ◌-◌, ◌*◌, ◌/◌, ◌%◌, ◌^◌, ◌<◌, ◌≤◌, true, false, List, [], ◌∷◌, ◌++◌, length, reverse, Option, Some, None, refl, sym, ap, ◌∙◌, append_assoc, arith, inl, inr, lit<}
use Rattle.std.specs.Prelude.{IfSome, IsSome}
use Rattle.std.specs.List.{list_all}
use Rattle.std.proofs.Math.Nat.{pow-le-pow_right, mul_assoc, pow-suc, pow-succ'}
use Rattle.std.proofs.lemmas.Bool.Decides.{nat_tests}
use Rattle.std.proofs.lemmas.List.{append-nil, reverse-append, reverse-reverse, length-append}
use Rattle.std.proofs.lemmas.List.Folds.{list_all-append}
use Rattle.ssim_values.specs.Characters.{is_digit, two_digits}
use Rattle.ssim_columns.proofs.lemmas.Choices.{pick}
use Rattle.ssim_columns.specs.Numbers.{is_blank, digits_after, digits_of, drop_blanks, drop_blanks_at_end, number_of, sequence_of, from_one, digits}

pub power : (i n : ℕ) → i ≤ n → 10 ^ i ≤ 10 ^ n
power i n h = pow-le-pow_right (lit< tt) h

pub below_more : (o : Option ℕ) (i n : ℕ) → i ≤ n → IfSome o (λ k. k < 10 ^ i) → IfSome o (λ k. k < 10 ^ n)
below_more None i n h b = tt
below_more (Some k) i n h b = omega (arith, power i n h, b)

-- ---- what is written in digits is read again

digit_is : (n : ℕ) → is_digit (48 + n % 10) ≡ true
digit_is n = grind (arith, nat_tests)

digits_after-digits : (w m n : ℕ) (rest : List ℕ) → n < 10 ^ w → digits_after m (digits w n ++ rest) ≡ digits_after (m * 10 ^ w + n) rest
digits_after-digits zero m n rest h = let z : m * 1 + n ≡ m = omega arith in rw z refl
digits_after-digits (suc w) m n rest h =
    let lt : n / 10 < 10 ^ w = omega (arith, pow-succ' 10 w) in
    let one = digits_after-digits w m (n / 10) ((48 + n % 10) ∷ rest) lt in
    let regroup : (digits w (n / 10) ++ (48 + n % 10) ∷ []) ++ rest ≡ digits w (n / 10) ++ (48 + n % 10) ∷ rest = append_assoc (digits w (n / 10)) ((48 + n % 10) ∷ []) rest in
    let step : digits_after (m * 10 ^ w + n / 10) ((48 + n % 10) ∷ rest) ≡ digits_after ((m * 10 ^ w + n / 10) * 10 + (48 + n % 10 - 48)) rest = rw (digit_is n) refl in
    let sum : (m * 10 ^ w + n / 10) * 10 + (48 + n % 10 - 48) ≡ m * 10 ^ suc w + n = let p : m * 10 ^ suc w ≡ (m * 10 ^ w) * 10 = ap (λ (x : ℕ). m * x) (pow-suc 10 w) ∙ sym (mul_assoc m (10 ^ w) 10) in omega (arith, p) in
    ap (digits_after m) regroup ∙ one ∙ step ∙ ap (λ (k : ℕ). digits_after k rest) sum

digit_not_blank : (b : ℕ) → is_digit b ≡ true → is_blank b ≡ false
digit_not_blank b h = grind (arith, nat_tests)

-- a text of digits, two or more, that ends in a digit of its own
last_kept : (front : List ℕ) (c : ℕ) → is_digit c ≡ true → drop_blanks_at_end (front ++ c ∷ []) ≡ front ++ c ∷ []
unfolding drop_blanks_at_end
last_kept front c h =
    let back : reverse (front ++ c ∷ []) ≡ c ∷ reverse front = reverse-append front (c ∷ []) in
    let kept : drop_blanks (c ∷ reverse front) ≡ c ∷ reverse front = rw (digit_not_blank c h) refl in
    ap (λ (t : List ℕ). reverse (drop_blanks t)) back ∙ ap reverse kept ∙ sym (ap reverse back) ∙ reverse-reverse (front ++ c ∷ [])

digits_of-some : (t : List ℕ) → 0 < length t → digits_of t ≡ digits_after 0 t
unfolding digits_of
digits_of-some [] h = absurd (omega (arith, h))
digits_of-some (b ∷ bs) h = refl

pub digits_of-digits : (w n : ℕ) → n < 10 ^ suc w → digits_of (digits (suc w) n) ≡ Some n
digits_of-digits w n h =
    let long : 0 < length (digits w (n / 10) ++ (48 + n % 10) ∷ []) = simp length-append (omega arith) in
    let whole : digits_after 0 (digits (suc w) n ++ []) ≡ digits_after (0 * 10 ^ suc w + n) [] = digits_after-digits (suc w) 0 n [] h in
    let n-is : 0 * 10 ^ suc w + n ≡ n = grind arith in
    digits_of-some (digits (suc w) n) long ∙ ap (digits_after 0) (sym (append-nil (digits (suc w) n))) ∙ whole ∙ ap Some n-is

digits_all : (w n : ℕ) → list_all is_digit (digits w n) ≡ true
digits_all zero n = refl
digits_all (suc w) n = list_all-append is_digit (digits w (n / 10)) ((48 + n % 10) ∷ []) ∙ rw (digits_all w (n / 10), digit_is n) refl

first_kept : (t : List ℕ) → list_all is_digit t ≡ true → drop_blanks t ≡ t
first_kept [] h = refl
first_kept (b ∷ bs) h = let d : is_digit b ≡ true = grind (arith, nat_tests, h) in rw (digit_not_blank b d) refl

pub number_of-digits : (w n : ℕ) → n < 10 ^ suc w → number_of (digits (suc w) n) ≡ Some n
unfolding number_of
number_of-digits w n h =
    ap (λ (t : List ℕ). digits_of (drop_blanks_at_end t)) (first_kept (digits (suc w) n) (digits_all (suc w) n))
    ∙ ap digits_of (last_kept (digits w (n / 10)) (48 + n % 10) (digit_is n)) ∙ digits_of-digits w n h

-- ---- digits alone

digits_after_all : (m : ℕ) (t : List ℕ) (n : ℕ) → digits_after m t ≡ Some n → list_all is_digit t ≡ true
digits_after_all m [] n h = refl
digits_after_all m (b ∷ bs) n h = elim (pick (is_digit b)) [ inl d ↦ (let k = simp d at h in rw d (digits_after_all (m * 10 + (b - 48)) bs n k)) | inr f ↦ (let k = simp f at h in absurd cc) ]

digits_of_all : (t : List ℕ) (n : ℕ) → digits_of t ≡ Some n → list_all is_digit t ≡ true
unfolding digits_of
digits_of_all [] n h = absurd cc
digits_of_all (b ∷ bs) n h = digits_after_all 0 (b ∷ bs) n h

-- digits alone are all that spells a number
digits_after_some : (m : ℕ) (t : List ℕ) → list_all is_digit t ≡ true → IsSome (digits_after m t)
digits_after_some m [] h = refl
digits_after_some m (b ∷ bs) h = elim (pick (is_digit b)) [ inl d ↦ (let k = simp d at h in rw d (digits_after_some (m * 10 + (b - 48)) bs k)) | inr f ↦ (let k = simp f at h in absurd cc) ]

pub digits_some : (t : List ℕ) → 0 < length t → list_all is_digit t ≡ true → IsSome (digits_of t)
digits_some t long all = rw (digits_of-some t long) (digits_after_some 0 t all)

pub some_digits : (t : List ℕ) → IsSome (digits_of t) → list_all is_digit t ≡ true
some_digits t h = by (digits_of t) refl h
  where
    by : (o : Option ℕ) → digits_of t ≡ o → IsSome o → list_all is_digit t ≡ true
    by None e none = absurd cc
    by (Some n) e some = digits_of_all t n e

all_reversed : (t : List ℕ) → list_all is_digit t ≡ true → list_all is_digit (reverse t) ≡ true
all_reversed [] h = refl
all_reversed (b ∷ bs) h = elim (pick (is_digit b)) [ inl d ↦ (let k = simp d at h in ap (list_all is_digit) (reverse-append (b ∷ []) bs) ∙ list_all-append is_digit (reverse bs) (b ∷ []) ∙ rw (all_reversed bs k, d) refl) | inr f ↦ (let k = simp f at h in absurd cc) ]

pub digits_alone : (t : List ℕ) (n : ℕ) → digits_of t ≡ Some n → number_of t ≡ Some n
unfolding number_of drop_blanks_at_end
digits_alone t n h =
    let all = digits_of_all t n h in
    let back : drop_blanks (reverse t) ≡ reverse t = first_kept (reverse t) (all_reversed t all) in
    rw (first_kept t all, back, reverse-reverse t) h

-- digits are written as the bytes that were read, after those of the number before them
digits_after-written : (w m : ℕ) (t : List ℕ) (n : ℕ) → digits_after m t ≡ Some n → digits (w + length t) n ≡ digits w m ++ t
digits_after-written w m [] n h = let same : n ≡ m = cc in let none : w + 0 ≡ w = omega arith in rw same (ap (λ (i : ℕ). digits i m) none ∙ sym (append-nil (digits w m)))
digits_after-written w m (b ∷ bs) n h =
    elim (pick (is_digit b)) [
      | inl d ↦ (
          let k = simp d at h in
          let low : (48 ≤ b) × (b ≤ 57) = digit_bounds b d in
          let tens : (m * 10 + (b - 48)) / 10 ≡ m = omega (arith, low) in
          let units : 48 + (m * 10 + (b - 48)) % 10 ≡ b = omega (arith, low) in
          let count : w + length (b ∷ bs) ≡ suc w + length bs = omega arith in
          let later : digits (suc w + length bs) n ≡ (digits w ((m * 10 + (b - 48)) / 10) ++ (48 + (m * 10 + (b - 48)) % 10) ∷ []) ++ bs = digits_after-written (suc w) (m * 10 + (b - 48)) bs n k in
          ap (λ (i : ℕ). digits i n) count ∙ later
          ∙ ap (λ (i : ℕ). (digits w i ++ (48 + (m * 10 + (b - 48)) % 10) ∷ []) ++ bs) tens
          ∙ ap (λ (i : ℕ). (digits w m ++ i ∷ []) ++ bs) units
          ∙ append_assoc (digits w m) (b ∷ []) bs
          )
      | inr f ↦ (let k = simp f at h in absurd cc)
    ]
  where
    digit_bounds : (b : ℕ) → is_digit b ≡ true → (48 ≤ b) × (b ≤ 57)
    digit_bounds b d = (grind (arith, nat_tests), grind (arith, nat_tests))

pub digits_of-written : (t : List ℕ) (n : ℕ) → digits_of t ≡ Some n → t ≡ digits (length t) n
unfolding digits_of
digits_of-written [] n h = absurd cc
digits_of-written (b ∷ bs) n h = let whole : 0 + length (b ∷ bs) ≡ length (b ∷ bs) = omega arith in sym (digits_after-written 0 0 (b ∷ bs) n h) ∙ ap (λ (i : ℕ). digits i n) whole

pub sequence_of-digits : (w n : ℕ) → 0 < n → n < 10 ^ suc w → sequence_of (digits (suc w) n) ≡ Some n
unfolding sequence_of
sequence_of-digits w n low h = ap from_one (number_of-digits w n h) ∙ grind (arith, nat_tests)

-- the two last digits of a number are those of its rest by a hundred
pub last_two : (n : ℕ) → two_digits (n % 100) ≡ digits 2 n
last_two n =
    let tens : n % 100 / 10 ≡ n / 10 % 10 = omega arith in
    let units : n % 100 % 10 ≡ n % 10 = omega arith in
    rw (tens, units) refl

pub two_alone : (n : ℕ) → n < 100 → two_digits n ≡ digits 2 n
two_alone n h = let e : n % 100 ≡ n = omega (arith, h) in rw e at (last_two n)
