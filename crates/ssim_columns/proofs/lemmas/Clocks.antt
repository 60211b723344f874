-- Four bytes are digits if no byte has its highest bit, neither by itself nor after the test number
-- is added.
use Rattle.std.proofs.Common.{◌≡◌, ℕ, ◌+◌, ◌*◌, ◌/◌, ◌%◌, ◌^◌, ◌<◌, ◌≤◌, Bool, true, if◌then◌else◌, Some, inl, inr, List, [], ◌∷◌, length, get_or, min, max, bit_and, bit_or, refl, sym, ap, ◌∙◌, arith}
use Rattle.std.specs.Prelude.{slice_index, slice_range, is_some}
use Rattle.std.specs.List.{list_all}
use Rattle.ssim_values.specs.Clock.{clock_of, clock_text}
use Rattle.ssim_values.specs.Variation.{Offset, variation_of}
use Rattle.ssim_values.proofs.ClockLaws.{clock_of-clock_text, variation_of-variation_text}
use Rattle.ssim_columns.specs.Columns.{utc_variation_of}
use Rattle.ssim_columns.specs.Numbers.{is_blank}
use Rattle.ssim_columns.proofs.lemmas.Choices.{pick}
use Rattle.std.specs.Int.{bit_at}
use Rattle.std.proofs.lemmas.Nat.Bits.{bit_at_and, bit_at_or, bit_at-lt, bit_at-zero}
use Rattle.ssim_columns.specs.internal.Clocks.{HasClockDigits}

-- ---- bits

top_clear : (n i : ℕ) → bit_at 2155905152 i ≡ 1 → bit_and n 2155905152 ≡ 0 → bit_at n i ≡ 0
top_clear n i top h =
    let both : bit_at (bit_and n 2155905152) i ≡ min (bit_at n i) (bit_at 2155905152 i) = bit_at_and n 2155905152 i in
    let zero : bit_at (bit_and n 2155905152) i ≡ 0 = ap (λ m. bit_at m i) h ∙ bit_at-zero i in
    omega (arith, both, zero, top, bit_at-lt n i)

both_clear : (m n i : ℕ) → bit_at 2155905152 i ≡ 1 → bit_and (bit_or m n) 2155905152 ≡ 0 → (bit_at m i ≡ 0) × (bit_at n i ≡ 0)
both_clear m n i top h =
    let clear : bit_at (bit_or m n) i ≡ 0 = top_clear (bit_or m n) i top h in
    let either : bit_at (bit_or m n) i ≡ max (bit_at m i) (bit_at n i) = bit_at_or m n i in
    (omega (arith, clear, either), omega (arith, clear, either))

-- ---- bytes

last_digit : (e : ℕ) → e / 128 % 2 ≡ 0 → (e + 1987476086) / 128 % 2 ≡ 0 → e % 256 < 10
last_digit e p q = omega (arith, p, q)

tens_digit : (e : ℕ) → e % 256 < 10 → e / 32768 % 2 ≡ 0 → (e + 1987476086) / 32768 % 2 ≡ 0 → e / 256 % 256 < 6
tens_digit e d p q = omega (arith, d, p, q)

units_digit : (e : ℕ) → e % 256 < 10 → e / 256 % 256 < 6 → e / 8388608 % 2 ≡ 0 → (e + 1987476086) / 8388608 % 2 ≡ 0 → e / 65536 % 256 < 10
units_digit e d c p q = omega (arith, d, c, p, q)

pub has_digits : (e : ℕ) → e < 2 ^ 26 → bit_and (bit_or e (e + 1987476086)) 2155905152 ≡ 0 → HasClockDigits e
has_digits e low h =
    let p = both_clear e (e + 1987476086) 7 refl h in
    let q = both_clear e (e + 1987476086) 15 refl h in
    let r = both_clear e (e + 1987476086) 23 refl h in
    let d : e % 256 < 10 = last_digit e p.0 p.1 in
    let c : e / 256 % 256 < 6 = tens_digit e d q.0 q.1 in
    let b : e / 65536 % 256 < 10 = units_digit e d c r.0 r.1 in
    record {
      a = e / 16777216;
      b = e / 65536 % 256;
      c = e / 256 % 256;
      d = e % 256;
      is = omega arith;
      hours = omega (arith, low);
      units = b;
      tens = c;
      minutes = d;
    }

-- ---- hours and minutes

-- one byte after another
word_of : (h₁ h₂ m₁ m₂ a b c d w : ℕ) → h₁ < 256 → h₂ < 256 → m₁ < 256 → m₂ < 256 → a < 10 → b < 10 → c < 6 → d < 10 → h₁ * 16777216 + h₂ * 65536 + m₁ * 256 + m₂ ≡ w → a * 16777216 + b * 65536 + c * 256 + d ≡ (w + 3486502864) % 4294967296 → (h₁ ≡ 48 + a) × (h₂ ≡ 48 + b) × (m₁ ≡ 48 + c) × (m₂ ≡ 48 + d)
word_of h₁ h₂ m₁ m₂ a b c d w p₁ p₂ p₃ p₄ q₁ q₂ q₃ q₄ e f =
    let whole : h₁ * 16777216 + h₂ * 65536 + m₁ * 256 + m₂ ≡ (48 + a) * 16777216 + (48 + b) * 65536 + (48 + c) * 256 + (48 + d) = omega (arith, p₁, p₂, p₃, p₄, q₁, q₂, q₃, q₄, e, f) in
    let minutes : m₂ ≡ 48 + d = omega (arith, whole, p₄, q₄) in
    let tens : m₁ ≡ 48 + c = omega (arith, whole, minutes, p₃, q₃) in
    let units : h₂ ≡ 48 + b = omega (arith, whole, minutes, tens, p₂, q₂) in
    (omega (arith, whole, minutes, tens, units), units, tens, minutes)

-- digits in order are hours and minutes in order
in_order : (a b c d hours : ℕ) → b < 10 → c < 6 → d < 10 → a * 16777216 + b * 65536 + c * 256 + d ≤ hours / 10 * 16777216 + hours % 10 * 65536 → (a * 10 + b) * 60 + (c * 10 + d) ≤ hours * 60
in_order a b c d hours q₂ q₃ q₄ le =
    let whole : hours / 10 * 10 + hours % 10 ≡ hours = omega arith in
    let below : hours % 10 < 10 = omega arith in
    omega (arith, q₂, q₃, q₄, le, whole, below)

pub clock_of_word : (t : List ℕ) (w hours : ℕ) → length t ≡ 4 → ((i : ℕ) → get_or t i 0 < 256) → w ≡ slice_index t 0 * 16777216 + slice_index t 1 * 65536 + slice_index t 2 * 256 + slice_index t 3 → (w + 3486502864) % 4294967296 ≤ hours / 10 * 16777216 + hours % 10 * 65536 → HasClockDigits ((w + 3486502864) % 4294967296) → (n : ℕ) × (n ≤ hours * 60) × (t ≡ clock_text n)
clock_of_word (h₁ ∷ h₂ ∷ m₁ ∷ m₂ ∷ []) w hours len fits e le p =
    let each = word_of h₁ h₂ m₁ m₂ p.a p.b p.c p.d w (fits 0) (fits 1) (fits 2) (fits 3) p.hours p.units p.tens p.minutes (sym e) p.is in
    let low : p.a * 16777216 + p.b * 65536 + p.c * 256 + p.d ≤ hours / 10 * 16777216 + hours % 10 * 65536 = omega (arith, p.is, le) in
    let n : ℕ = (p.a * 10 + p.b) * 60 + (p.c * 10 + p.d) in
    let first : n / 60 / 10 ≡ p.a = omega (arith, p.units, p.tens, p.minutes) in
    let second : n / 60 % 10 ≡ p.b = omega (arith, p.units, p.tens, p.minutes) in
    let third : n % 60 / 10 ≡ p.c = omega (arith, p.units, p.tens, p.minutes) in
    let fourth : n % 60 % 10 ≡ p.d = omega (arith, p.units, p.tens, p.minutes) in
    (n, in_order p.a p.b p.c p.d hours p.units p.tens p.minutes low, rw (first, second, third, fourth, each.0, each.1, each.2, each.3) refl)
clock_of_word [] w hours len fits e le p = absurd (omega (arith, len))
clock_of_word (a ∷ []) w hours len fits e le p = absurd (omega (arith, len))
clock_of_word (a ∷ b ∷ []) w hours len fits e le p = absurd (omega (arith, len))
clock_of_word (a ∷ b ∷ c ∷ []) w hours len fits e le p = absurd (omega (arith, len))
clock_of_word (a ∷ b ∷ c ∷ d ∷ x ∷ xs) w hours len fits e le p = absurd (omega (arith, len))

-- ---- fields

pub some_clock : (t : List ℕ) (n : ℕ) → n ≤ 1440 → t ≡ clock_text n → is_some (clock_of t) ≡ true
some_clock t n low e = rw (e, clock_of-clock_text n low) refl

signed_text : (t : List ℕ) (sign n : ℕ) → length t ≡ 5 → get_or t 0 0 ≡ sign → slice_range t 1 5 ≡ clock_text n → t ≡ sign ∷ clock_text n
signed_text (s ∷ a ∷ b ∷ c ∷ d ∷ []) sign n len first rest = ap (λ x. x ∷ a ∷ b ∷ c ∷ d ∷ []) first ∙ ap (λ (xs : List ℕ). sign ∷ xs) rest
signed_text [] sign n len first rest = absurd (omega (arith, len))
signed_text (s ∷ []) sign n len first rest = absurd (omega (arith, len))
signed_text (s ∷ a ∷ []) sign n len first rest = absurd (omega (arith, len))
signed_text (s ∷ a ∷ b ∷ []) sign n len first rest = absurd (omega (arith, len))
signed_text (s ∷ a ∷ b ∷ c ∷ []) sign n len first rest = absurd (omega (arith, len))
signed_text (s ∷ a ∷ b ∷ c ∷ d ∷ x ∷ xs) sign n len first rest = absurd (omega (arith, len))

some_variation : (t : List ℕ) (v : Offset) → variation_of t ≡ Some v → is_some (utc_variation_of t) ≡ true
unfolding utc_variation_of
some_variation t v e = elim (pick (list_all is_blank t)) [ inl b ↦ rw b refl | inr f ↦ rw (f, e) refl ]

pub signed_variation : (negative : Bool) (t : List ℕ) (n : ℕ) → n ≤ 900 → length t ≡ 5 → get_or t 0 0 ≡ (if negative then 45 else 43) → slice_range t 1 5 ≡ clock_text n → is_some (utc_variation_of t) ≡ true
signed_variation negative t n low len first rest =
    let v : Offset = record { negative = negative; minutes = n } in
    some_variation t v (ap variation_of (signed_text t (if negative then 45 else 43) n len first rest) ∙ variation_of-variation_text v low)
