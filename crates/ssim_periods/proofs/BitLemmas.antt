-- Numbers of seven bits as sets of weekdays.
use Prim.Native.Nat.{◌^◌}
use mir.Val.{bool_byte}
use Rattle.std.proofs.Common.{◌≡◌, ℕ, zero, suc, ◌+◌, ◌-◌, ◌*◌, ◌/◌, ◌%◌, ◌<◌, ◌≤◌, Bool, true, false, ◌||◌, nat_eq, List, [], ◌∷◌, length, slice_index_or, max, min, refl, ap, sym, ◌∙◌, arith, inl, inr}
use Rattle.std.specs.Int.{bit_at}
use Rattle.std.specs.Prelude.{bit_or, bit_xor, bit_and}
use Rattle.std.proofs.lemmas.Nat.{shr-shr}
use Rattle.std.proofs.lemmas.Nat.Bits.{bit_at_or, bit_at_xor, bit_at_and, bit_at-lt, bit_at_ones, bit_at_cat_low, bit_at_cat_high, bit_at_lowest, bit_at-suc}
use Rattle.ssim_values.specs.Calendar.{slot}
use Rattle.ssim_periods.specs.Cover.{differ}
use Rattle.ssim_periods.specs.internal.Bits.{week_of}
use Rattle.ssim_periods.proofs.CoverLemmas.{le_or_lt}

-- a weekday is in the set if its bit is set; no other number is
pub week_of-at : (n w : ℕ) → w < 7 → slice_index_or (week_of n) w false ≡ nat_eq (bit_at n w) 1
week_of-at n zero h = refl
week_of-at n (suc zero) h = refl
week_of-at n (suc (suc zero)) h = refl
week_of-at n (suc (suc (suc zero))) h = refl
week_of-at n (suc (suc (suc (suc zero)))) h = refl
week_of-at n (suc (suc (suc (suc (suc zero))))) h = refl
week_of-at n (suc (suc (suc (suc (suc (suc zero)))))) h = refl
week_of-at n (suc (suc (suc (suc (suc (suc (suc w))))))) h = absurd (omega arith)

pub week_of-above : (n w : ℕ) → 7 ≤ w → slice_index_or (week_of n) w false ≡ false
week_of-above n zero h = absurd (omega arith)
week_of-above n (suc zero) h = absurd (omega arith)
week_of-above n (suc (suc zero)) h = absurd (omega arith)
week_of-above n (suc (suc (suc zero))) h = absurd (omega arith)
week_of-above n (suc (suc (suc (suc zero)))) h = absurd (omega arith)
week_of-above n (suc (suc (suc (suc (suc zero))))) h = absurd (omega arith)
week_of-above n (suc (suc (suc (suc (suc (suc zero)))))) h = absurd (omega arith)
week_of-above n (suc (suc (suc (suc (suc (suc (suc w))))))) h = refl

-- ---- two sets

or-bits : (x y : ℕ) → x < 2 → y < 2 → nat_eq (max x y) 1 ≡ (nat_eq x 1 || nat_eq y 1)
or-bits zero zero h k = refl
or-bits zero (suc zero) h k = refl
or-bits (suc zero) zero h k = refl
or-bits (suc zero) (suc zero) h k = refl
or-bits (suc (suc x)) y h k = absurd (omega arith)
or-bits zero (suc (suc y)) h k = absurd (omega arith)
or-bits (suc zero) (suc (suc y)) h k = absurd (omega arith)

xor-bits : (x y : ℕ) → x < 2 → y < 2 → nat_eq ((x + y) % 2) 1 ≡ differ (nat_eq x 1) (nat_eq y 1)
xor-bits zero zero h k = refl
xor-bits zero (suc zero) h k = refl
xor-bits (suc zero) zero h k = refl
xor-bits (suc zero) (suc zero) h k = refl
xor-bits (suc (suc x)) y h k = absurd (omega arith)
xor-bits zero (suc (suc y)) h k = absurd (omega arith)
xor-bits (suc zero) (suc (suc y)) h k = absurd (omega arith)

pub week_of-or : (a b w : ℕ) → slice_index_or (week_of (bit_or a b)) w false ≡ (slice_index_or (week_of a) w false || slice_index_or (week_of b) w false)
week_of-or a b w = elim (le_or_lt 7 w) [
  | inl above ↦ week_of-above (bit_or a b) w above ∙ sym (ap (λ x. x || slice_index_or (week_of b) w false) (week_of-above a w above) ∙ week_of-above b w above)
  | inr below ↦
      week_of-at (bit_or a b) w below ∙ ap (λ x. nat_eq x 1) (bit_at_or a b w) ∙ or-bits (bit_at a w) (bit_at b w) (bit_at-lt a w) (bit_at-lt b w)
      ∙ sym (ap (λ x. x || slice_index_or (week_of b) w false) (week_of-at a w below) ∙ ap (λ y. nat_eq (bit_at a w) 1 || y) (week_of-at b w below))
]

pub week_of-xor : (a b w : ℕ) → slice_index_or (week_of (bit_xor a b)) w false ≡ differ (slice_index_or (week_of a) w false) (slice_index_or (week_of b) w false)
week_of-xor a b w = elim (le_or_lt 7 w) [
  | inl above ↦ week_of-above (bit_xor a b) w above ∙ sym (ap (λ x. differ x (slice_index_or (week_of b) w false)) (week_of-above a w above) ∙ ap (differ false) (week_of-above b w above))
  | inr below ↦
      week_of-at (bit_xor a b) w below ∙ ap (λ x. nat_eq x 1) (bit_at_xor a b w) ∙ xor-bits (bit_at a w) (bit_at b w) (bit_at-lt a w) (bit_at-lt b w)
      ∙ sym (ap (λ x. differ x (slice_index_or (week_of b) w false)) (week_of-at a w below) ∙ ap (differ (nat_eq (bit_at a w) 1)) (week_of-at b w below))
]

-- ---- a set made of its weekdays

byte-lt : (b : Bool) → bool_byte b < 2
byte-lt true = omega arith
byte-lt false = omega arith

byte-is : (b : Bool) → nat_eq (bool_byte b) 1 ≡ b
byte-is true = refl
byte-is false = refl

-- the lowest bit of a number, and the others
lowest : (b : Bool) (m : ℕ) → nat_eq (bit_at (bool_byte b + 2 * m) 0) 1 ≡ b
lowest b m =
    let l = byte-lt b in
    let e : (bool_byte b + 2 * m) % 2 ≡ bool_byte b = omega arith in
    ap (λ x. nat_eq x 1) (bit_at_lowest (bool_byte b + 2 * m) ∙ e) ∙ byte-is b

higher : (b : Bool) (m i : ℕ) → bit_at (bool_byte b + 2 * m) (suc i) ≡ bit_at m i
higher b m i =
    let l = byte-lt b in
    let e : (bool_byte b + 2 * m) / 2 ≡ m = omega arith in
    bit_at-suc (bool_byte b + 2 * m) i ∙ ap (λ x. bit_at x i) e

abbrev pub made_of : Bool → Bool → Bool → Bool → Bool → Bool → Bool → ℕ
made_of a b c d e f g = bool_byte a + 2 * (bool_byte b + 2 * (bool_byte c + 2 * (bool_byte d + 2 * (bool_byte e + 2 * (bool_byte f + 2 * bool_byte g)))))

pub week_of-made : (a b c d e f g : Bool) → week_of (made_of a b c d e f g) ≡ a ∷ b ∷ c ∷ d ∷ e ∷ f ∷ g ∷ []
week_of-made a b c d e f g =
    let m6 = bool_byte g in
    let m5 = bool_byte f + 2 * m6 in
    let m4 = bool_byte e + 2 * m5 in
    let m3 = bool_byte d + 2 * m4 in
    let m2 = bool_byte c + 2 * m3 in
    let m1 = bool_byte b + 2 * m2 in
    let m0 = bool_byte a + 2 * m1 in
    let up = λ (x : ℕ). nat_eq x 1 in
    let b0 : nat_eq (bit_at m0 0) 1 ≡ a = lowest a m1 in
    let b1 : nat_eq (bit_at m0 1) 1 ≡ b = ap up (higher a m1 0) ∙ lowest b m2 in
    let b2 : nat_eq (bit_at m0 2) 1 ≡ c = ap up (higher a m1 1 ∙ higher b m2 0) ∙ lowest c m3 in
    let b3 : nat_eq (bit_at m0 3) 1 ≡ d = ap up (higher a m1 2 ∙ higher b m2 1 ∙ higher c m3 0) ∙ lowest d m4 in
    let b4 : nat_eq (bit_at m0 4) 1 ≡ e = ap up (higher a m1 3 ∙ higher b m2 2 ∙ higher c m3 1 ∙ higher d m4 0) ∙ lowest e m5 in
    let b5 : nat_eq (bit_at m0 5) 1 ≡ f = ap up (higher a m1 4 ∙ higher b m2 3 ∙ higher c m3 2 ∙ higher d m4 1 ∙ higher e m5 0) ∙ lowest f m6 in
    let b6 : nat_eq (bit_at m0 6) 1 ≡ g = ap up (higher a m1 5 ∙ higher b m2 4 ∙ higher c m3 3 ∙ higher d m4 2 ∙ higher e m5 1 ∙ higher f m6 0) ∙ last g in
    cc
  where
    last : (b : Bool) → nat_eq (bit_at (bool_byte b) 0) 1 ≡ b
    last true = refl
    last false = refl

-- a list of seven is its elements
pub seven-are : (days : List Bool) → length days ≡ 7 → slice_index_or days 0 false ∷ slice_index_or days 1 false ∷ slice_index_or days 2 false ∷ slice_index_or days 3 false ∷ slice_index_or days 4 false ∷ slice_index_or days 5 false ∷ slice_index_or days 6 false ∷ [] ≡ days
seven-are (a ∷ b ∷ c ∷ d ∷ e ∷ f ∷ g ∷ []) h = refl
seven-are [] h = absurd (omega arith)
seven-are (a ∷ []) h = absurd (omega arith)
seven-are (a ∷ b ∷ []) h = absurd (omega arith)
seven-are (a ∷ b ∷ c ∷ []) h = absurd (omega arith)
seven-are (a ∷ b ∷ c ∷ d ∷ []) h = absurd (omega arith)
seven-are (a ∷ b ∷ c ∷ d ∷ e ∷ []) h = absurd (omega arith)
seven-are (a ∷ b ∷ c ∷ d ∷ e ∷ f ∷ []) h = absurd (omega arith)
seven-are (a ∷ b ∷ c ∷ d ∷ e ∷ f ∷ g ∷ x ∷ days) h = absurd (omega arith)

-- ---- the days from a day on

pub week_of-ahead : (bits s day i : ℕ) → bits < 128 → s ≡ slot day → i < 7 → nat_eq (bit_at (bits * 129 / 2 ^ s) i) 1 ≡ slice_index_or (week_of bits) (slot (day + i)) false
week_of-ahead bits s day i h is l =
    let moved : bit_at (bits * 129 / 2 ^ s) i ≡ bit_at (bits * 129) (s + i) = ap (λ x. x % 2) (shr-shr (bits * 129) s i) in
    let twice : bits * 129 ≡ bits * 2 ^ 7 + bits = omega arith in
    let both : bit_at (bits * 129 / 2 ^ s) i ≡ bit_at (bits * 2 ^ 7 + bits) (s + i) = moved ∙ ap (λ x. bit_at x (s + i)) twice in
    elim (le_or_lt 7 (s + i)) [
      | inr below ↦
          let own : s + i ≡ slot (day + i) = omega arith in
          ap (λ x. nat_eq x 1) (both ∙ bit_at_cat_low bits 7 bits (s + i) below) ∙ sym (week_of-at bits (s + i) below) ∙ ap (λ w. slice_index_or (week_of bits) w false) own
      | inl above ↦
          let own : s + i - 7 ≡ slot (day + i) = omega arith in
          let lt : s + i - 7 < 7 = omega arith in
          ap (λ x. nat_eq x 1) (both ∙ bit_at_cat_high bits 7 bits (s + i) h above) ∙ sym (week_of-at bits (s + i - 7) lt) ∙ ap (λ w. slice_index_or (week_of bits) w false) own
    ]

min-one : (x : ℕ) → x < 2 → min x 1 ≡ x
min-one zero h = refl
min-one (suc zero) h = refl
min-one (suc (suc x)) h = absurd (omega arith)

-- the lowest k bits
pub bits_below : (x k i : ℕ) → i < k → bit_at (bit_and x (2 ^ k - 1)) i ≡ bit_at x i
bits_below x k i h = bit_at_and x (2 ^ k - 1) i ∙ ap (min (bit_at x i)) (bit_at_ones k i h) ∙ min-one (bit_at x i) (bit_at-lt x i)
