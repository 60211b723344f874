-- Which date comes to a new date: shifts are 2, 1 and 0, so only the date before, the date itself and
-- the next one can, and the least of them does.
use Rattle.std.proofs.Common.{◌≡◌, ◌≤◌, ◌<◌, ◌+◌, ◌-◌, ◌⊎◌, inl, inr, ℕ, zero, suc, Bool, true, false}
use Rattle.std.proofs.Common.{nat_eq}
use Rattle.std.proofs.Common.{nat_lt, if◌then◌else◌, List, [], refl, sym, ap, ◌∙◌, arith}
use Rattle.std.proofs.lemmas.Bool.Decides.{nat_tests}
use Rattle.ssim_periods.specs.Calendar.{day_count}
use Rattle.ssim_periods.specs.Cover.{first_where}
use Rattle.ssim_periods.proofs.CoverLemmas.{first_where-is, le_or_lt}
use Rattle.ssim_periods.proofs.DayLemmas.{day_count-is}
use Rattle.ssim_parts.specs.Fates.{lands_on}
use Rattle.ssim_parts.proofs.Booleans.{both_ways}
use Rattle.ssim_parts.specs.internal.KeptDates.{came_from, is_kept_with, left_if_kept, or_legs}
use Rattle.ssim_parts.specs.declared.fate.Fate.{Fate}
use Rattle.ssim_parts.specs.declared.fate.Fate.TheVariants.{Absent, Kept, Left}
use Rattle.ssim_parts.specs.declared.fate.LeftReason.TheVariants.{Date}

pub kept_with : (shift : ℕ) (fate : Fate) → is_kept_with shift fate ≡ true → fate ≡ Kept shift
kept_with shift Absent h = absurd cc
kept_with shift (Left reason) h = absurd cc
kept_with shift (Kept own) h = let same : own ≡ shift = grind (arith, nat_tests) in ap Kept same

pub landing : (m n : ℕ) (fate : Fate) → lands_on m n fate ≡ true
    → (shift : ℕ) × (fate ≡ Kept shift) × (n + shift ≡ m + 1)
landing m n Absent h = absurd cc
landing m n (Left reason) h = absurd cc
landing m n (Kept shift) h = let at : n + shift ≡ m + 1 = grind (arith, nat_tests) in (shift, refl, at)

pub lands : (m n shift : ℕ) (fate : Fate) → fate ≡ Kept shift → n + shift ≡ m + 1
    → lands_on m n fate ≡ true
lands m n shift fate is at =
    let here : nat_eq (n + shift) (m + 1) ≡ true = grind (arith, nat_tests) in
    ap (lands_on m n) is ∙ here

pub is_kept : (shift : ℕ) (fate : Fate) → fate ≡ Kept shift → is_kept_with shift fate ≡ true
is_kept shift fate is =
    let here : nat_eq shift shift ≡ true = grind (arith, nat_tests) in
    ap (is_kept_with shift) is ∙ here

-- what is known of the fates of dates, other dates left aside
pub record AreFates (own : ℕ → Fate) : Type 0 where
  pub short : (n shift : ℕ) → own n ≡ Kept shift → shift ≤ 2
  pub within : (n shift : ℕ) → own n ≡ Kept shift → 1 ≤ n + shift
  pub past : (n : ℕ) → 36525 ≤ n → own n ≡ Absent

module _ (own : ℕ → Fate) (are : AreFates own) where
  abbrev comes : ℕ → ℕ → Bool
  comes m n = lands_on m n (own n)

  -- whether the date with this shift comes to m
  abbrev pub some : ℕ → ℕ → Bool
  some shift m = came_from (λ n. is_kept_with shift (own n)) shift m

  abbrev pub least : ℕ → ℕ
  least m = first_where (comes m) 0 day_count

  some_at : (shift m : ℕ) → some shift m ≡ true
      → (shift ≤ m + 1) × (own (m + 1 - shift) ≡ Kept shift)
  some_at shift m h = by (nat_lt (m + 1) shift) refl h
    where
      by : (b : Bool) → nat_lt (m + 1) shift ≡ b
          → (if b then false else is_kept_with shift (own (m + 1 - shift))) ≡ true
          → (shift ≤ m + 1) × (own (m + 1 - shift) ≡ Kept shift)
      by true e k = absurd cc
      by false e k =
          let low : shift ≤ m + 1 = grind (arith, nat_tests) in
          (low, kept_with shift (own (m + 1 - shift)) k)

  at_some : (shift m n : ℕ) → n + shift ≡ m + 1 → own n ≡ Kept shift → some shift m ≡ true
  at_some shift m n at is =
      let not_less : nat_lt (m + 1) shift ≡ false = grind (arith, nat_tests) in
      let back : m + 1 - shift ≡ n = omega arith in
      ap (λ (b : Bool). if b then false else is_kept_with shift (own (m + 1 - shift))) not_less
      ∙ ap (λ (k : ℕ). is_kept_with shift (own k)) back ∙ is_kept shift (own n) is

  -- no date with a greater shift comes to m
  abbrev pub NoGreater : ℕ → ℕ → Type 0
  NoGreater shift m = (t : ℕ) → shift < t → t ≤ 2 → some t m ≡ false

  before_end : (n shift : ℕ) → own n ≡ Kept shift → n < 36525
  before_end n shift is = by (le_or_lt 36525 n)
    where
      by : (36525 ≤ n) ⊎ (n < 36525) → n < 36525
      by (inl past) = let none = are.past n past in absurd cc
      by (inr less) = less

  -- a date that comes to m has a shift that is at most 2
  comer : (m n : ℕ) → comes m n ≡ true → (t : ℕ) × (t ≤ 2) × (n + t ≡ m + 1) × (some t m ≡ true)
  comer m n h =
      let l = landing m n (own n) h in
      (l.0, are.short n l.0 l.1, l.2, at_some l.0 m n l.2 l.1)

  -- the date with a shift is the least one, if none has a greater shift
  pub least_is : (shift m : ℕ) → some shift m ≡ true → NoGreater shift m
      → (least m ≡ m + 1 - shift) × (comes m (m + 1 - shift) ≡ true)
  least_is shift m h none =
      let at = some_at shift m h in
      let low : shift ≤ m + 1 = at.0 in
      let back : m + 1 - shift + shift ≡ m + 1 = omega arith in
      let end : m + 1 - shift < 36525 = before_end (m + 1 - shift) shift at.1 in
      let count : day_count ≡ 36525 = day_count-is in
      let here : comes m (m + 1 - shift) ≡ true =
      lands m (m + 1 - shift) shift (own (m + 1 - shift)) at.1 back in (
        first_where-is (comes m) 0 day_count (m + 1 - shift) (omega arith) (omega arith) here
            (λ j from below. by j (omega (arith, below, low)) (comes m j) refl),
        here,
      )
    where
      by : (j : ℕ) → j + shift < m + 1 → (b : Bool) → comes m j ≡ b → comes m j ≡ false
      by j below true e =
          let c = comer m j e in
          let more : shift < c.0 = omega (arith, below, c.2) in
          let no = none c.0 more c.1 in
          let yes = c.3 in
          absurd cc
      by j below false e = e

  -- no date comes to m
  pub least_none : (m : ℕ) → some 2 m ≡ false → some 1 m ≡ false → some 0 m ≡ false
      → comes m (least m) ≡ false
  least_none m two one zero_ = by (comes m (least m)) refl
    where
      none : (t : ℕ) → t ≤ 2 → some t m ≡ false
      none zero low = zero_
      none (suc zero) low = one
      none (suc (suc zero)) low = two
      none (suc (suc (suc t))) low = absurd (omega (arith, low))

      by : (b : Bool) → comes m (least m) ≡ b → comes m (least m) ≡ false
      by true e =
          let c = comer m (least m) e in let no = none c.0 c.1 in let yes = c.3 in absurd cc
      by false e = e

  above_two : (m : ℕ) → NoGreater 2 m
  above_two m t more low = absurd (omega (arith, more, low))

  above_one : (m : ℕ) → some 2 m ≡ false → NoGreater 1 m
  above_one m none t more low =
      let two : t ≡ 2 = omega (arith, more, low) in ap (λ (s : ℕ). some s m) two ∙ none

  above_zero : (m : ℕ) → some 2 m ≡ false → some 1 m ≡ false → NoGreater 0 m
  above_zero m two one zero more low = absurd (omega (arith, more))
  above_zero m two one (suc zero) more low = one
  above_zero m two one (suc (suc zero)) more low = two
  above_zero m two one (suc (suc (suc t))) more low = absurd (omega (arith, low))

  -- ---- legs

  module _ {A : Type 0} (legs : ℕ → List A)
      (full : (n shift : ℕ) (others : List A) → own n ≡ Kept shift → or_legs (legs n) others ≡ legs n)
    where
      -- the legs of the least date that comes to m
      abbrev pub landed : ℕ → List A
      landed m = if comes m (least m) then legs (least m) else []

      -- the legs that come to m with a shift
      abbrev pub legs_with : ℕ → ℕ → List A
      legs_with shift m = if some shift m then legs (m + 1 - shift) else []

      found : (shift m : ℕ) → some shift m ≡ true → NoGreater shift m
          → landed m ≡ legs (m + 1 - shift)
      found shift m h none =
          let is = least_is shift m h none in
          ap (λ (n : ℕ). if comes m n then legs n else []) is.0
          ∙ ap (λ (b : Bool). if b then legs (m + 1 - shift) else []) is.1

      keeps : (shift m : ℕ) (others : List A) → some shift m ≡ true
          → or_legs (legs (m + 1 - shift)) others ≡ legs (m + 1 - shift)
      keeps shift m others h = full (m + 1 - shift) shift others (some_at shift m h).1

      pub ladder : (m : ℕ)
          → or_legs (or_legs (legs_with 2 m) (legs_with 1 m)) (legs_with 0 m) ≡ landed m
      ladder m = by (some 2 m) (some 1 m) (some 0 m) refl refl refl
        where
          by : (two one none : Bool) → some 2 m ≡ two → some 1 m ≡ one → some 0 m ≡ none
              → or_legs (or_legs (if two then legs (m + 1 - 2) else [])
              (if one then legs (m + 1 - 1) else [])) (if none then legs (m + 1 - 0) else [])
              ≡ landed m
          by true one none e f g =
              ap (λ (x : List A). or_legs x (if none then legs (m + 1 - 0) else []))
              (keeps 2 m (if one then legs (m + 1 - 1) else []) e)
              ∙ keeps 2 m (if none then legs (m + 1 - 0) else []) e
              ∙ sym (found 2 m e (above_two m))
          by false true none e f g =
              keeps 1 m (if none then legs (m + 1 - 0) else []) f
              ∙ sym (found 1 m f (above_one m e))
          by false false true e f g = sym (found 0 m g (above_zero m e f))
          by false false false e f g =
              sym (ap (λ (b : Bool). if b then legs (least m) else []) (least_none m e f g))

  -- ---- fates

  -- the fate of date n, if its own is this one
  abbrev pub fate_of : ℕ → Fate → Fate
  fate_of n Absent = Absent
  fate_of n (Left reason) = Left reason
  fate_of n (Kept shift) = if nat_eq (least (n + shift - 1)) n then Kept shift else Left Date

  -- the days on which dates with a shift lie `by - 1` days before
  abbrev pub behind : ℕ → ℕ → ℕ → Bool
  behind shift by n = came_from (λ k. is_kept_with shift (own k)) by n

  -- the fates after dates with other shifts came to the new date
  abbrev pub marked : ℕ → Fate → Fate
  marked n fate =
      let one = if behind 2 2 n then left_if_kept 1 fate else fate in
      let two = if behind 2 3 n then left_if_kept 0 one else one in
      if behind 1 2 n then left_if_kept 0 two else two

  same_either : (b : Bool) (fate other : Fate) → other ≡ fate → (if b then other else fate) ≡ fate
  same_either true fate other same = same
  same_either false fate other same = refl

  -- a fate that no mark changes
  same_marked : (n : ℕ) (fate : Fate) → left_if_kept 1 fate ≡ fate → left_if_kept 0 fate ≡ fate
      → marked n fate ≡ fate
  same_marked n fate not_one not_zero =
      let one : Fate = if behind 2 2 n then left_if_kept 1 fate else fate in
      let two : Fate = if behind 2 3 n then left_if_kept 0 one else one in
      let a : one ≡ fate = same_either (behind 2 2 n) fate (left_if_kept 1 fate) not_one in
      let b : two ≡ fate =
      ap (λ (f : Fate). if behind 2 3 n then left_if_kept 0 f else f) a
      ∙ same_either (behind 2 3 n) fate (left_if_kept 0 fate) not_zero in
      ap (λ (f : Fate). if behind 1 2 n then left_if_kept 0 f else f) b
      ∙ same_either (behind 1 2 n) fate (left_if_kept 0 fate) not_zero

  -- of a date that is the least one
  stays : (n shift : ℕ) → least (n + shift - 1) ≡ n → fate_of n (Kept shift) ≡ Kept shift
  stays n shift is =
      let same : nat_eq (least (n + shift - 1)) n ≡ true = grind (arith, nat_tests) in
      ap (λ (b : Bool). if b then Kept shift else Left Date) same

  -- of a date before which another one comes
  goes : (n shift k : ℕ) → least (n + shift - 1) ≡ k → k < n → fate_of n (Kept shift) ≡ Left Date
  goes n shift k is less =
      let other : nat_eq (least (n + shift - 1)) n ≡ false = grind (arith, nat_tests) in
      ap (λ (b : Bool). if b then Kept shift else Left Date) other

  own_some : (n shift : ℕ) → own n ≡ Kept shift → some shift (n + shift - 1) ≡ true
  own_some n shift is =
      let from = are.within n shift is in at_some shift (n + shift - 1) n (omega (arith, from)) is

  two_is : (n : ℕ) → own n ≡ Kept 2 → marked n (Kept 2) ≡ fate_of n (Kept 2)
  two_is n is =
      let l = least_is 2 (n + 2 - 1) (own_some n 2 is) (above_two (n + 2 - 1)) in
      let at = l.0 in
      same_marked n (Kept 2) refl refl ∙ sym (stays n 2 (omega (arith, at)))

  one_is : (n : ℕ) → own n ≡ Kept 1 → marked n (Kept 1) ≡ fate_of n (Kept 1)
  one_is n is = by (some 2 (n + 1 - 1)) refl
    where
      same : n + 1 - 1 ≡ n
      same = omega arith

      by : (b : Bool) → some 2 (n + 1 - 1) ≡ b → marked n (Kept 1) ≡ fate_of n (Kept 1)
      by true e =
          let l = least_is 2 (n + 1 - 1) e (above_two (n + 1 - 1)) in
          let at = l.0 in
          let low = (some_at 2 (n + 1 - 1) e).0 in
          let here : behind 2 2 n ≡ true = ap (behind 2 2) (sym same) ∙ e in
          ap (λ (b : Bool). let one = if b then Left Date else Kept 1 in
          let two = if behind 2 3 n then left_if_kept 0 one else one in
          if behind 1 2 n then left_if_kept 0 two else two) here
          ∙ ap (λ (f : Fate). if behind 1 2 n then left_if_kept 0 f else f)
          (same_either (behind 2 3 n) (Left Date) (Left Date) refl)
          ∙ same_either (behind 1 2 n) (Left Date) (Left Date) refl
          ∙ sym (goes n 1 (n + 1 - 1 + 1 - 2) at (omega (arith, low)))
      by false e =
          let l = least_is 1 (n + 1 - 1) (own_some n 1 is) (above_one (n + 1 - 1) e) in
          let at = l.0 in
          let none : behind 2 2 n ≡ false = ap (behind 2 2) (sym same) ∙ e in
          ap (λ (b : Bool). let one = if b then Left Date else Kept 1 in
          let two = if behind 2 3 n then left_if_kept 0 one else one in
          if behind 1 2 n then left_if_kept 0 two else two) none
          ∙ ap (λ (f : Fate). if behind 1 2 n then left_if_kept 0 f else f)
          (same_either (behind 2 3 n) (Kept 1) (Kept 1) refl)
          ∙ same_either (behind 1 2 n) (Kept 1) (Kept 1) refl
          ∙ sym (stays n 1 (omega (arith, at)))

  -- dates behind by one more are those that come to the date before
  behind_before : (shift n : ℕ) → 1 ≤ n → behind shift (shift + 1) n ≡ some shift (n - 1)
  behind_before shift n from =
      let a : nat_lt (n + 1) (shift + 1) ≡ nat_lt (n - 1 + 1) shift =
      both_ways (nat_lt (n + 1) (shift + 1)) (nat_lt (n - 1 + 1) shift)
      (λ e. grind (arith, nat_tests)) (λ e. grind (arith, nat_tests)) in
      let b : n + 1 - (shift + 1) ≡ n - 1 + 1 - shift = omega (arith, from) in
      ap (λ (t : Bool). if t then false else is_kept_with shift (own (n + 1 - (shift + 1)))) a
      ∙ ap (λ (k : ℕ). if nat_lt (n - 1 + 1) shift then false else is_kept_with shift (own k)) b

  zero_is : (n : ℕ) → own n ≡ Kept 0 → marked n (Kept 0) ≡ fate_of n (Kept 0)
  zero_is n is = by (some 2 (n - 1)) (some 1 (n - 1)) refl refl
    where
      from : 1 ≤ n
      from = let w = are.within n 0 is in omega (arith, w)

      at_least : least (n - 1) ≡ least (n + 0 - 1)
      at_least = let same : n - 1 ≡ n + 0 - 1 = omega arith in ap least same

      first : marked n (Kept 0) ≡ (let two = if some 2 (n - 1) then Left Date else Kept 0 in
          if some 1 (n - 1) then left_if_kept 0 two else two)
      first =
          ap (λ (f : Fate). let two = if behind 2 3 n then left_if_kept 0 f else f in
          if behind 1 2 n then left_if_kept 0 two else two)
          (same_either (behind 2 2 n) (Kept 0) (Kept 0) refl)
          ∙ ap (λ (b : Bool). let two = if b then Left Date else Kept 0 in
          if behind 1 2 n then left_if_kept 0 two else two) (behind_before 2 n from)
          ∙ ap (λ (b : Bool). let two = if some 2 (n - 1) then Left Date else Kept 0 in
          if b then left_if_kept 0 two else two) (behind_before 1 n from)

      by : (two one : Bool) → some 2 (n - 1) ≡ two → some 1 (n - 1) ≡ one
          → marked n (Kept 0) ≡ fate_of n (Kept 0)
      by true one e f =
          let l = least_is 2 (n - 1) e (above_two (n - 1)) in
          let at = sym at_least ∙ l.0 in
          let low = (some_at 2 (n - 1) e).0 in
          first
          ∙ ap (λ (b : Bool). let two = if b then Left Date else Kept 0 in
          if some 1 (n - 1) then left_if_kept 0 two else two) e
          ∙ same_either (some 1 (n - 1)) (Left Date) (Left Date) refl
          ∙ sym (goes n 0 (n - 1 + 1 - 2) at (omega (arith, low, from)))
      by false true e f =
          let l = least_is 1 (n - 1) f (above_one (n - 1) e) in
          let at = sym at_least ∙ l.0 in
          first
          ∙ ap (λ (b : Bool). let two = if b then Left Date else Kept 0 in
          if some 1 (n - 1) then left_if_kept 0 two else two) e
          ∙ ap (λ (b : Bool). if b then Left Date else Kept 0) f
          ∙ sym (goes n 0 (n - 1 + 1 - 1) at (omega (arith, from)))
      by false false e f =
          let here : some 0 (n - 1) ≡ true =
          let same : n + 0 - 1 ≡ n - 1 = omega arith in
          ap (some 0) (sym same) ∙ own_some n 0 is in
          let l = least_is 0 (n - 1) here (above_zero (n - 1) e f) in
          let at = sym at_least ∙ l.0 in
          first
          ∙ ap (λ (b : Bool). let two = if b then Left Date else Kept 0 in
          if some 1 (n - 1) then left_if_kept 0 two else two) e
          ∙ ap (λ (b : Bool). if b then Left Date else Kept 0) f
          ∙ sym (stays n 0 (omega (arith, at, from)))

  -- the marks leave exactly the dates that are not the least ones
  pub marked_is : (n : ℕ) → marked n (own n) ≡ fate_of n (own n)
  marked_is n = by (own n) refl
    where
      kept : (shift : ℕ) → own n ≡ Kept shift → shift ≤ 2
          → marked n (Kept shift) ≡ fate_of n (Kept shift)
      kept zero is low = zero_is n is
      kept (suc zero) is low = one_is n is
      kept (suc (suc zero)) is low = two_is n is
      kept (suc (suc (suc shift))) is low = absurd (omega (arith, low))

      by : (fate : Fate) → own n ≡ fate → marked n fate ≡ fate_of n fate
      by Absent is = same_marked n Absent refl refl
      by (Left reason) is = same_marked n (Left reason) refl refl
      by (Kept shift) is = kept shift is (are.short n shift is)
