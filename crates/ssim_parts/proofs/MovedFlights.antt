-- What parts of a flight's dates give to each date is what the definitions say of the flight.
use Rattle.std.proofs.Common.{◌≡◌, ◌∙◌, ◌≤◌, ℕ, ◌+◌, ◌-◌, Bool, true, false, ◌||◌, nat_lt}
use Rattle.std.proofs.Common.{if◌then◌else◌, List, [], ◌∷◌, map, length, refl, ap, subst, arith}
use Rattle.std.specs.Prelude.{Option, Some, None}
use Rattle.std.specs.List.{AllByRecursion}
use Rattle.std.proofs.lemmas.Bool.Decides.{nat_tests}
use Rattle.std.proofs.lemmas.List.{get_or_past}
use Rattle.ssim_values.specs.declared.time_mode.TimeMode.{TimeMode}
use Rattle.ssim_periods.specs.Calendar.{holds}
use Rattle.ssim_periods.specs.Pieces.{alone, held_on}
use Rattle.ssim_base.specs.Export.{same_itinerary}
use Rattle.ssim_base.specs.Stations.{Row}
use Rattle.ssim_base.specs.Timetable.{Days, Legs, on_day}
use Rattle.ssim_parts.specs.Converted.{converted_on, fate_among, fate_on}
use Rattle.ssim_parts.specs.declared.moved_flight.MovedFlight.{MovedFlight}
use Rattle.ssim_parts.specs.MovedLegs.{beyond_in, left_or_kept, legs_if_kept}
use Rattle.ssim_parts.specs.MovedLegs.{moved_flight, moved_legs, or_reason, outside, own_fate}
use Rattle.ssim_parts.specs.MovedLegs.{own_reason, shift_of, unknown_in}
use Rattle.ssim_parts.specs.declared.fate.Fate.{Fate}
use Rattle.ssim_parts.specs.declared.fate.Fate.TheVariants.{Absent, Kept, Left}
use Rattle.ssim_parts.specs.declared.fate.LeftReason.{LeftReason}
use Rattle.ssim_parts.specs.declared.fate.LeftReason.TheVariants.{Calendar}
use Rattle.ssim_parts.specs.internal.KeptDates.{came_from, is_kept_with, left_if_kept}
use Rattle.ssim_parts.specs.internal.KeptDates.{or_legs}
use Rattle.ssim_parts.specs.internal.Placed.{IsFit, IsShort, MovedPiece, fate_after}
use Rattle.ssim_parts.specs.internal.Placed.{fate_in, first_kept}
use Rattle.ssim_parts.specs.internal.Placed.{is_one_kept, last_fate, legs_at, legs_kept, legs_put}
use Rattle.ssim_parts.proofs.Held.{or_none}
use Rattle.ssim_parts.proofs.Landing.{AreFates, behind, fate_of, ladder, legs_with, marked_is}

or_false : (b : Bool) → (b || false) ≡ b
or_false true = refl
or_false false = refl

-- ---- a flight date

-- a date that is kept has no reason against it
no_reason : (reason : Option LeftReason) (shift s : ℕ) → left_or_kept reason shift ≡ Kept s
    → (reason ≡ None) × (shift ≡ s)
no_reason None shift s e = let same : shift ≡ s = cc in (refl, same)
no_reason (Some reason) shift s e = absurd cc

second : (a b d : Option LeftReason) → or_reason a (or_reason b d) ≡ None → b ≡ None
second None None d e = refl
second None (Some b) d e = absurd cc
second (Some a) b d e = absurd cc

inside : (n shift : ℕ) → outside n shift ≡ None → 1 ≤ n + shift
inside n shift e = by (nat_lt (n + shift) 1) refl e
  where
    by : (b : Bool) → nat_lt (n + shift) 1 ≡ b
        → (if b || nat_lt 36525 (n + shift) then Some Calendar else None) ≡ None → 1 ≤ n + shift
    by true f g = absurd cc
    by false f g = grind (arith, nat_tests)

kept_inside : (rows : List Row) (wanted : TimeMode) (n s : ℕ) (legs : Legs)
    → own_fate rows wanted n legs ≡ Kept s → 1 ≤ n + s
kept_inside rows wanted n s [] e = absurd cc
kept_inside rows wanted n s (leg ∷ legs) e =
    let all = leg ∷ legs in
    let shift = shift_of rows wanted n all in
    let r = no_reason (own_reason rows wanted n all) shift s e in
    let none = second (unknown_in rows n all) (outside n shift) (beyond_in rows wanted n shift all) r.0
    in
    subst (λ (t : ℕ). 1 ≤ n + t) r.1 (inside n shift none)

-- a date that is kept has the shift of its first departure
pub kept_shift : (rows : List Row) (wanted : TimeMode) (n s : ℕ) (legs : Legs)
    → own_fate rows wanted n legs ≡ Kept s → shift_of rows wanted n legs ≡ s
kept_shift rows wanted n s [] e = absurd cc
kept_shift rows wanted n s (leg ∷ legs) e =
    let all = leg ∷ legs in
    (no_reason (own_reason rows wanted n all) (shift_of rows wanted n all) s e).1

-- legs that are moved are there
moved_full : (rows : List Row) (wanted : TimeMode) (n s : ℕ) (legs others : Legs)
    → own_fate rows wanted n legs ≡ Kept s
    → or_legs (moved_legs rows wanted n legs) others ≡ moved_legs rows wanted n legs
moved_full rows wanted n s [] others e = absurd cc
moved_full rows wanted n s (leg ∷ legs) others e = refl

kept_legs : (s : ℕ) (fate : Fate) (legs : Legs)
    → (if is_kept_with s fate then legs_if_kept fate legs else [])
    ≡ (if is_kept_with s fate then legs else [])
kept_legs s Absent legs = refl
kept_legs s (Left reason) legs = refl
kept_legs s (Kept shift) legs = refl

-- parts that hold a date are fit
held_short : (parts : List MovedPiece) (n : ℕ) → AllByRecursion IsFit parts
    → AllByRecursion (λ moved. IsShort moved.fate) (held_on parts n)
held_short [] n a = tt
held_short (p ∷ parts) n a =
    elim (holds p.0 n) as (λ b. AllByRecursion (λ moved. IsShort moved.fate)
    (if b then p.1 ∷ held_on parts n else held_on parts n)) [
      | true ↦ (a.0.short, held_short parts n a.1)
      | false ↦ held_short parts n a.1
    ]

module _ (rows : List Row) (wanted : TimeMode) (days : Days) (whole : length days ≡ 36525)
    (parts : List MovedPiece)
    (held : (n : ℕ) → held_on parts n
    ≡ map (moved_flight rows wanted n) (alone same_itinerary [] (on_day days n)))
    (fit : AllByRecursion IsFit parts)
  where
    abbrev own : ℕ → Fate
    own n = own_fate rows wanted n (on_day days n)

    abbrev legs : ℕ → Legs
    legs n = moved_legs rows wanted n (on_day days n)

    abbrev of_day : ℕ → Legs → List MovedFlight
    of_day n all = map (moved_flight rows wanted n) (alone same_itinerary [] all)

    last_by : (n : ℕ) (all : Legs) → last_fate Absent (of_day n all) ≡ own_fate rows wanted n all
    last_by n [] = refl
    last_by n (leg ∷ all) = refl

    last_is : (n : ℕ) → last_fate Absent (held_on parts n) ≡ own n
    last_is n = ap (last_fate Absent) (held n) ∙ last_by n (on_day days n)

    one_by : (s n : ℕ) (all : Legs)
        → is_one_kept s (of_day n all) ≡ is_kept_with s (own_fate rows wanted n all)
    one_by s n [] = refl
    one_by s n (leg ∷ all) = or_false (is_kept_with s (own_fate rows wanted n (leg ∷ all)))

    one_is : (s n : ℕ) → is_one_kept s (held_on parts n) ≡ is_kept_with s (own n)
    one_is s n = ap (is_one_kept s) (held n) ∙ one_by s n (on_day days n)

    first_by : (s n : ℕ) (all : Legs) → first_kept s (of_day n all)
        ≡ (if is_kept_with s (own_fate rows wanted n all) then moved_legs rows wanted n all else [])
    first_by s n [] = refl
    first_by s n (leg ∷ all) =
        or_none (legs_kept s (moved_flight rows wanted n (leg ∷ all)))
        ∙ kept_legs s (own_fate rows wanted n (leg ∷ all)) (moved_legs rows wanted n (leg ∷ all))

    first_is : (s n : ℕ)
        → first_kept s (held_on parts n) ≡ (if is_kept_with s (own n) then legs n else [])
    first_is s n = ap (first_kept s) (held n) ∙ first_by s n (on_day days n)

    short_by : (n : ℕ) (all : Legs) → AllByRecursion (λ moved. IsShort moved.fate) (of_day n all)
        → IsShort (own_fate rows wanted n all)
    short_by n [] a = λ shift e. absurd cc
    short_by n (leg ∷ all) a = a.0

    are : AreFates own
    are = record {
      short = λ n shift e. short_by n (on_day days n)
          (subst (AllByRecursion (λ moved. IsShort moved.fate)) (held n) (held_short parts n fit))
          shift e;
      within = λ n shift e. kept_inside rows wanted n shift (on_day days n) e;
      past = λ n late. ap (own_fate rows wanted n)
          (get_or_past days n [] (omega (arith, late, whole)));
    }

    -- ---- the new dates

    full : (n shift : ℕ) (others : Legs) → own n ≡ Kept shift → or_legs (legs n) others ≡ legs n
    full n shift others e = moved_full rows wanted n shift (on_day days n) others e

    legs_at-is : (s m : ℕ) → legs_at s parts m ≡ legs_with own are legs full s m
    legs_at-is s m =
        elim (nat_lt (m + 1) s) as (λ b. (if b then [] else first_kept s (held_on parts (m + 1 - s)))
        ≡ (if (if b then false else is_kept_with s (own (m + 1 - s)))
        then legs (m + 1 - s) else [])) [
          | true ↦ refl
          | false ↦ first_is s (m + 1 - s)
        ]

    -- the legs on a new date, put shift by shift
    pub days_are : (m : ℕ) → legs_put 0 parts m (legs_put 1 parts m (legs_put 2 parts m []))
        ≡ converted_on rows wanted days m
    days_are m =
        ap (λ (x : Legs). or_legs (or_legs x (legs_at 1 parts m)) (legs_at 0 parts m)) (legs_at-is 2 m)
        ∙ ap (λ (x : Legs). or_legs (or_legs (legs_with own are legs full 2 m) x) (legs_at 0 parts m))
        (legs_at-is 1 m)
        ∙ ap (or_legs (or_legs (legs_with own are legs full 2 m) (legs_with own are legs full 1 m)))
        (legs_at-is 0 m)
        ∙ ladder own are legs full m

    -- ---- what becomes of the dates

    behind_is : (s by n : ℕ)
        → came_from (λ k. is_one_kept s (held_on parts k)) by n ≡ behind own are s by n
    behind_is s by n =
        elim (nat_lt (n + 1) by) as (λ b. (if b then false else is_one_kept s
        (held_on parts (n + 1 - by))) ≡ (if b then false else is_kept_with s (own (n + 1 - by)))) [
          | true ↦ refl
          | false ↦ one_is s (n + 1 - by)
        ]

    among : (n : ℕ) (fate : Fate) → fate_of own are n fate ≡ fate_among rows wanted days n fate
    among n Absent = refl
    among n (Left reason) = refl
    among n (Kept shift) = refl

    pub fates_are : (n : ℕ) → fate_in parts n ≡ fate_on rows wanted days n
    fates_are n =
        ap (λ (f : Fate). fate_after 1 2 0 parts n (fate_after 2 3 0 parts n
        (fate_after 2 2 1 parts n f))) (last_is n)
        ∙ ap (λ (b : Bool). fate_after 1 2 0 parts n (fate_after 2 3 0 parts n
        (if b then left_if_kept 1 (own n) else own n))) (behind_is 2 2 n)
        ∙ ap (λ (b : Bool). let one = if behind own are 2 2 n then left_if_kept 1 (own n) else own n in
        fate_after 1 2 0 parts n (if b then left_if_kept 0 one else one)) (behind_is 2 3 n)
        ∙ ap (λ (b : Bool). let one = if behind own are 2 2 n then left_if_kept 1 (own n) else own n in
        let two = if behind own are 2 3 n then left_if_kept 0 one else one in
        if b then left_if_kept 0 two else two) (behind_is 1 2 n)
        ∙ marked_is own are n ∙ among n (own n)

-- what a date has after all three shifts were put
pub put_thrice : (parts : List MovedPiece) (m : ℕ) (before : Legs)
    → legs_put 0 parts m (legs_put 1 parts m (legs_put 2 parts m before))
    ≡ or_legs before (legs_put 0 parts m (legs_put 1 parts m (legs_put 2 parts m [])))
put_thrice parts m [] = refl
put_thrice parts m (leg ∷ before) = refl
