-- The UTC variation in columns of a leg, if they are not blank.
use Rattle.std.proofs.Common.{◌≡◌, ◌∙◌, ℕ, Bool, true, false, ◌&&◌, ◌==◌, if◌then◌else◌, List, [], ◌∷◌}
use Rattle.std.proofs.Common.{Option, None, Some, refl, sym, ap, ap₂, arith, ◌++◌, slice_index}
use Rattle.std.proofs.lemmas.List.{map-append}
use Rattle.std.specs.List.{list_all}
use Rattle.std.specs.Option.{option_map}
use Rattle.std.proofs.lemmas.Bool.Decides.{nat_tests}
use Rattle.ssim_values.specs.Variation.{Offset, signed, variation_of}
use Rattle.ssim_values.specs.Clock.{hours_and_minutes}
use Rattle.ssim_columns.specs.Columns.{utc_variation_of}
use Rattle.ssim_values.specs.Period.{DayRange}
use Rattle.ssim_records.specs.Leg.{leg_columns}
use Rattle.ssim_base.specs.Timetable.{LegValue}
use Rattle.ssim_overview.specs.SaidRows.{end_says}
use Rattle.ssim_overview.specs.internal.SaidRows.{dated, leg_says_on}
use Rattle.ssim_overview.specs.declared.sayings.Saying.{Saying}
use Rattle.ssim_columns.specs.Numbers.{is_blank}

abbrev within : {A : Type 0} → A → Option A → A
within d None = d
within d (Some x) = x

blank_says : (text : List ℕ) → list_all is_blank text ≡ true → variation_of text ≡ None
unfolding variation_of
blank_says [] h = refl
blank_says (sign ∷ clock) h = by (sign == 43) (sign == 45) refl refl
  where
    is_first : (a b : Bool) → (a && b) ≡ true → a ≡ true
    is_first true b t = refl
    is_first false b t = absurd cc

    blank : sign ≡ 32
    blank = let e = is_first (is_blank sign) (list_all is_blank clock) h in grind (arith, nat_tests)

    by : (a b : Bool) → (sign == 43) ≡ a → (sign == 45) ≡ b
        → (if a then signed false (hours_and_minutes 900 clock)
        else (if b then signed true (hours_and_minutes 900 clock) else None)) ≡ None
    by true b e f = absurd (let s = blank in grind (arith, nat_tests))
    by false true e f = absurd (let s = blank in grind (arith, nat_tests))
    by false false e f = refl

-- columns that are read
pub variation_read : (text : List ℕ) (v : Option Offset) → utc_variation_of text ≡ Some v
    → variation_of text ≡ v
unfolding utc_variation_of
variation_read text v h = by (list_all is_blank text) refl (variation_of text) refl h
  where
    by : (b : Bool) → list_all is_blank text ≡ b → (w : Option Offset) → variation_of text ≡ w
        → (if b then Some None else option_map (λ u. Some u) w) ≡ Some v → variation_of text ≡ v
    by true e w f t = blank_says text e ∙ ap (within None) t
    by false e None f t = absurd cc
    by false e (Some u) f t = f ∙ ap (within None) t

-- what a leg says by the values of its columns
pub ends_are : (period : DayRange) (leg : LegValue) (columns date_variations from to : List ℕ)
    (left right : Option Offset) → columns ≡ leg.columns
    → date_variations ≡ leg_columns 193 194 columns
    → from ≡ leg_columns 37 39 columns → to ≡ leg_columns 55 57 columns
    → utc_variation_of (leg_columns 48 52 columns) ≡ Some left
    → utc_variation_of (leg_columns 66 70 columns) ≡ Some right
    → dated period (end_says from left (slice_index date_variations 0))
    ++ dated period (end_says to right (slice_index date_variations 1))
    ≡ leg_says_on period leg
ends_are period leg columns date_variations from to left right are ks a b l r =
    sym (map-append (λ saying. (period, saying)) (end_says from left (slice_index date_variations 0))
    (end_says to right (slice_index date_variations 1)))
    ∙ ap (dated period) (ap₂ (λ (x y : List Saying). x ++ y)
    (λ i. end_says ((a ∙ ap (leg_columns 37 39) are) i) (value 48 52 left l i) (slice_index (both i) 0))
    (λ i. end_says ((b ∙ ap (leg_columns 55 57) are) i) (value 66 70 right r i) (slice_index (both i) 1)))
  where
    both : date_variations ≡ leg_columns 193 194 leg.columns
    both = ks ∙ ap (leg_columns 193 194) are

    value : (m n : ℕ) (v : Option Offset) → utc_variation_of (leg_columns m n columns) ≡ Some v
        → v ≡ variation_of (leg_columns m n leg.columns)
    value m n v is =
        sym (variation_read (leg_columns m n columns) v is) ∙ ap (λ (c : List ℕ). variation_of (leg_columns m n c)) are
