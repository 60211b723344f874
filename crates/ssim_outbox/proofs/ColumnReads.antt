-- The values that are read of the columns of a leg or a tail are those of the line that it has.
use Rattle.std.proofs.Common.{◌≡◌, ◌≤◌, ◌+◌, ◌∙◌, ℕ, false, List, refl, sym, ap, subst, arith}
use Rattle.std.proofs.Common.{Option, Some, None, IfSome, IfNone, option_map}
use Rattle.std.specs.Prelude.{◌==◌}
use Rattle.std.specs.List.{list_all}
use Rattle.std.proofs.lemmas.Bool.Decides.{nat_tests}
use Rattle.ssim_values.specs.Clock.{clock_of, clock_text}
use Rattle.ssim_values.proofs.ClockLaws.{clock_of-clock_text}
use Rattle.ssim_columns.specs.Columns.{passenger_time_of}
use Rattle.ssim_columns.specs.Numbers.{is_blank}
use Rattle.ssim_text.proofs.LinesKept.{other}
use Rattle.ssim_text.proofs.Runs.{some_same}

pub time_is : (text : List ℕ) (time found : ℕ) → time ≤ 1440 → text ≡ clock_text time
    → clock_of text ≡ Some found → found ≡ time
time_is text time found h is read =
    some_same found time (sym read ∙ ap clock_of is ∙ clock_of-clock_text time h)

not_blank : (n : ℕ) → (48 + n == 32) ≡ false
not_blank n = grind (arith, nat_tests)

passenger_read : (time : ℕ) → time ≤ 1440 → passenger_time_of (clock_text time) ≡ Some (Some time)
unfolding passenger_time_of
passenger_read time h =
    let text = clock_text time in
    other (list_all is_blank text) (Some None) (option_map (λ t. Some t) (clock_of text)) (rw not_blank refl)
    ∙ ap (option_map (λ t. Some t)) (clock_of-clock_text time h)

pub passenger_is : (text : List ℕ) (time : ℕ) (found : Option ℕ) → time ≤ 1440
    → text ≡ clock_text time → passenger_time_of text ≡ Some found → found ≡ Some time
passenger_is text time found h is read =
    some_same found (Some time) (sym read ∙ ap passenger_time_of is ∙ passenger_read time h)

-- what is made of its parts, if it is made of those of a value that can be made
pub made_is : {X : Type 0} (P : X → Type 0) (made : Option X) (own x : X)
    → IfSome made (λ y. y ≡ own) → IfNone made (P own → ⊥) → own ≡ x → P x → made ≡ Some x
made_is P None own x value none same p = absurd (none (subst P (sym same) p))
made_is P (Some y) own x value none same p = ap Some (value ∙ same)
