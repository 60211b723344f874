-- Legs placed together are legs placed one after another, the last first: each comes before the
-- first leg whose sequence is not lower.
use Rattle.std.proofs.Common.{◌≡◌, ◌≤◌, ℕ, suc, ◌+◌, Bool, true, false, nat_lt, if◌then◌else◌}
use Rattle.std.proofs.Common.{[], ◌∷◌, ◌++◌, take, drop, refl, sym, ap, ◌∙◌, arith}
use Rattle.std.proofs.lemmas.Bool.Decides.{nat_tests}
use Rattle.ssim_schedule.specs.internal.LegGroup.{StartsFrom}
use Rattle.ssim_schedule.specs.clauses.PlacedLegs.{legs_before, placed_each}
use Rattle.ssim_base.specs.Timetable.{LegValue, Legs, placed}

-- no others
pub placed_alone : (legs : Legs) → placed_each legs [] ≡ legs
placed_alone [] = refl
placed_alone (l ∷ legs) = ap (λ (ls : Legs). l ∷ ls) (placed_alone legs)

first_placed : (l : LegValue) (legs : Legs) → StartsFrom l.sequence legs → placed l legs ≡ l ∷ legs
first_placed l [] starts = refl
first_placed l (m ∷ legs) starts =
    let not_before : nat_lt m.sequence l.sequence ≡ false = grind (arith, nat_tests, starts) in
    ap (λ b. if b then m ∷ placed l legs else l ∷ m ∷ legs) not_before

-- the legs of both lists start as high as each list does
starts_each : (n : ℕ) (legs others : Legs) → StartsFrom n legs → StartsFrom n others
    → StartsFrom n (placed_each legs others)
starts_each n [] others starts also = also
starts_each n (l ∷ legs) [] starts also = starts
starts_each n (l ∷ legs) (m ∷ others) starts also = by (nat_lt m.sequence l.sequence)
  where
    count : ℕ
    count = legs_before l.sequence others

    split : ℕ → Legs
    split k = take k (m ∷ others) ++ l ∷ placed_each legs (drop k (m ∷ others))

    by : (b : Bool) → StartsFrom n (split (if b then count + 1 else 0))
    by true = let more : count + 1 ≡ suc count = omega arith in rw more also
    by false = starts

-- a leg before all of the list stays where it is
passed : (m : LegValue) (legs others : Legs) → StartsFrom (m.sequence + 1) legs
    → placed_each legs (m ∷ others) ≡ m ∷ placed_each legs others
passed m [] others starts = refl
passed m (l ∷ legs) others starts =
    let before : nat_lt m.sequence l.sequence ≡ true = grind (arith, nat_tests, starts) in
    let count = legs_before l.sequence others in
    let more : count + 1 ≡ suc count = omega arith in
    let split : ℕ → Legs = λ n. take n (m ∷ others) ++ l ∷ placed_each legs (drop n (m ∷ others)) in
    ap (λ b. split (if b then count + 1 else 0)) before ∙ ap split more

starts_later : (m n : ℕ) (legs : Legs) → m + 1 ≤ n → StartsFrom n legs → StartsFrom (m + 1) legs
starts_later m n [] le starts = tt
starts_later m n (l ∷ legs) le starts = omega (arith, le, starts)

-- one more leg before those of a list is placed after them
pub placed_more : (l : LegValue) (legs others : Legs) → StartsFrom l.sequence legs
    → placed_each (l ∷ legs) others ≡ placed l (placed_each legs others)
placed_more l legs [] starts =
    ap (λ (ls : Legs). l ∷ ls) (placed_alone legs)
    ∙ sym (ap (placed l) (placed_alone legs) ∙ first_placed l legs starts)
placed_more l legs (m ∷ others) starts =
    by (nat_lt m.sequence l.sequence) refl (placed_more l legs others starts)
  where
    count : ℕ
    count = legs_before l.sequence others

    split : ℕ → Legs
    split n = take n (m ∷ others) ++ l ∷ placed_each legs (drop n (m ∷ others))

    by : (b : Bool) → nat_lt m.sequence l.sequence ≡ b
        → placed_each (l ∷ legs) others ≡ placed l (placed_each legs others)
        → split (if b then count + 1 else 0) ≡ placed l (placed_each legs (m ∷ others))
    by true e ih =
        let more : count + 1 ≡ suc count = omega arith in
        let later : m.sequence + 1 ≤ l.sequence = grind (arith, nat_tests, e) in
        let its = passed m legs others (starts_later m.sequence l.sequence legs later starts) in
        let rest = placed_each legs others in
        ap split more
        ∙ ap (λ (ls : Legs). m ∷ ls) ih
        ∙ ap (λ b. if b then m ∷ placed l rest else l ∷ m ∷ rest) (sym e)
        ∙ ap (placed l) (sym its)
    by false e ih =
        let not_before : l.sequence ≤ m.sequence = grind (arith, nat_tests, e) in
        let all = placed_each legs (m ∷ others) in
        sym (first_placed l all (starts_each l.sequence legs (m ∷ others) starts not_before))
