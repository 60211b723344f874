-- Lists of periods with the days of a value.
use Rattle.std.proofs.Common.{◌≡◌, ℕ, zero, suc, ◌+◌, ◌<◌, Bool, true, false, ◌||◌, if◌then◌else◌, List, [], ◌∷◌, ◌++◌, length, take, slice_index_or, slice_set, refl, ap, sym, ◌∙◌, arith}
use Rattle.std.specs.List.{list_any}
use Rattle.std.proofs.lemmas.List.{take_more}
use Rattle.std.specs.List.Sorted.{IsPermutation}
use Rattle.std.proofs.lemmas.List.Sorted.{list_any-IsPermutation}
use Rattle.ssim_values.specs.Period.{DayRange}
use Rattle.ssim_periods.specs.Calendar.{holds}
use Rattle.ssim_periods.specs.internal.Apart.{is_held, given_on, mark_on}
use Rattle.ssim_periods.specs.Days.{each_day, changed_on}
use Rattle.ssim_periods.specs.Pieces.{held_on}
use Rattle.ssim_periods.proofs.DayLemmas.{each_day-same, changed_on-each_day}

or-first : (a b c : Bool) → ((a || b) || c) ≡ (b || (a || c))
or-first true true c = refl
or-first true false c = refl
or-first false b c = refl

or-second : (a b c : Bool) → (a || (b || c)) ≡ (b || (a || c))
or-second true true c = refl
or-second true false c = refl
or-second false b c = refl

-- ---- a list of periods

pub held-set : (ps : List DayRange) (i : ℕ) (r p d : DayRange) (n : ℕ) → i < length ps → holds r n ≡ (holds (slice_index_or ps i d) n || holds p n) → is_held (slice_set ps i r) n ≡ (holds p n || is_held ps n)
held-set [] i r p d n l is = absurd (omega arith)
held-set (x ∷ ps) zero r p d n l is = ap (λ b. b || is_held ps n) is ∙ or-first (holds x n) (holds p n) (is_held ps n)
held-set (x ∷ ps) (suc i) r p d n l is = ap (λ b. holds x n || b) (held-set ps i r p d n (omega arith) is) ∙ or-second (holds x n) (holds p n) (is_held ps n)

pub held-push : (ps : List DayRange) (p : DayRange) (n : ℕ) → is_held (ps ++ p ∷ []) n ≡ (holds p n || is_held ps n)
held-push [] p n = refl
held-push (x ∷ ps) p n = ap (λ b. holds x n || b) (held-push ps p n) ∙ or-second (holds x n) (holds p n) (is_held ps n)

-- the periods in another order
pub held-moved : (ps qs read : List DayRange) (n : ℕ) → IsPermutation ps qs → read ≡ qs → is_held read n ≡ is_held ps n
held-moved ps qs read n moved is = ap (λ rs. is_held rs n) is ∙ sym (list_any-IsPermutation (λ p. holds p n) ps qs moved)

-- marks on the days of one more period
pub marks-more : (ps : List DayRange) (i : ℕ) (p : DayRange) (old new : List ℕ) → i < length ps → p ≡ slice_index_or ps i p → old ≡ each_day (mark_on (take i ps)) → new ≡ changed_on (holds p) (λ _. 1) 0 old → new ≡ each_day (mark_on (take (i + 1) ps))
marks-more ps i p old new lt is was put =
    put ∙ ap (changed_on (holds p) (λ _. 1) 0) was ∙ changed_on-each_day (holds p) (λ _. 1) (mark_on (take i ps))
    ∙ each_day-same (λ n. if holds p n then 1 else mark_on (take i ps) n) (mark_on (take (i + 1) ps)) (λ n l. by (holds p n) (is_held (take i ps) n) ∙ sym (ap mark (more n)))
  where
    mark : Bool → ℕ
    mark b = if b then 1 else 0

    by : (a b : Bool) → (if a then 1 else mark b) ≡ mark (a || b)
    by true b = refl
    by false b = refl

    more : (n : ℕ) → is_held (take (i + 1) ps) n ≡ (holds p n || is_held (take i ps) n)
    more n = ap (λ qs. is_held qs n) (take_more ps i p lt ∙ ap (λ q. take i ps ++ q ∷ []) (sym is)) ∙ held-push (take i ps) p n

-- one more period with the value, and one without it
pub held-same : {V : Type 0} (alike : V → V → Bool) (x : DayRange × V) (xs : List (DayRange × V)) (v : V) (n : ℕ) (old new : Bool) → alike v x.1 ≡ true → old ≡ given_on alike xs v n → new ≡ (holds x.0 n || old) → new ≡ given_on alike (x ∷ xs) v n
held-same {V} alike x xs v n old new same was is = is ∙ ap (λ b. holds x.0 n || b) was ∙ by (holds x.0 n)
  where
    by : (b : Bool) → (b || given_on alike xs v n) ≡ list_any (alike v) (if b then x.1 ∷ held_on xs n else held_on xs n)
    by true = sym (ap (λ c. c || given_on alike xs v n) same)
    by false = refl

pub held-other : {V : Type 0} (alike : V → V → Bool) (x : DayRange × V) (xs : List (DayRange × V)) (v : V) (n : ℕ) → alike v x.1 ≡ false → given_on alike xs v n ≡ given_on alike (x ∷ xs) v n
held-other {V} alike x xs v n other = by (holds x.0 n)
  where
    by : (b : Bool) → given_on alike xs v n ≡ list_any (alike v) (if b then x.1 ∷ held_on xs n else held_on xs n)
    by true = sym (ap (λ c. c || given_on alike xs v n) other)
    by false = refl

pub single : {X : Type 0} (xs : List X) (x : X) → length xs ≡ 1 → x ≡ slice_index_or xs 0 x → xs ≡ x ∷ []
single [] x l is = absurd (omega arith)
single (y ∷ []) x l is = ap (λ z. z ∷ []) (sym is)
single (y ∷ z ∷ xs) x l is = absurd (omega arith)
