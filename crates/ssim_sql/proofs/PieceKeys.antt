-- The pieces of a flight begin on different days.
use Rattle.std.proofs.Common.{◌≡◌, ◌≢◌, ◌∙◌, ◌≤◌, ◌<◌, ℕ, Bool, true, false, List, [], ◌∷◌, length}
use Rattle.std.proofs.Common.{map, ap, subst, arith}
use Rattle.std.proofs.Common.{if◌then◌else◌}
use Rattle.std.specs.List.{AllByRecursion as Each, flat_map}
use Rattle.ssim_values.specs.Period.{DayRange}
use Rattle.ssim_periods.specs.Calendar.{holds}
use Rattle.ssim_periods.specs.Pieces.{held_on}
use Rattle.ssim_base.proofs.Each.{each-any}
use Rattle.ssim_sql.specs.Keys.{AreDistinct}
use Rattle.ssim_sql.proofs.Distinct.{distinct-groups}

-- a piece holds its first day, which is below the end
abbrev pub Begins : {V : Type 0} → ℕ → DayRange × V → Type 0
Begins end piece = (piece.0.first < end) × (holds piece.0 piece.0.first ≡ true)

-- no day is held by two pieces
abbrev pub AreOnce : {V : Type 0} → List (DayRange × V) → Type 0
AreOnce ps = (n : ℕ) → length (held_on ps n) ≤ 1

held_first : {V : Type 0} (p : DayRange × V) (ps : List (DayRange × V)) (n : ℕ) → holds p.0 n ≡ true
    → held_on (p ∷ ps) n ≡ p.1 ∷ held_on ps n
held_first p ps n h = ap (λ (b : Bool). if b then p.1 ∷ held_on ps n else held_on ps n) h

held_fewer : {V : Type 0} (p : DayRange × V) (ps : List (DayRange × V)) (n : ℕ)
    → length (held_on ps n) ≤ length (held_on (p ∷ ps) n)
held_fewer p ps n =
    elim (holds p.0 n) as (λ (b : Bool). length (held_on ps n)
    ≤ length (if b then p.1 ∷ held_on ps n else held_on ps n)) [
      | true ↦ omega arith
      | false ↦ omega arith
    ]

-- pieces of which none holds a day do not begin on it
none_begins : {V : Type 0} (end n : ℕ) (ps : List (DayRange × V)) → length (held_on ps n) ≤ 0
    → Each (Begins end) ps → Each (λ (first : ℕ). n ≢ first) (map (λ p. p.0.first) ps)
none_begins end n [] none begin = tt
none_begins {V} end n (p ∷ ps) none begin = (
  λ e.
      let here : holds p.0 n ≡ true = ap (holds p.0) e ∙ begin.0.1 in
      let some : length (held_on (p ∷ ps) n) ≡ length (p.1 ∷ held_on ps n) =
      ap (λ (vs : List V). length vs) (held_first p ps n here) in
      omega (arith, some, none),
  none_begins end n ps (let fewer = held_fewer p ps n in omega (arith, fewer, none)) begin.1,
)

-- pieces of which no two hold one day begin on different days
pub firsts_differ : {V : Type 0} (end : ℕ) (ps : List (DayRange × V)) → AreOnce ps
    → Each (Begins end) ps → AreDistinct (map (λ p. p.0.first) ps)
firsts_differ end [] once begin = tt
firsts_differ {V} end (p ∷ ps) once begin =
    let n = p.0.first in
    let some : length (held_on (p ∷ ps) n) ≡ length (p.1 ∷ held_on ps n) =
    ap (λ (vs : List V). length vs) (held_first p ps n begin.0.1) in
    let one = once n in (
      none_begins end n ps (omega (arith, some, one)) begin.1,
      firsts_differ end ps
          (λ m. let fewer = held_fewer p ps m in let one = once m in omega (arith, fewer, one))
          begin.1,
    )

each_rest : {V : Type 0} (P : V → Type 0) (p : DayRange × V) (ps : List (DayRange × V)) (n : ℕ)
    → Each P (held_on (p ∷ ps) n) → Each P (held_on ps n)
each_rest P p ps n = by (holds p.0 n)
  where
    by : (b : Bool) → Each P (if b then p.1 ∷ held_on ps n else held_on ps n) → Each P (held_on ps n)
    by true h = h.1
    by false h = h

-- what is true of the values of each day is true of the value of each piece
pub each_value : {V : Type 0} (end : ℕ) (P : V → Type 0) (ps : List (DayRange × V))
    → ((n : ℕ) → n < end → Each P (held_on ps n)) → Each (Begins end) ps → Each (λ p. P p.1) ps
each_value end P [] held begin = tt
each_value end P (p ∷ ps) held begin = (
  (subst (λ vs. Each P vs) (held_first p ps p.0.first begin.0.1) (held p.0.first begin.0.0)).0,
  each_value end P ps (λ n less. each_rest P p ps n (held n less)) begin.1,
)

each-weaker : {X : Type 0} (P Q : X → Type 0) (xs : List X) → ((x : X) → P x → Q x) → Each P xs
    → Each Q xs
each-weaker P Q [] weaker each = tt
each-weaker P Q (x ∷ xs) weaker each = (weaker x each.0, each-weaker P Q xs weaker each.1)

-- The keys of pieces are distinct if those of each piece are, and each has the first day of its
-- piece.
pub pieces_distinct : {V K : Type 0} (end : ℕ) (P : V → Type 0) (keys : DayRange × V → List K)
    (first : K → ℕ) (ps : List (DayRange × V)) → AreOnce ps → Each (Begins end) ps
    → ((n : ℕ) → n < end → Each P (held_on ps n))
    → ((p : DayRange × V) → P p.1 → AreDistinct (keys p))
    → ((p : DayRange × V) → Each (λ k. first k ≡ p.0.first) (keys p))
    → AreDistinct (flat_map keys ps)
pieces_distinct end P keys first ps once begin held own named =
    distinct-groups keys first (λ p. p.0.first) ps
    (each-weaker (λ p. P p.1) (λ p. AreDistinct (keys p)) ps own (each_value end P ps held begin))
    (each-any (λ p. Each (λ k. first k ≡ p.0.first) (keys p)) ps named)
    (firsts_differ end ps once begin)
