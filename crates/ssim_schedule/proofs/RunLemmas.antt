-- Runs: a wider run, and one more, put the legs of one more period.
use Rattle.std.proofs.Common.{◌≡◌, ◌⊎◌, ℕ, zero, suc, ◌+◌, Bool, true, false, ◌||◌, if◌then◌else◌, List, [], ◌∷◌, ◌++◌, drop, Contains, Some, slice_get, slice_set, inl, inr, refl, sym, ap, subst, ◌∙◌}
use Rattle.std.proofs.lemmas.List.Elements.{Contains-append_cases, Contains-append_left, Contains-append_right}
use Rattle.ssim_values.specs.Period.{DayRange}
use Rattle.ssim_periods.specs.Calendar.{holds}
use Rattle.ssim_periods.specs.clauses.Days.{AddsOnly, changed_by_each, ends_of}
use Rattle.ssim_periods.specs.Days.{changed_on}
use Rattle.ssim_periods.proofs.ApplyLemmas.{contains-cases, contains-head, contains-tail}
use Rattle.ssim_base.specs.Timetable.{Days, Legs}
use Rattle.ssim_schedule.specs.clauses.PlacedLegs.{placed_each}
use Rattle.ssim_schedule.specs.internal.Runs.{Run, is_run_on}

neither : (a b : Bool) → (a || b) ≡ false → (a ≡ false) × (b ≡ false)
neither true b h = absurd cc
neither false b h = (refl, h)

-- ---- days that are changed on two sets without a common day

one_day : (r p : Bool) (after : Legs → Legs) (old : Legs) → (p ≡ true → r ≡ false) → (if (r || p) then after old else old) ≡ (if p then after (if r then after old else old) else (if r then after old else old))
one_day true true after old apart = let no = apart refl in absurd cc
one_day true false after old apart = refl
one_day false true after old apart = refl
one_day false false after old apart = refl

-- one change of the days of both is a change of those of each
changed_joined : (both own more : ℕ → Bool) (after : Legs → Legs) → ((n : ℕ) → both n ≡ (own n || more n)) → ((n : ℕ) → more n ≡ true → own n ≡ false) → (n : ℕ) (days : Days)
    → changed_on both after n days ≡ changed_on more after n (changed_on own after n days)
changed_joined both own more after is apart n [] = refl
changed_joined both own more after is apart n (old ∷ days) =
    ap (λ (ds : Days). (if both n then after old else old) ∷ ds) (changed_joined both own more after is apart (n + 1) days)
    ∙ ap (λ (legs : Legs). legs ∷ changed_on more after (n + 1) (changed_on own after (n + 1) days)) (ap (λ b. if b then after old else old) (is n) ∙ one_day (own n) (more n) after old (apart n))

either_order : (r p : Bool) (after other : Legs → Legs) (old : Legs) → (p ≡ true → r ≡ false)
    → (if r then after (if p then other old else old) else (if p then other old else old)) ≡ (if p then other (if r then after old else old) else (if r then after old else old))
either_order true true after other old apart = let no = apart refl in absurd cc
either_order true false after other old apart = refl
either_order false true after other old apart = refl
either_order false false after other old apart = refl

-- the order of the two changes is of no effect
changed_apart : (own more : ℕ → Bool) (after other : Legs → Legs) → ((n : ℕ) → more n ≡ true → own n ≡ false) → (n : ℕ) (days : Days)
    → changed_on own after n (changed_on more other n days) ≡ changed_on more other n (changed_on own after n days)
changed_apart own more after other apart n [] = refl
changed_apart own more after other apart n (old ∷ days) =
    ap (λ (ds : Days). (if own n then after (if more n then other old else old) else (if more n then other old else old)) ∷ ds) (changed_apart own more after other apart (n + 1) days)
    ∙ ap (λ (legs : Legs). legs ∷ changed_on more other (n + 1) (changed_on own after (n + 1) days)) (either_order (own n) (more n) after other old (apart n))

-- ---- the itineraries

-- a change on days that no run has is made before the runs, or after them
passed_runs : (runs : List Run) (more : ℕ → Bool) (other : Legs → Legs) → ((n : ℕ) → more n ≡ true → is_run_on runs n ≡ false) → (days : Days)
    → changed_by_each placed_each runs (changed_on more other 0 days) ≡ changed_on more other 0 (changed_by_each placed_each runs days)
passed_runs [] more other free days = refl
passed_runs (run ∷ runs) more other free days =
    ap (changed_by_each placed_each runs) (changed_apart (holds run.0) more (placed_each run.1) other (λ n t. (neither (holds run.0 n) (is_run_on runs n) (free n t)).0) 0 days)
    ∙ passed_runs runs more other (λ n t. (neither (holds run.0 n) (is_run_on runs n) (free n t)).1) (changed_on (holds run.0) (placed_each run.1) 0 days)

pub runs-wider : (runs : List Run) (i : ℕ) (run new : Run) (period : DayRange) (legs : Legs) → slice_get runs i ≡ Some run → run.1 ≡ legs → new.1 ≡ legs
    → ((n : ℕ) → holds new.0 n ≡ (holds run.0 n || holds period n)) → ((n : ℕ) → holds period n ≡ true → is_run_on (drop i runs) n ≡ false) → (days : Days)
    → changed_by_each placed_each (slice_set runs i new) days ≡ changed_on (holds period) (placed_each legs) 0 (changed_by_each placed_each runs days)
runs-wider [] i run new period legs at its same is free days = absurd cc
runs-wider (first ∷ runs) zero run new period legs at its same is free days =
    let found : first ≡ run = cc in
    let own : first.1 ≡ legs = ap (λ (r : Run). r.1) found ∙ its in
    ap (λ (ls : Legs). changed_by_each placed_each runs (changed_on (holds new.0) (placed_each ls) 0 days)) same
    ∙ ap (changed_by_each placed_each runs) (changed_joined (holds new.0) (holds first.0) (holds period) (placed_each legs) (λ n. is n ∙ ap (λ (r : Run). holds r.0 n || holds period n) (sym found))
    (λ n t. (neither (holds first.0 n) (is_run_on runs n) (free n t)).0) 0 days)
    ∙ passed_runs runs (holds period) (placed_each legs) (λ n t. (neither (holds first.0 n) (is_run_on runs n) (free n t)).1) (changed_on (holds first.0) (placed_each legs) 0 days)
    ∙ ap (λ (ls : Legs). changed_on (holds period) (placed_each legs) 0 (changed_by_each placed_each runs (changed_on (holds first.0) (placed_each ls) 0 days))) (sym own)
runs-wider (first ∷ runs) (suc i) run new period legs at its same is free days =
    runs-wider runs i run new period legs at its same is free (changed_on (holds first.0) (placed_each first.1) 0 days)

-- ---- their ends

-- a list with two days before it
adds-two : (x y first end : ℕ) (old new : List ℕ) → AddsOnly old new first end → AddsOnly (x ∷ y ∷ old) (x ∷ y ∷ new) first end
adds-two x y first end old new adds cut has =
    elim (contains-cases x cut (y ∷ new) has) [
      | inl e ↦ inl (subst (λ (c : ℕ). Contains (x ∷ y ∷ old) c) (sym e) (contains-head x (y ∷ old)))
      | inr later ↦ elim (contains-cases y cut new later) [
        | inl e ↦ inl (contains-tail x cut (y ∷ old) (subst (λ (c : ℕ). Contains (y ∷ old) c) (sym e) (contains-head y old)))
        | inr rest ↦ elim (adds cut rest) [
          | inl kept ↦ inl (contains-tail x cut (y ∷ old) (contains-tail y cut old kept))
          | inr more ↦ inr more
        ]
      ]
    ]

-- the first and the second day of a list are old ones or new ones
replaced-two : (x y u v first end : ℕ) (rest : List ℕ) → (x ≡ u) ⊎ (x ≡ first) → (y ≡ v) ⊎ (y ≡ end) → AddsOnly (u ∷ v ∷ rest) (x ∷ y ∷ rest) first end
replaced-two x y u v first end rest one two cut has =
    elim (contains-cases x cut (y ∷ rest) has) [
      | inl e ↦ elim one [
        | inl same ↦ inl (subst (λ (c : ℕ). Contains (u ∷ v ∷ rest) c) (sym (e ∙ same)) (contains-head u (v ∷ rest)))
        | inr new ↦ inr (inl (e ∙ new))
      ]
      | inr later ↦ elim (contains-cases y cut rest later) [
        | inl e ↦ elim two [
          | inl same ↦ inl (contains-tail u cut (v ∷ rest) (subst (λ (c : ℕ). Contains (v ∷ rest) c) (sym (e ∙ same)) (contains-head v rest)))
          | inr new ↦ inr (inr (e ∙ new))
        ]
        | inr kept ↦ inl (contains-tail u cut (v ∷ rest) (contains-tail v cut rest kept))
      ]
    ]

next : (x y z : ℕ) → (x ≡ y) ⊎ (x ≡ z) → (x + 1 ≡ y + 1) ⊎ (x + 1 ≡ z + 1)
next x y z (inl e) = inl (ap (λ n. n + 1) e)
next x y z (inr e) = inr (ap (λ n. n + 1) e)

pub ends-wider : (runs : List Run) (i : ℕ) (run new : Run) (period : DayRange) → slice_get runs i ≡ Some run → (new.0.first ≡ run.0.first) ⊎ (new.0.first ≡ period.first)
    → (new.0.last ≡ run.0.last) ⊎ (new.0.last ≡ period.last) → AddsOnly (ends_of runs) (ends_of (slice_set runs i new)) period.first (period.last + 1)
ends-wider [] i run new period at first last = absurd cc
ends-wider (own ∷ runs) zero run new period at first last =
    let found : own ≡ run = cc in
    subst (λ (r : Run). AddsOnly (r.0.first ∷ (r.0.last + 1) ∷ ends_of runs) (new.0.first ∷ (new.0.last + 1) ∷ ends_of runs) period.first (period.last + 1)) (sym found)
    (replaced-two new.0.first (new.0.last + 1) run.0.first (run.0.last + 1) period.first (period.last + 1) (ends_of runs) first (next new.0.last run.0.last period.last last))
ends-wider (own ∷ runs) (suc i) run new period at first last =
    adds-two own.0.first (own.0.last + 1) period.first (period.last + 1) (ends_of runs) (ends_of (slice_set runs i new)) (ends-wider runs i run new period at first last)

pub ends-more : (runs : List Run) (run : Run) → AddsOnly (ends_of runs) (ends_of (runs ++ run ∷ [])) run.0.first (run.0.last + 1)
ends-more [] run cut has =
    elim (contains-cases run.0.first cut ((run.0.last + 1) ∷ []) has) [
      | inl e ↦ inr (inl e)
      | inr later ↦ elim (contains-cases (run.0.last + 1) cut [] later) [ inl e ↦ inr (inr e) | inr none ↦ inl none ]
    ]
ends-more (own ∷ runs) run cut has =
    adds-two own.0.first (own.0.last + 1) run.0.first (run.0.last + 1) (ends_of runs) (ends_of (runs ++ run ∷ [])) (ends-more runs run) cut has

-- the same with other cuts after the ends
pub adds-before : (old new cuts : List ℕ) (first end : ℕ) → AddsOnly old new first end → AddsOnly (old ++ cuts) (new ++ cuts) first end
adds-before old new cuts first end adds cut has =
    elim (Contains-append_cases new cuts cut has) [
      | inl one ↦ elim (adds cut one) [
        | inl kept ↦ inl (Contains-append_left old cuts cut kept)
        | inr more ↦ inr more
      ]
      | inr other ↦ inl (Contains-append_right old cuts cut other)
    ]

-- one more run, where the cuts before were old ones
pub adds-more : (old cuts : List ℕ) (runs items : List Run) (run : Run) → items ≡ runs ++ run ∷ [] → ((cut : ℕ) → Contains (ends_of runs ++ cuts) cut → Contains old cut)
    → AddsOnly old (ends_of items ++ cuts) run.0.first (run.0.last + 1)
adds-more old cuts runs items run pushed kept cut has =
    let there = subst (λ (rs : List Run). Contains (ends_of rs ++ cuts) cut) pushed has in
    elim (adds-before (ends_of runs) (ends_of (runs ++ run ∷ [])) cuts run.0.first (run.0.last + 1) (ends-more runs run) cut there) [
      | inl one ↦ inl (kept cut one)
      | inr more ↦ inr more
    ]
