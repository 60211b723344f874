-- The flights that have an entry; no other flies on any day.
use Rattle.std.proofs.Common.{◌≡◌, ℕ, ◌+◌, ◌<◌, Bool, true, false, ◌||◌, nat_eq, if◌then◌else◌, List}
use Rattle.std.proofs.Common.{[], ◌∷◌, ◌++◌, length, map, take, get_or, Result, Ok, Err, IfOk, refl}
use Rattle.std.proofs.Common.{sym, ap, subst, append-nil, append_assoc, ◌∙◌, arith}
use Rattle.std.specs.List.{All, AllByRecursion as Each}
use Rattle.std.proofs.lemmas.Bool.Decides.{nat_tests}
use Rattle.std.proofs.lemmas.List.{map_more, take_more}
use Rattle.std.proofs.lemmas.List.Elements.{recursion_from_All}
use Rattle.ssim_values.specs.Flight.{FlightNumber, IsFlight}
use Rattle.ssim_periods.specs.Days.{each_day}
use Rattle.ssim_base.specs.ReadBack.{place_of}
use Rattle.ssim_base.specs.Timetable.{is_among, same_flight}
use Rattle.ssim_base.proofs.Places.{same_flight-place}
use Rattle.ssim_schedule.specs.internal.Blocks.{all_entries}
use Rattle.ssim_schedule.specs.internal.Table.{Table, table_days}
use Rattle.ssim_schedule.specs.declared.timetable.flight_table.FlightPeriods.{FlightPeriods}

-- the flights of some entries
abbrev pub named : Table → List FlightNumber
named = map (λ f. f.flight)

-- ---- one after another

-- the flight of one more entry
pub entry_named : (before now next : List FlightNumber) (es : Table) (i : ℕ) (e : FlightPeriods)
    → i < length es → e ≡ get_or es i e → next ≡ now ++ e.flight ∷ []
    → now ≡ before ++ named (take i es) → next ≡ before ++ named (take (i + 1) es)
entry_named before now next es i e within is push was =
    push
    ∙ ap (λ (xs : List FlightNumber). xs ++ e.flight ∷ []) was
    ∙ append_assoc before (named (take i es)) (e.flight ∷ [])
    ∙ ap (λ (f : FlightPeriods). before ++ (named (take i es) ++ f.flight ∷ [])) is
    ∙ ap (λ (xs : List FlightNumber). before ++ xs) (sym (map_more (λ f. f.flight) es i e within))

named_both : (xs ys : Table) → named (xs ++ ys) ≡ named xs ++ named ys
named_both [] ys = refl
named_both (x ∷ xs) ys = ap (λ (fs : List FlightNumber). x.flight ∷ fs) (named_both xs ys)

entries_last : (bs : List Table) (b : Table) → all_entries (bs ++ b ∷ []) ≡ all_entries bs ++ b
entries_last [] b = append-nil b
entries_last (x ∷ bs) b =
    ap (λ (t : Table). x ++ t) (entries_last bs b) ∙ sym (append_assoc x (all_entries bs) b)

-- the flights of one more block
pub block_named : (now next : List FlightNumber) (bs : List Table) (i : ℕ) (b : Table)
    → i < length bs → b ≡ get_or bs i b → next ≡ now ++ named b
    → now ≡ named (all_entries (take i bs)) → next ≡ named (all_entries (take (i + 1) bs))
block_named now next bs i b within is push was =
    push
    ∙ ap (λ (xs : List FlightNumber). xs ++ named b) was
    ∙ sym (named_both (all_entries (take i bs)) b)
    ∙ ap named (ap (λ (t : Table). all_entries (take i bs) ++ t) is
    ∙ sym (entries_last (take i bs) (get_or bs i b))
    ∙ ap all_entries (sym (take_more bs i b within)))

-- ---- the others

without : (table : Table) (g : FlightNumber) → IsFlight g → Each IsFlight (named table)
    → is_among (named table) g ≡ false → table_days table g ≡ each_day (λ _. [])
without [] g is each none = refl
without (f ∷ table) g is each none =
    by (same_flight g f.flight) (nat_eq (place_of f.flight) (place_of g)) refl refl
    (without table g is each.1) none
  where
    by : (b d : Bool) → same_flight g f.flight ≡ b → nat_eq (place_of f.flight) (place_of g) ≡ d
        → (is_among (named table) g ≡ false → table_days table g ≡ each_day (λ _. []))
        → (b || is_among (named table) g) ≡ false
        → (if d then f.periods.days else table_days table g) ≡ each_day (λ _. [])
    by true d e k more h = absurd cc
    by false false e k more h = more h
    by false true e k more h =
        let there : nat_eq (place_of g) (place_of f.flight) ≡ true = grind (arith, nat_tests) in
        let same : same_flight g f.flight ≡ true =
        same_flight-place g f.flight is each.0 ∙ there in
        absurd cc

-- a flight that is not among those of the entries flies on no day
pub flies_not : (table : Table) (flights : List FlightNumber) → flights ≡ named table
    → All IsFlight flights → (g : FlightNumber) → IsFlight g → is_among flights g ≡ false
    → table_days table g ≡ each_day (λ _. [])
flies_not table flights are exist g is none =
    without table g is
    (recursion_from_All IsFlight (named table)
    (subst (λ (fs : List FlightNumber). All IsFlight fs) are exist))
    (ap (λ (fs : List FlightNumber). is_among fs g) (sym are) ∙ none)

-- a fact of a result from a fact of it
pub if_ok : {A E : Type 0} {P Q R : A → Type 0} (r : Result A E) → ((x : A) → P x → Q x → R x)
    → IfOk r P → IfOk r Q → IfOk r R
if_ok (Ok x) f p q = f x p q
if_ok (Err e) f p q = p
