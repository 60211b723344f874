-- Each change has one kind, and the kinds of changes that are turned round.
use Rattle.std.proofs.Common.{◌≡◌, ◌∙◌, ℕ, Bool, true, false, not, ◌&&◌, nat_eq, if◌then◌else◌}
use Rattle.std.proofs.Common.{List, [], ◌∷◌, refl, sym, ap₂}
use Rattle.std.specs.List.{count_by}
use Rattle.std.specs.Str.{bytes_eq}
use Rattle.std.proofs.lemmas.Slice.Eq.{bytes_eq-Decides}
use Rattle.ssim_columns.specs.Leg.{leg_columns}
use Rattle.ssim_base.specs.Timetable.{Legs, on_day}
use Rattle.ssim_parts.proofs.Booleans.{both_ways}
use Rattle.ssim_difference.specs.Differences.{differs_on}
use Rattle.ssim_difference.specs.Kinds.{KindsAreAll, TurnedKinds, all_kinds, changed_kind, each_alike}
use Rattle.ssim_difference.specs.Kinds.{kind_of, kind_place, same_columns, same_equipment}
use Rattle.ssim_difference.specs.Kinds.{same_stations, same_times, turned}
use Rattle.ssim_difference.specs.declared.change_kind.ChangeKind.{ChangeKind}
use Rattle.ssim_difference.specs.declared.change_kind.ChangeKind.TheVariants.{Added, Cancelled}
use Rattle.ssim_difference.specs.declared.change_kind.ChangeKind.TheVariants.{Equipment, Other}
use Rattle.ssim_difference.specs.declared.change_kind.ChangeKind.TheVariants.{Rerouted, Retimed}

-- ---- one kind

one_kind : (b : Bool) (k : ChangeKind)
    → count_by (λ kind. b && nat_eq (kind_place k) (kind_place kind)) all_kinds
    ≡ (if b then 1 else 0)
one_kind false k = refl
one_kind true Added = refl
one_kind true Cancelled = refl
one_kind true Rerouted = refl
one_kind true Retimed = refl
one_kind true Equipment = refl
one_kind true Other = refl

pub kinds_are_all : KindsAreAll
kinds_are_all old new n = one_kind (differs_on old new n) (kind_of (on_day old n) (on_day new n))

-- ---- turned round

bytes_turned : (x y : List ℕ) → bytes_eq x y ≡ bytes_eq y x
bytes_turned x y =
    both_ways (bytes_eq x y) (bytes_eq y x)
    (λ e. (bytes_eq-Decides y x).1 (sym ((bytes_eq-Decides x y).0 e)))
    (λ e. (bytes_eq-Decides x y).1 (sym ((bytes_eq-Decides y x).0 e)))

columns_turned : (first last : ℕ) (old new : List ℕ)
    → same_columns first last old new ≡ same_columns first last new old
columns_turned first last old new =
    bytes_turned (leg_columns first last old) (leg_columns first last new)

stations_turned : (old new : List ℕ) → same_stations old new ≡ same_stations new old
unfolding same_stations
stations_turned old new =
    ap₂ (λ (a b : Bool). a && b) (columns_turned 37 39 old new) (columns_turned 55 57 old new)

times_turned : (old new : List ℕ) → same_times old new ≡ same_times new old
unfolding same_times
times_turned old new =
    ap₂ (λ (x y : Bool). x && y)
    (ap₂ (λ (x y : Bool). x && y)
    (ap₂ (λ (x y : Bool). x && y)
    (ap₂ (λ (x y : Bool). x && y) (columns_turned 40 43 old new) (columns_turned 44 47 old new))
    (columns_turned 58 61 old new)) (columns_turned 62 65 old new))
    (columns_turned 193 194 old new)

equipment_turned : (old new : List ℕ) → same_equipment old new ≡ same_equipment new old
unfolding same_equipment
equipment_turned old new =
    ap₂ (λ (x y : Bool). x && y)
    (ap₂ (λ (x y : Bool). x && y)
    (ap₂ (λ (x y : Bool). x && y) (columns_turned 14 14 old new) (columns_turned 73 75 old new))
    (columns_turned 76 95 old new)) (columns_turned 173 192 old new)

legs_turned : (alike : List ℕ → List ℕ → Bool) → ((x y : List ℕ) → alike x y ≡ alike y x)
    → (old new : Legs) → each_alike alike old new ≡ each_alike alike new old
legs_turned alike same [] [] = refl
legs_turned alike same [] (new ∷ news) = refl
legs_turned alike same (old ∷ olds) [] = refl
legs_turned alike same (old ∷ olds) (new ∷ news) =
    ap₂ (λ (x y : Bool). x && y) (same old.columns new.columns) (legs_turned alike same olds news)

-- the kind by the three tests
abbrev by_tests : Bool → Bool → Bool → ChangeKind
by_tests stations times equipment =
    if not stations then Rerouted else if not times then Retimed
    else if not equipment then Equipment else Other

no_turn : (stations times equipment : Bool)
    → by_tests stations times equipment ≡ turned (by_tests stations times equipment)
no_turn false times equipment = refl
no_turn true false equipment = refl
no_turn true true false = refl
no_turn true true true = refl

changed_turned : (old new : Legs) → changed_kind new old ≡ turned (changed_kind old new)
changed_turned old new =
    (λ i. by_tests (legs_turned same_stations stations_turned new old i)
    (legs_turned same_times times_turned new old i)
    (legs_turned same_equipment equipment_turned new old i))
    ∙ no_turn (each_alike same_stations old new) (each_alike same_times old new)
    (each_alike same_equipment old new)

pub turned_kinds : TurnedKinds
turned_kinds [] [] e = absurd cc
turned_kinds [] (new ∷ news) e = refl
turned_kinds (old ∷ olds) [] e = refl
turned_kinds (old ∷ olds) (new ∷ news) e = changed_turned (old ∷ olds) (new ∷ news)
