-- What a script that is read says of its lines, and of its steps with their texts; and desks that
-- hold nothing.
use Rattle.std.proofs.Common.{◌≡◌, ◌+◌, ◌++◌, ◌<◌, inl, inr, ℕ, zero, suc, List, [], ◌∷◌, All, get_or, length, map, take, Option, Some, refl, sym, ap, subst, arith}
use Rattle.ssim_text.specs.Left.{lines_left}
use Rattle.ssim_held.specs.Entries.{DeskSeen, state_of}
use Rattle.ssim_desk.specs.Steps.{IsInRange}
use Rattle.ssim_desk.specs.declared.steps.Step.{Step}
use Rattle.ssim_desk.specs.declared.steps.Step.TheVariants.{Take, Merge}
use Rattle.ssim_program.specs.Files.{Files}
use Rattle.ssim_program.specs.rehearse.Rehearsal.{AreLoaded, IsLoaded, RefusesStep, RefusesStepTexts, fresh}
use Rattle.ssim_program.specs.rehearse.Script.{RefusesScript, Written, Takes, Merges, count_in}
use Rattle.ssim_program.specs.internal.Rehearse.{IsOtherLine, IsStepOf}
use Rattle.ssim_program.specs.declared.refusal.Refusal.{Refusal}
use Rattle.ssim_program.proofs.Rehearsing.{loaded_next, refuses_next}

-- the first line is DESKS n, and another spells no step
pub refuses_script : {X : Type 0} (f : X → ℕ × List ℕ) (text : List ℕ) (first : X) (others : List X)
    (count : ℕ) (refusal : Refusal) → lines_left text ≡ f first ∷ map f others
    → count_in (f first).1 ≡ Some count → IsOtherLine count (map f others) refusal
    → RefusesScript text refusal
refuses_script f text first others count refusal lines counts (inl memory) = inl memory
refuses_script f text first others count refusal lines counts (inr other) =
    inr (other.0, other.1, inr (f first, map f others, lines, inr (count, counts, other.2)))

one_in_range : (files : Option Files) (count : ℕ) (w : Written) (s : Step) → IsLoaded files w s
    → IsStepOf count w → IsInRange count s
one_in_range files count (Takes desk name) (Take d text) is below =
    subst (λ n. n < count) (sym is.0) below
one_in_range files count (Takes desk name) (Merge i f) is below = absurd is
one_in_range files count (Merges into from) (Take d text) is below = absurd is
one_in_range files count (Merges into from) (Merge i f) is below =
    (subst (λ n. n < count) (sym is.0) below.0, subst (λ n. n < count) (sym is.1) below.1)

-- the desks of steps with their texts are those of the script
pub loaded_in_range : {X : Type 0} (g : X → Written) (files : Option Files) (count : ℕ)
    (xs : List X) (ss : List Step) → AreLoaded files (map g xs) ss
    → All (λ x. IsStepOf count (g x)) xs
    → All (IsInRange count) ss
loaded_in_range g files count [] [] are below k d lt = absurd (omega (arith, lt))
loaded_in_range g files count [] (s ∷ ss) are below k d lt = absurd are
loaded_in_range g files count (x ∷ xs) [] are below k d lt = absurd are
loaded_in_range g files count (x ∷ xs) (s ∷ ss) are below zero d lt =
    one_in_range files count (g x) s are.0 (below 0 x (omega arith))
loaded_in_range g files count (x ∷ xs) (s ∷ ss) are below (suc k) d lt =
    loaded_in_range g files count xs ss are.1 (λ i e l. below (suc i) e (omega (arith, l))) k d
    (omega (arith, lt))

-- an element of a list, whatever the default is
pub any_default : {X : Type 0} (xs : List X) (i : ℕ) (d e : X) → i < length xs
    → get_or xs i d ≡ get_or xs i e
any_default [] i d e lt = absurd (omega (arith, lt))
any_default (x ∷ xs) zero d e lt = refl
any_default (x ∷ xs) (suc i) d e lt = any_default xs i d e (omega (arith, lt))

-- equal desks have one state
pub one_state : (new : DeskSeen) (desks : List DeskSeen) → All (λ desk. desk ≡ new) desks
    → All (λ desk. desk ≡ state_of new) (map state_of desks)
one_state new [] are k d lt = absurd (omega (arith, lt))
one_state new (x ∷ xs) are zero d lt = ap state_of (are 0 x (omega arith))
one_state new (x ∷ xs) are (suc k) d lt =
    one_state new xs (λ i e l. are (suc i) e (omega (arith, l))) k d (omega (arith, lt))

pub length-map-one : {X Y : Type 0} (f : X → Y) (xs : List X) → length (map f xs) ≡ length xs
length-map-one f [] = refl
length-map-one f (x ∷ xs) = ap suc (length-map-one f xs)

-- ---- equal desks that hold nothing

pub each_fresh : (empty : DeskSeen) (desks : List DeskSeen) → empty ≡ fresh empty.base
    → All (λ desk. desk ≡ empty) desks
    → All (λ desk. desk ≡ state_of (fresh empty.base)) (map state_of desks)
each_fresh empty desks is each =
    one_state (fresh empty.base) desks
    (subst (λ (d : DeskSeen). All (λ desk. desk ≡ d) desks) is each)

-- one more step has its text, or has none
pub loaded_at : {X : Type 0} (f : X → Written) (before files : Option Files) (xs : List X) (i : ℕ)
    (d : X) (ss new : List Step) (s : Step) → i < length xs → before ≡ files
    → AreLoaded files (map f (take i xs)) ss → IsLoaded before (f (get_or xs i d)) s
    → new ≡ ss ++ s ∷ [] → AreLoaded files (map f (take (i + 1) xs)) new
loaded_at f before files xs i d ss new s lt same are is pushed =
    loaded_next f files xs i (get_or xs i d) ss new s lt (any_default xs i d (get_or xs i d) lt) are
    (subst (λ (all : Option Files). IsLoaded all (f (get_or xs i d)) s) same is) pushed

pub refuses_at : {X : Type 0} (f : X → Written) (before files : Option Files) (xs : List X) (i : ℕ)
    (d : X) (ss : List Step) (refusal : Refusal) → i < length xs → before ≡ files
    → AreLoaded files (map f (take i xs)) ss → RefusesStep before (f (get_or xs i d)) refusal
    → RefusesStepTexts files (map f xs) refusal
refuses_at f before files xs i d ss refusal lt same are is =
    refuses_next f files xs i (get_or xs i d) ss refusal lt (any_default xs i d (get_or xs i d) lt)
    are (subst (λ (all : Option Files). RefusesStep all (f (get_or xs i d)) refusal) same is)
