-- Valid fields, in one list of bytes and in another.
use Rattle.std.proofs.Common.{◌≡◌, ℕ, ◌+◌, ◌-◌, ◌<◌, ◌≤◌, Bool, true, false, List, [], ◌∷◌, ◌++◌, length, drop, get_or, Option, Some, None, refl, sym, ap, ◌∙◌, arith, ◌&&◌, inl, inr}
use Rattle.std.specs.Prelude.{slice_range}
use Rattle.ssim_columns.specs.declared.field.Field.{Field}
use Rattle.std.specs.List.{flat_map, list_all}
use Rattle.std.proofs.lemmas.List.{drop_more}
use Rattle.std.specs.Prelude.{is_some, option_map, IsTrue}
use Rattle.std.proofs.lemmas.Bool.Decides.{nat_tests}
use Rattle.ssim_values.specs.Clock.{clock_of}
use Rattle.ssim_columns.specs.Numbers.{is_blank}
use Rattle.ssim_columns.specs.Columns.{columns, is_carried, passenger_time_of, place_of_other}
use Rattle.ssim_columns.specs.Columns.{fault_in, first_fault, field_fault, column_after, or_else}
use Rattle.ssim_columns.specs.Columns.{unless, EachIsValid}
use Rattle.ssim_columns.specs.clauses.Columns.{is_printed}
use Rattle.ssim_columns.proofs.lemmas.Choices.{pick}
use Rattle.ssim_columns.proofs.lemmas.Slices.{slice_in}

none_first : (a b : Option ℕ) → or_else a b ≡ None → (a ≡ None) × (b ≡ None)
none_first None b h = (refl, h)
none_first (Some n) b h = absurd cc

no_column : (first : ℕ) (o : Option ℕ) → column_after first o ≡ None → o ≡ None
no_column first None h = refl
no_column first (Some n) h = absurd cc

pub each_stands : (b : List ℕ) (fs : List Field) → first_fault b fs ≡ None → EachIsValid b fs
each_stands b [] h = tt
each_stands b (f ∷ fs) h =
    let both = none_first (field_fault b f) (first_fault b fs) h in
    (no_column f.first (fault_in f.kind (columns f.first f.last b)) both.0, each_stands b fs both.1)

pub none_fault : (b : List ℕ) (fs : List Field) → EachIsValid b fs → first_fault b fs ≡ None
none_fault b [] h = refl
none_fault b (f ∷ fs) h = rw (h.0, none_fault b fs h.1) refl

or_else_after : (a b c : Option ℕ) → or_else (or_else a b) c ≡ or_else a (or_else b c)
or_else_after None b c = refl
or_else_after (Some n) b c = refl

first_of_both : (b : List ℕ) (fs gs : List Field) → first_fault b (fs ++ gs) ≡ or_else (first_fault b fs) (first_fault b gs)
first_of_both b [] gs = refl
first_of_both b (f ∷ fs) gs = ap (or_else (field_fault b f)) (first_of_both b fs gs) ∙ sym (or_else_after (field_fault b f) (first_fault b fs) (first_fault b gs))

-- the tables from one on: the fault of that table, or else of those after it
next_table : {X : Type 0} (now : X → List Field) (b : List ℕ) (tables : List X) (i : ℕ) (d : X) → i < length tables → first_fault b (flat_map now (drop i tables)) ≡ or_else (first_fault b (now (get_or tables i d))) (first_fault b (flat_map now (drop (i + 1) tables)))
next_table now b tables i d lt =
    ap (λ l. first_fault b (flat_map now l)) (drop_more tables i d lt) ∙ first_of_both b (now (get_or tables i d)) (flat_map now (drop (i + 1) tables))

pub in_table : {X : Type 0} (now : X → List Field) (b : List ℕ) (tables : List X) (i : ℕ) (d : X) (o all : Option ℕ) (column : ℕ) → i < length tables → first_fault b (flat_map now (drop i tables)) ≡ all → o ≡ first_fault b (now (get_or tables i d)) → o ≡ Some column → Some column ≡ all
in_table now b tables i d o all column lt h is some =
    sym (ap (λ p. or_else p (first_fault b (flat_map now (drop (i + 1) tables)))) (sym is ∙ some)) ∙ sym (next_table now b tables i d lt) ∙ h

pub in_later_table : {X : Type 0} (now : X → List Field) (b : List ℕ) (tables : List X) (i : ℕ) (d : X) (o all : Option ℕ) → i < length tables → first_fault b (flat_map now (drop i tables)) ≡ all → o ≡ first_fault b (now (get_or tables i d)) → o ≡ None → first_fault b (flat_map now (drop (i + 1) tables)) ≡ all
in_later_table now b tables i d o all lt h is none =
    sym (ap (λ p. or_else p (first_fault b (flat_map now (drop (i + 1) tables)))) (sym is ∙ none)) ∙ sym (next_table now b tables i d lt) ∙ h

pub front_stands : (b : List ℕ) (fs gs : List Field) → EachIsValid b (fs ++ gs) → EachIsValid b fs
front_stands b [] gs h = tt
front_stands b (f ∷ fs) gs h = (h.0, front_stands b fs gs h.1)

pub rest_stands : (b : List ℕ) (fs gs : List Field) → EachIsValid b (fs ++ gs) → EachIsValid b gs
rest_stands b [] gs h = h
rest_stands b (f ∷ fs) gs h = rest_stands b fs gs h.1

pub both_stand : (b : List ℕ) (fs gs : List Field) → EachIsValid b fs → EachIsValid b gs → EachIsValid b (fs ++ gs)
both_stand b [] gs h k = k
both_stand b (f ∷ fs) gs h k = (h.0, both_stand b fs gs h.1 k)

pub same_columns : (x y : List ℕ) (from to first last : ℕ) → slice_range x from to ≡ slice_range y from to → from < first → first ≤ last → last ≤ to → columns first last x ≡ columns first last y
same_columns x y from to first last e lt le within =
    let i : from + (first - 1 - from) ≡ first - 1 = omega arith in
    let j : from + (last - from) ≡ last = omega arith in
    let a = slice_in x from to (first - 1 - from) (last - from) (omega arith) (omega arith) in
    let b = slice_in y from to (first - 1 - from) (last - from) (omega arith) (omega arith) in
    let a' : slice_range (slice_range x from to) (first - 1 - from) (last - from) ≡ columns first last x = rw (i, j) at a in
    let b' : slice_range (slice_range y from to) (first - 1 - from) (last - from) ≡ columns first last y = rw (i, j) at b in
    sym a' ∙ ap (λ (z : List ℕ). slice_range z (first - 1 - from) (last - from)) e ∙ b'

-- the fields lie in these columns
abbrev pub LieIn : ℕ → ℕ → List Field → Type 0
LieIn from to [] = Unit {0}
LieIn from to (f ∷ fs) = (from < f.first) × (f.first ≤ f.last) × (f.last ≤ to) × LieIn from to fs

pub rows_move : (x y : List ℕ) (from to : ℕ) (fs : List Field) → slice_range x from to ≡ slice_range y from to → LieIn from to fs → EachIsValid x fs → EachIsValid y fs
rows_move x y from to [] e within h = tt
rows_move x y from to (f ∷ fs) e within h =
    (rw (← same_columns x y from to f.first f.last e within.0 within.1 within.2) h.0, rows_move x y from to fs e within.3 h.1)

-- ---- carried columns

pub all_carried : (n : ℕ) (t : List ℕ) → place_of_other is_carried n t ≡ None → IsTrue (list_all is_carried t)
all_carried n [] h = refl
all_carried n (b ∷ bs) h = elim (pick (is_carried b)) [ inl t ↦ (let k = simp t at h in rw t (all_carried (n + 1) bs k)) | inr f ↦ (let k = simp f at h in absurd cc) ]

pub both_true : (a b : Bool) → IsTrue (a && b) → IsTrue a × IsTrue b
both_true true b h = (refl, h)
both_true false b h = absurd cc

pub is_true : (b : Bool) → IsTrue b → b ≡ true
is_true b h = h

pub none_other : (n : ℕ) (t : List ℕ) → IsTrue (list_all is_carried t) → place_of_other is_carried n t ≡ None
none_other n [] h = refl
none_other n (b ∷ bs) h = let both = both_true (is_carried b) (list_all is_carried bs) h in rw (is_true (is_carried b) both.0) (none_other (n + 1) bs both.1)

printed : (b : ℕ) → IsTrue (is_printed b) → is_carried b ≡ true
printed b h = grind (arith, nat_tests)

pub all_printed : (t : List ℕ) → IsTrue (list_all is_printed t) → list_all is_carried t ≡ true
all_printed [] h = refl
all_printed (b ∷ bs) h = let both = both_true (is_printed b) (list_all is_printed bs) h in rw (printed b both.0, all_printed bs both.1) refl

-- ---- fields that say a value

pub stands_by : (b : Bool) → IsTrue b → unless b ≡ None
stands_by true h = refl
stands_by false h = absurd cc

pub stands_as : {A : Type 0} (o : Option A) (a : A) → o ≡ Some a → unless (is_some o) ≡ None
stands_as o a h = rw h refl

pub no_other : (o p : Option ℕ) (n : ℕ) → o ≡ p → p ≡ None → o ≡ Some n → ⊥
no_other o p n h k e = absurd cc

-- a time is a passenger time
pub passenger_time : (t : List ℕ) → IsTrue (is_some (clock_of t)) → is_some (passenger_time_of t) ≡ true
unfolding passenger_time_of
passenger_time t h = elim (pick (list_all is_blank t)) [ inl b ↦ rw b refl | inr f ↦ rw f (by (clock_of t) h) ]
  where
    by : (o : Option ℕ) → IsTrue (is_some o) → is_some (option_map (λ n. Some n) o) ≡ true
    by None none = absurd cc
    by (Some n) some = refl
