-- The variation that no other one beats is one alone.
use Rattle.std.proofs.Common.{◌≡◌, ◌∙◌, ℕ, ◌++◌, Bool, true, false, ◌&&◌, ◌||◌, not, nat_eq, nat_lt, if◌then◌else◌}
use Rattle.std.proofs.Common.{List, [], ◌∷◌, map, Option, Some, None, refl, sym, ap, ap₂, arith, cond}
use Rattle.std.specs.List.{find, list_any}
use Rattle.std.proofs.lemmas.Bool.Decides.{nat_tests}
use Rattle.ssim_values.specs.Variation.{Offset}
use Rattle.ssim_overview.specs.SaidRows.{beats, comes_before, is_same, is_unbeaten, most, votes}
use Rattle.ssim_overview.specs.internal.SaidRows.{better}
use Rattle.ssim_overview.specs.declared.sayings.Saying.{Saying}
use Rattle.ssim_overview.proofs.SaidCut.{same_is}

pub same_self : (v : Offset) → is_same v v ≡ true
same_self v = by v.negative
  where
    minutes : nat_eq v.minutes v.minutes ≡ true
    minutes = grind (arith, nat_tests)

    by : (a : Bool) → ((if a then a else not a) && nat_eq v.minutes v.minutes) ≡ true
    by true = minutes
    by false = minutes

-- one of two variations comes first, or they are one
alike : (v w : Offset) → comes_before v w ≡ false → comes_before w v ≡ false → is_same v w ≡ true
alike v w h k = by v.negative w.negative h k
  where
    by : (a b : Bool)
        → (if a then b && nat_lt v.minutes w.minutes else b || nat_lt v.minutes w.minutes) ≡ false
        → (if b then a && nat_lt w.minutes v.minutes else a || nat_lt w.minutes v.minutes) ≡ false
        → ((if a then b else not b) && nat_eq v.minutes w.minutes) ≡ true
    by true true p q = grind (arith, nat_tests)
    by false false p q = grind (arith, nat_tests)
    by true false p q = absurd cc
    by false true p q = absurd cc

not_itself : (v : Offset) → comes_before v v ≡ false
not_itself v = by v.negative
  where
    by : (a : Bool) → (if a then a && nat_lt v.minutes v.minutes else a || nat_lt v.minutes v.minutes) ≡ false
    by true = grind (arith, nat_tests)
    by false = grind (arith, nat_tests)

before_that : (u v w : Offset) → comes_before u v ≡ true → comes_before v w ≡ true → comes_before u w ≡ true
before_that u v w h k = by u.negative v.negative w.negative h k
  where
    by : (a b d : Bool)
        → (if a then b && nat_lt u.minutes v.minutes else b || nat_lt u.minutes v.minutes) ≡ true
        → (if b then d && nat_lt v.minutes w.minutes else d || nat_lt v.minutes w.minutes) ≡ true
        → (if a then d && nat_lt u.minutes w.minutes else d || nat_lt u.minutes w.minutes) ≡ true
    by true true true p q = grind (arith, nat_tests)
    by true true false p q = absurd cc
    by true false d p q = absurd cc
    by false true true p q = refl
    by false true false p q = absurd cc
    by false false true p q = refl
    by false false false p q = grind (arith, nat_tests)

-- by votes, and then by order
abbrev ahead : ℕ → ℕ → Bool → Bool
ahead m n first = nat_lt n m || (nat_eq m n && first)

ahead_that : (l m n : ℕ) (p q r : Bool) → (p ≡ true → q ≡ true → r ≡ true)
    → ahead l m p ≡ true → ahead m n q ≡ true → ahead l n r ≡ true
ahead_that l m n p q r h a b = grind (arith, nat_tests)

ahead_same : (m n : ℕ) (p q : Bool) → ahead m n p ≡ false → ahead n m q ≡ false → (p ≡ false) × (q ≡ false)
ahead_same m n p q a b = grind (arith, nat_tests)

ahead_itself : (m : ℕ) (p : Bool) → p ≡ false → ahead m m p ≡ false
ahead_itself m p h = grind (arith, nat_tests)

pub never_itself : (sayings : List Saying) (v : Offset) → beats sayings v v ≡ false
never_itself sayings v = ahead_itself (votes sayings v) (comes_before v v) (not_itself v)

beats_too : (sayings : List Saying) (u v w : Offset) → beats sayings u v ≡ true
    → beats sayings v w ≡ true → beats sayings u w ≡ true
beats_too sayings u v w h k =
    ahead_that (votes sayings u) (votes sayings v) (votes sayings w) (comes_before u v) (comes_before v w)
    (comes_before u w) (before_that u v w) h k

one_best : (sayings : List Saying) (v w : Offset) → beats sayings v w ≡ false
    → beats sayings w v ≡ false → v ≡ w
one_best sayings v w h k =
    let none = ahead_same (votes sayings v) (votes sayings w) (comes_before v w) (comes_before w v) h k in
    same_is v w (alike v w none.0 none.1)

-- ---- the best of some

abbrev pub says : Offset → List Saying → Bool
says v sayings = list_any (λ saying. is_same saying.variation v) sayings

abbrev pub is_beaten : List Saying → Offset → List Saying → Bool
is_beaten all v sayings = list_any (λ saying. beats all saying.variation v) sayings

-- what none of some has, one of them has not
none_has : (test : Offset → Bool) (v : Offset) (sayings : List Saying) → says v sayings ≡ true
    → list_any (λ saying. test saying.variation) sayings ≡ false → test v ≡ false
none_has test v [] h k = absurd cc
none_has test v (x ∷ xs) h k =
    by (none_has test v xs) (is_same x.variation v) refl h (test x.variation) refl k
  where
    by : (says v xs ≡ true → list_any (λ (saying : Saying). test saying.variation) xs ≡ false → test v ≡ false)
        → (a : Bool) → is_same x.variation v ≡ a → (a || says v xs) ≡ true → (b : Bool) → test x.variation ≡ b
        → (b || list_any (λ (saying : Saying). test saying.variation) xs) ≡ false → test v ≡ false
    by rest a e s true f n = absurd cc
    by rest true e s false f n = ap test (sym (same_is x.variation v e)) ∙ f
    by rest false e s false f n = rest s n

found : (all : List Saying) (w : Offset) → says w all ≡ true → is_unbeaten all w ≡ true
    → (sayings : List Saying) → says w sayings ≡ true → is_beaten all w sayings ≡ false
    → find (is_unbeaten all) (map (λ saying. saying.variation) sayings) ≡ Some w
found all w there best [] h k = absurd cc
found all w there best (x ∷ xs) h k =
    by (found all w there best xs) (is_unbeaten all x.variation) refl (beats all x.variation w) refl k
    (is_same x.variation w) refl h
  where
    later : Option Offset
    later = find (is_unbeaten all) (map (λ (saying : Saying). saying.variation) xs)

    opened : (b : Bool) → not b ≡ true → b ≡ false
    opened true t = absurd cc
    opened false t = refl

    by : (says w xs ≡ true → is_beaten all w xs ≡ false → later ≡ Some w)
        → (u : Bool) → is_unbeaten all x.variation ≡ u → (b : Bool) → beats all x.variation w ≡ b
        → (b || is_beaten all w xs) ≡ false → (a : Bool) → is_same x.variation w ≡ a
        → (a || says w xs) ≡ true
        → cond u (Some x.variation) later ≡ Some w
    by rest u e true f n a g s = absurd cc
    by rest true e false f n a g s = ap (λ (v : Offset). Some v) (one_best all x.variation w f
        (none_has (λ v. beats all v x.variation) w all there (opened (is_beaten all x.variation all) e)))
    by rest false e false f n true g s =
        absurd (off (sym best ∙ ap (is_unbeaten all) (sym (same_is x.variation w g)) ∙ e))
      where
        off : true ≡ false → ⊥
        off h = cc
    by rest false e false f n false g s = rest s n

-- the best of some sayings
abbrev pub BestOf : List Saying → List Saying → Option Offset → Type 0
BestOf all some None = some ≡ []
BestOf all some (Some w) = (says w some ≡ true) × (is_beaten all w some ≡ false)

pub best_is : (sayings : List Saying) (best : Option Offset) → BestOf sayings sayings best
    → best ≡ most sayings
best_is sayings None none = ap most (sym none)
best_is sayings (Some w) (there, first) =
    sym (found sayings w there (ap not first) sayings there first)

beaten_by_less : (all some : List Saying) (v w : Offset) → beats all v w ≡ true
    → is_beaten all w some ≡ false → is_beaten all v some ≡ false
beaten_by_less all [] v w h k = refl
beaten_by_less all (x ∷ xs) v w h k =
    by (beaten_by_less all xs v w h) (beats all x.variation v) refl (beats all x.variation w) refl k
  where
    by : (is_beaten all w xs ≡ false → is_beaten all v xs ≡ false)
        → (a : Bool) → beats all x.variation v ≡ a → (b : Bool) → beats all x.variation w ≡ b
        → (b || is_beaten all w xs) ≡ false → (a || is_beaten all v xs) ≡ false
    by rest a e true f n = absurd cc
    by rest true e false f n = absurd (off (sym (beats_too all x.variation v w e h) ∙ f))
      where
        off : true ≡ false → ⊥
        off z = cc
    by rest false e false f n = rest n

any_more : (test : Saying → Bool) (some : List Saying) (x : Saying)
    → list_any test (some ++ x ∷ []) ≡ (list_any test some || test x)
any_more test [] x = or_false (test x)
  where
    or_false : (b : Bool) → (b || false) ≡ b
    or_false true = refl
    or_false false = refl
any_more test (y ∷ some) x = by (any_more test some x) (test y)
  where
    by : list_any test (some ++ x ∷ []) ≡ (list_any test some || test x)
        → (b : Bool) → (b || list_any test (some ++ x ∷ [])) ≡ ((b || list_any test some) || test x)
    by rest true = refl
    by rest false = rest

-- one saying more is the first
first_saying : (all some : List Saying) (x : Saying) → some ≡ []
    → BestOf all (some ++ x ∷ []) (Some x.variation)
first_saying all some x none = (
  any_more (λ saying. is_same saying.variation x.variation) some x
      ∙ ap₂ (λ (a b : Bool). a || b) (ap (says x.variation) none) (same_self x.variation),
  any_more (λ saying. beats all saying.variation x.variation) some x
      ∙ ap₂ (λ (a b : Bool). a || b) (ap (is_beaten all x.variation) none) (never_itself all x.variation),
)

-- one saying more is better
better_saying : (all some : List Saying) (x : Saying) (w : Offset) → BestOf all some (Some w)
    → (not (is_same x.variation w) && beats all x.variation w) ≡ true
    → BestOf all (some ++ x ∷ []) (Some x.variation)
better_saying all some x w (there, first) h = (
  any_more (λ saying. is_same saying.variation x.variation) some x
      ∙ ap (λ (b : Bool). says x.variation some || b) (same_self x.variation) ∙ or_true (says x.variation some),
  any_more (λ saying. beats all saying.variation x.variation) some x
      ∙ ap₂ (λ (a b : Bool). a || b)
      (beaten_by_less all some x.variation w (second (not (is_same x.variation w)) (beats all x.variation w) h) first)
      (never_itself all x.variation),
)
  where
    or_true : (b : Bool) → (b || true) ≡ true
    or_true true = refl
    or_true false = refl

    second : (a b : Bool) → (a && b) ≡ true → b ≡ true
    second true b t = t
    second false b t = absurd cc

-- one saying more is not better
no_better : (all some : List Saying) (x : Saying) (w : Offset) → BestOf all some (Some w)
    → (not (is_same x.variation w) && beats all x.variation w) ≡ false
    → BestOf all (some ++ x ∷ []) (Some w)
no_better all some x w (there, first) h = (
  any_more (λ saying. is_same saying.variation w) some x
      ∙ ap (λ (b : Bool). b || is_same x.variation w) there,
  any_more (λ saying. beats all saying.variation w) some x
      ∙ ap₂ (λ (a b : Bool). a || b) first (by (is_same x.variation w) refl h),
)
  where
    by : (s : Bool) → is_same x.variation w ≡ s → (not s && beats all x.variation w) ≡ false
        → beats all x.variation w ≡ false
    by true e t = ap (λ (v : Offset). beats all v w) (same_is x.variation w e) ∙ never_itself all w
    by false e t = t

-- one saying more
pub best_more : (all some : List Saying) (x : Saying) (best : Option Offset) → BestOf all some best
    → BestOf all (some ++ x ∷ []) (better all x.variation best)
best_more all some x None b = first_saying all some x b
best_more all some x (Some w) b =
    by (not (is_same x.variation w) && beats all x.variation w) refl
  where
    by : (t : Bool) → (not (is_same x.variation w) && beats all x.variation w) ≡ t
        → BestOf all (some ++ x ∷ []) (if t then Some x.variation else Some w)
    by true e = better_saying all some x w b e
    by false e = no_better all some x w b e
