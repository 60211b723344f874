-- Changes that are applied one after another: what one more of them does to the values and the cuts,
-- and what one more does to a list of periods that none of them shares a day with.
use Rattle.std.proofs.Common.{◌≡◌, ◌≢◌, ℕ, suc, ◌+◌, ◌<◌, ◌≤◌, Bool, true, false, if◌then◌else◌, List, [], ◌∷◌, ◌++◌, length, take, drop, slice_index_or, Some, IsTrue, ◌↔◌, inl, inr, refl, ap, subst, sym, ◌∙◌, arith}
use Rattle.std.specs.List.{Contains}
use Rattle.std.proofs.lemmas.List.{append-nil, drop_more, take_more}
use Rattle.std.proofs.lemmas.List.Elements.{All-cons, Contains-append_cases, Contains-append_left, Contains-append_right}
use Rattle.ssim_values.specs.Period.{DayRange}
use Rattle.ssim_periods.specs.Calendar.{holds}
use Rattle.ssim_periods.specs.clauses.Days.{AddsOnly, changed_by_each, ends_of}
use Rattle.ssim_periods.specs.Days.{changed_on, each_day}
use Rattle.ssim_periods.specs.Pieces.{held_on}
use Rattle.ssim_periods.specs.internal.Apart.{value_in, AreCutsOf, AreDivided, AreOutcomes}
use Rattle.ssim_periods.specs.internal.Parts.{with_outcome}
use Rattle.ssim_periods.specs.internal.Splits.{with_cut}
use Rattle.ssim_periods.proofs.ApartLemmas.{days-free, free-changed, free-kept, put-days, put-once}
use Rattle.ssim_periods.proofs.ApplyLemmas.{adds_only, All-with_cut, contains-head, contains-tail, with_cut-keeps, with_cut-own}
use Rattle.ssim_periods.proofs.CutLemmas.{rising-with_cut}
use Rattle.ssim_periods.proofs.DayLemmas.{each_day-same}
use Rattle.ssim_periods.proofs.SplitLemmas.{All-push}

-- ---- one more change

pub changed-last : {V C : Type 0} (after : C → V → V) (xs : List (DayRange × C)) (x : DayRange × C) (days : List V) → changed_by_each after (xs ++ x ∷ []) days ≡ changed_on (holds x.0) (after x.1) 0 (changed_by_each after xs days)
changed-last after [] x days = refl
changed-last after (y ∷ xs) x days = changed-last after xs x (changed_on (holds y.0) (after y.1) 0 days)

-- a change is applied, before those from the next place on
pub changed-rest : {V C : Type 0} (after : C → V → V) (xs : List (DayRange × C)) (i : ℕ) (x : DayRange × C) (days new whole : List V) → i < length xs → x ≡ slice_index_or xs i x → new ≡ changed_on (holds x.0) (after x.1) 0 days
    → changed_by_each after (drop i xs) days ≡ whole → changed_by_each after (drop (i + 1) xs) new ≡ whole
changed-rest after xs i x days new whole lt is put so =
    let rest : drop i xs ≡ x ∷ drop (i + 1) xs = drop_more xs i x lt ∙ ap (λ y. y ∷ drop (i + 1) xs) (sym is) in
    ap (changed_by_each after (drop (i + 1) xs)) put ∙ sym (ap (λ ys. changed_by_each after ys days) rest) ∙ so

-- ---- the ends of the periods

ends-append : {C : Type 0} (xs ys : List (DayRange × C)) → ends_of (xs ++ ys) ≡ ends_of xs ++ ends_of ys
ends-append [] ys = refl
ends-append (x ∷ xs) ys = ap (λ (ends : List ℕ). x.0.first ∷ (x.0.last + 1) ∷ ends) (ends-append xs ys)

pub ends-kept : {C : Type 0} (xs ys : List (DayRange × C)) (cut : ℕ) → Contains (ends_of xs) cut → Contains (ends_of (xs ++ ys)) cut
ends-kept xs ys cut has = subst (λ (ends : List ℕ). Contains ends cut) (sym (ends-append xs ys)) (Contains-append_left (ends_of xs) (ends_of ys) cut has)

pub ends-added : {C : Type 0} (xs ys : List (DayRange × C)) (cut : ℕ) → Contains (ends_of ys) cut → Contains (ends_of (xs ++ ys)) cut
ends-added xs ys cut has = subst (λ (ends : List ℕ). Contains ends cut) (sym (ends-append xs ys)) (Contains-append_right (ends_of xs) (ends_of ys) cut has)

-- the ends of a period that is changed come before those of the later ones
cuts-put : {C : Type 0} (x : DayRange × C) (xs : List (DayRange × C)) (old mid : List ℕ) (cut : ℕ) → AddsOnly old mid x.0.first (x.0.last + 1) → Contains (ends_of xs ++ mid) cut → Contains (ends_of (x ∷ xs) ++ old) cut
cuts-put x xs old mid cut adds has =
    let a = x.0.first in let b = x.0.last + 1 in let rest = ends_of xs ++ old in
    elim (Contains-append_cases (ends_of xs) mid cut has) [
      | inl end ↦ contains-tail a cut (b ∷ rest) (contains-tail b cut rest (Contains-append_left (ends_of xs) old cut end))
      | inr other ↦ elim (adds cut other) [
        | inl kept ↦ contains-tail a cut (b ∷ rest) (contains-tail b cut rest (Contains-append_right (ends_of xs) old cut kept))
        | inr (inl e) ↦ subst (λ (c : ℕ). Contains (a ∷ b ∷ rest) c) (sym e) (contains-head a (b ∷ rest))
        | inr (inr e) ↦ contains-tail a cut (b ∷ rest) (subst (λ (c : ℕ). Contains (b ∷ rest) c) (sym e) (contains-head b rest))
      ]
    ]

pub ends-rest : {C : Type 0} (xs : List (DayRange × C)) (i : ℕ) (x : DayRange × C) (old mid whole : List ℕ) → i < length xs → x ≡ slice_index_or xs i x → AddsOnly old mid x.0.first (x.0.last + 1)
    → ((cut : ℕ) → Contains (ends_of (drop i xs) ++ old) cut → Contains whole cut) → (cut : ℕ) → Contains (ends_of (drop (i + 1) xs) ++ mid) cut → Contains whole cut
ends-rest {C} xs i x old mid whole lt is adds so cut has =
    let rest : drop i xs ≡ x ∷ drop (i + 1) xs = drop_more xs i x lt ∙ ap (λ y. y ∷ drop (i + 1) xs) (sym is) in
    so cut (subst (λ (ys : List (DayRange × C)). Contains (ends_of ys ++ old) cut) (sym rest) (cuts-put x (drop (i + 1) xs) old mid cut adds has))

-- ---- a list of periods that several changes give together

one_outcome : {V C : Type 0} (alike : V → V → Bool) (nothing : V) → ((x y : V) → IsTrue (alike x y) ↔ (x ≡ y)) → (after : C → V → V) (done : List (DayRange × C)) (x : DayRange × C) (xs ys : List (DayRange × V)) → AreOutcomes nothing after done xs
    → ((n : ℕ) → holds x.0 n ≡ true → held_on xs n ≡ []) → ys ≡ xs ++ with_outcome alike nothing (Some x.0) (after x.1 nothing) → AreOutcomes nothing after (done ++ x ∷ []) ys
one_outcome {V} {C} alike nothing exact after done x xs ys was free is =
    elim (alike v nothing) as (λ b. alike v nothing ≡ b → ys ≡ xs ++ (if b then [] else (x.0, v) ∷ []) → AreOutcomes nothing after more ys) [
      | true ↦ λ t same. subst (λ (zs : List (DayRange × V)). AreOutcomes nothing after more zs) (sym (same ∙ append-nil xs)) (record {
        once = was.once;
        given = was.given;
        days = was.days ∙ sym (changed-last after done x empty ∙ free-kept (holds x.0) (after x.1) nothing before no ((exact v nothing).0 t));
        ends = kept;
      })
      | false ↦ λ t same. subst (λ (zs : List (DayRange × V)). AreOutcomes nothing after more zs) (sym same) (record {
        once = put-once xs x.0 v free was.once;
        given = All-push (λ (given : DayRange × V). given.1 ≢ nothing) xs (x.0, v) was.given (λ e. let yes = (exact v nothing).1 e in absurd cc);
        days = put-days nothing xs (xs ++ (x.0, v) ∷ []) x.0 v before was.days refl ∙ free-changed (holds x.0) (λ _. v) (after x.1) nothing before no refl ∙ sym (changed-last after done x empty);
        ends = All-push (λ (given : DayRange × V). Contains (ends_of more) given.0.first × Contains (ends_of more) (given.0.last + 1)) xs (x.0, v) kept own;
      })
    ] refl is
  where
    v : V
    v = after x.1 nothing

    more : List (DayRange × C)
    more = done ++ x ∷ []

    empty : List V
    empty = each_day (λ _. nothing)

    before : List V
    before = changed_by_each after done empty

    no : (n : ℕ) → holds x.0 n ≡ true → slice_index_or before n nothing ≡ nothing
    no = days-free nothing xs x.0 before was.days free

    kept : AreDivided (ends_of more) xs
    kept k d l = let old = was.ends k d l in (ends-kept done (x ∷ []) _ old.0, ends-kept done (x ∷ []) _ old.1)

    own : Contains (ends_of more) x.0.first × Contains (ends_of more) (x.0.last + 1)
    own =
        let a = x.0.first in let b = x.0.last + 1 in
        (ends-added done (x ∷ []) a (contains-head a (b ∷ [])), ends-added done (x ∷ []) b (contains-tail a b (b ∷ []) (contains-head b [])))

-- no change, and no period
pub no-outcomes : {V C : Type 0} (nothing : V) (after : C → V → V) → AreOutcomes nothing after [] []
no-outcomes {V} {C} nothing after = record {
  once = λ n. few (held_on [] n) refl;
  given = λ k d l. absurd (omega arith);
  days = each_day-same (value_in nothing []) (λ _. nothing) (λ n l. refl);
  ends = λ k d l. absurd (omega arith);
}
  where
    few : (vs : List V) → vs ≡ [] → length vs ≤ 1
    few vs none = let empty = ap length none in omega arith

-- one more change of days that no period of the list holds
pub outcomes-more : {V C : Type 0} (alike : V → V → Bool) (nothing : V) → ((x y : V) → IsTrue (alike x y) ↔ (x ≡ y)) → (after : C → V → V) (changes : List (DayRange × C)) (i : ℕ) (x : DayRange × C) (xs ys : List (DayRange × V)) → i < length changes → x ≡ slice_index_or changes i x
    → AreOutcomes nothing after (take i changes) xs → ((n : ℕ) → holds x.0 n ≡ true → held_on xs n ≡ []) → ys ≡ xs ++ with_outcome alike nothing (Some x.0) (after x.1 nothing) → AreOutcomes nothing after (take (i + 1) changes) ys
outcomes-more {V} {C} alike nothing exact after changes i x xs ys lt at was free is =
    subst (λ (done : List (DayRange × C)). AreOutcomes nothing after done ys) (sym (take_more changes i x lt ∙ ap (λ y. take i changes ++ y ∷ []) (sym at)))
    (one_outcome alike nothing exact after (take i changes) x xs ys was free is)

-- ---- the cuts of such a list

pub no-cuts : {V : Type 0} (xs : List (DayRange × V)) (cuts : List ℕ) → xs ≡ [] → cuts ≡ [] → AreCutsOf xs cuts
no-cuts xs cuts none same =
    let few = ap length none in let empty = ap length same in
    record {
      divided = λ k d l. absurd (omega arith);
      rising = λ k l. absurd (omega arith);
      in_calendar = λ k d l. absurd (omega arith);
      only = λ others ends cut has. let within = has.1 in absurd (omega arith);
    }

-- the ends of one more period
pub cuts_of-more : {V : Type 0} (x : DayRange × V) (xs : List (DayRange × V)) (cuts new : List ℕ) (first end : ℕ) → first ≡ x.0.first → end ≡ x.0.last + 1 → first ≤ 36525 → end ≤ 36525
    → new ≡ with_cut (with_cut cuts first) end → AreCutsOf xs cuts → AreCutsOf (x ∷ xs) new
cuts_of-more {V} x xs cuts new first end f e low high is was = subst (λ (cs : List ℕ). AreCutsOf (x ∷ xs) cs) (sym is) (record {
  divided = All-cons (λ (given : DayRange × V). Contains more given.0.first × Contains more (given.0.last + 1)) x xs
      (subst (Contains more) f (with_cut-keeps (with_cut cuts first) end first (with_cut-own cuts first)), subst (Contains more) e (with_cut-own (with_cut cuts first) end))
      (λ k d l. let old = was.divided k d l in (kept _ old.0, kept _ old.1));
  rising = rising-with_cut (with_cut cuts first) end (rising-with_cut cuts first was.rising);
  in_calendar = All-with_cut (λ c. c ≤ 36525) (with_cut cuts first) end (All-with_cut (λ c. c ≤ 36525) cuts first was.in_calendar low) high;
  only = λ others ends cut has.
      let own = ends 0 x (omega arith) in
      elim (adds_only cuts first end cut has) [
        | inl old ↦ was.only others (λ k d l. ends (suc k) d (omega arith)) cut old
        | inr (inl same) ↦ subst (Contains others) (sym (same ∙ f)) own.0
        | inr (inr same) ↦ subst (Contains others) (sym (same ∙ e)) own.1
      ];
})
  where
    more : List ℕ
    more = with_cut (with_cut cuts first) end

    kept : (c : ℕ) → Contains cuts c → Contains more c
    kept c has = with_cut-keeps (with_cut cuts first) end c (with_cut-keeps cuts first c has)
