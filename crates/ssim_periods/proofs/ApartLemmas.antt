-- Values given to periods without a common day: what each day has, when one more period comes, and
-- when the period is divided at a cut.
use Rattle.std.proofs.Common.{◌≡◌, ◌≢◌, ℕ, zero, suc, ◌+◌, ◌<◌, ◌≤◌, ◌&&◌, Bool, true, false, if◌then◌else◌, nat_le, List, [], ◌∷◌, ◌++◌, length, take, drop, slice_get, slice_index_or, Some, refl, ap, subst, sym, ◌∙◌, arith, ◌⊎◌, inl, inr, IsTrue, ◌↔◌}
use Rattle.std.specs.List.{All, Contains}
use Rattle.std.proofs.lemmas.Bool.Decides.{nat_tests}
use Rattle.std.proofs.lemmas.List.{take_more, drop_more}
use Rattle.std.proofs.lemmas.List.Elements.{All-contains}
use Rattle.ssim_values.specs.Calendar.{weekday}
use Rattle.ssim_values.specs.Period.{DayRange}
use Rattle.ssim_values.specs.clauses.Period.{Holds}
use Rattle.ssim_periods.specs.internal.Apart.{empty_week, value_in, AreDivided, AreApart}
use Rattle.ssim_periods.specs.Calendar.{holds}
use Rattle.ssim_values.specs.Calendar.{slot}
use Rattle.ssim_periods.specs.clauses.Days.{AddsOnly}
use Rattle.ssim_periods.specs.Days.{each_day, changed_on}
use Rattle.ssim_periods.specs.Pieces.{held_on}
use Rattle.ssim_periods.specs.internal.Rows.{AreRows}
use Rattle.ssim_periods.specs.internal.Splits.{with_cut}
use Rattle.ssim_periods.proofs.ApplyLemmas.{All-with_cut, with_cut-keeps, with_cut-own, outside-before, outside-after}
use Rattle.ssim_periods.proofs.CutLemmas.{rising-with_cut}
use Rattle.ssim_periods.proofs.CoverLemmas.{le_or_lt}
use Rattle.ssim_periods.proofs.DayLemmas.{each_day-same, changed_on-each_day, get-each_day, index-each_day, length-each_day, holds-Holds, Holds-holds}
use Rattle.ssim_periods.proofs.PieceLaw.{held_on-append, index-past}
use Rattle.ssim_periods.proofs.RowLemmas.{index-default}
use Rattle.ssim_periods.proofs.SplitLemmas.{All-push}

-- ---- days of a period

-- the program's test of a day is the definition's
pub holds-is : (p : DayRange) (n : ℕ) (b : Bool) → (IsTrue b ↔ Holds p n) → b ≡ holds p n
holds-is p n b h =
    elim b as (λ x. b ≡ x → x ≡ holds p n) [
      | true ↦ λ e. sym (Holds-holds p n (h.0 e))
      | false ↦ λ e. elim (holds p n) as (λ y. holds p n ≡ y → false ≡ y) [
        | true ↦ λ f. sym e ∙ h.1 (holds-Holds p n f)
        | false ↦ λ f. refl
      ] refl
    ] refl

-- none of the periods so far holds the day, if the latest does not and none before it does
pub none-more : {V : Type 0} (xs : List (DayRange × V)) (i : ℕ) (x : DayRange × V) (n : ℕ) → i < length xs → x ≡ slice_index_or xs i x → holds x.0 n ≡ false → held_on (take i xs) n ≡ [] → held_on (take (i + 1) xs) n ≡ []
none-more xs i x n lt is off so =
    ap (λ es. held_on es n) (take_more xs i x lt)
    ∙ held_on-append (take i xs) (slice_index_or xs i x ∷ []) n
    ∙ ap (λ vs. vs ++ held_on (slice_index_or xs i x ∷ []) n) so
    ∙ ap (λ y. held_on (y ∷ []) n) (sym is)
    ∙ ap (λ b. if b then x.1 ∷ [] else []) off

-- no period of a list holds a day of one that is before all cuts, or after them
pub outside-none : {V : Type 0} (xs : List (DayRange × V)) (cuts : List ℕ) (p : DayRange) (first last n : ℕ) → AreDivided cuts xs → first ≡ p.first → last ≡ p.last → All (λ cut. last < cut) cuts ⊎ All (λ cut. cut ≤ first) cuts → holds p n ≡ true → held_on xs n ≡ []
outside-none [] cuts p first last n ends f l out h = refl
outside-none {V} (x ∷ xs) cuts p first last n ends f l out h =
    ap (λ b. if b then x.1 ∷ held_on xs n else held_on xs n) off ∙ outside-none xs cuts p first last n (λ k d i. ends (suc k) d (omega arith)) f l out h
  where
    off : holds x.0 n ≡ false
    off =
        let own = ends 0 x (omega arith) in let held = holds-Holds p n h in let from = held.0 in let to = held.1 in
        elim out [
          | inl all ↦ let lt = All-contains (λ cut. last < cut) cuts x.0.first all own.0 in outside-before x.0.first x.0.last n x.0.days (omega arith)
          | inr all ↦ let le = All-contains (λ cut. cut ≤ first) cuts (x.0.last + 1) all own.1 in outside-after x.0.first x.0.last n x.0.days (omega arith)
        ]

-- ---- the value of a day

pub value_in-last : {V : Type 0} (nothing : V) (xs : List (DayRange × V)) (x : DayRange × V) (n : ℕ) → value_in nothing (xs ++ x ∷ []) n ≡ (if holds x.0 n then x.1 else value_in nothing xs n)
value_in-last nothing [] x n = refl
value_in-last nothing (y ∷ xs) x n = value_in-last (if holds y.0 n then y.1 else nothing) xs x n

pub value_in-more : {V : Type 0} (nothing : V) (xs : List (DayRange × V)) (i : ℕ) (x : DayRange × V) (n : ℕ) → i < length xs → x ≡ slice_index_or xs i x → value_in nothing (take (i + 1) xs) n ≡ (if holds x.0 n then x.1 else value_in nothing (take i xs) n)
value_in-more nothing xs i x n lt is =
    ap (λ es. value_in nothing es n) (take_more xs i x lt ∙ ap (λ y. take i xs ++ y ∷ []) (sym is))
    ∙ value_in-last nothing (take i xs) x n

-- a day that no period holds
pub value_in-none : {V : Type 0} (nothing : V) (xs : List (DayRange × V)) (n : ℕ) → held_on xs n ≡ [] → value_in nothing xs n ≡ nothing
value_in-none nothing [] n h = refl
value_in-none {V} nothing (x ∷ xs) n h =
    elim (holds x.0 n) as (λ b. (if b then x.1 ∷ held_on xs n else held_on xs n) ≡ [] → value_in (if b then x.1 else nothing) xs n ≡ nothing) [
      | true ↦ λ k. cc
      | false ↦ λ k. value_in-none nothing xs n k
    ] h

stays : {V : Type 0} (nothing d : V) (xs : List (DayRange × V)) (n : ℕ) → All (λ (given : DayRange × V). given.1 ≢ nothing) xs → d ≢ nothing → value_in d xs n ≢ nothing
stays nothing d [] n all h = h
stays {V} nothing d (x ∷ xs) n all h =
    stays nothing (if holds x.0 n then x.1 else d) xs n (λ k e l. all (suc k) e (omega arith))
    (elim (holds x.0 n) as (λ b. (if b then x.1 else d) ≢ nothing) [ true ↦ all 0 x (omega arith) | false ↦ h ])

-- a day with the empty value is held by none
pub none-held : {V : Type 0} (nothing : V) (xs : List (DayRange × V)) (n : ℕ) → All (λ (given : DayRange × V). given.1 ≢ nothing) xs → value_in nothing xs n ≡ nothing → held_on xs n ≡ []
none-held nothing [] n all h = refl
none-held {V} nothing (x ∷ xs) n all h =
    elim (holds x.0 n) as (λ b. value_in (if b then x.1 else nothing) xs n ≡ nothing → (if b then x.1 ∷ held_on xs n else held_on xs n) ≡ []) [
      | true ↦ λ k. absurd (stays nothing x.1 xs n (λ i e l. all (suc i) e (omega arith)) (all 0 x (omega arith)) k)
      | false ↦ λ k. none-held nothing xs n (λ i e l. all (suc i) e (omega arith)) k
    ] h

-- one period less, from the end
pub value_in-earlier : {V : Type 0} (nothing : V) (xs : List (DayRange × V)) (i j : ℕ) (x : DayRange × V) (day : ℕ) (v : V) → j + 1 ≡ i → j < length xs → x ≡ slice_index_or xs j x → v ≡ value_in nothing (take i xs) day → v ≡ (if holds x.0 day then x.1 else value_in nothing (take j xs) day)
value_in-earlier nothing xs i j x day v next lt is so =
    so ∙ ap (λ k. value_in nothing (take k xs) day) (sym next) ∙ value_in-more nothing xs j x day lt is

-- ---- the list as rows

pub few-later : {V : Type 0} (xs : List (DayRange × V)) (i n : ℕ) → length (held_on xs n) ≤ 1 → length (held_on (drop i xs) n) ≤ 1
few-later xs zero n once = once
few-later [] (suc i) n once = once
few-later {V} (x ∷ xs) (suc i) n once = few-later xs i n (by (holds x.0 n) once)
  where
    by : (b : Bool) → length (if b then x.1 ∷ held_on xs n else held_on xs n) ≤ 1 → length (held_on xs n) ≤ 1
    by true few = omega arith
    by false few = few

value_in-first : {V : Type 0} (nothing : V) (x : DayRange × V) (xs : List (DayRange × V)) (n : ℕ) → length (held_on (x ∷ xs) n) ≤ 1 → value_in nothing (x ∷ xs) n ≡ (if holds x.0 n then x.1 else value_in nothing xs n)
value_in-first {V} nothing x xs n once = by (holds x.0 n) once
  where
    none : (vs : List V) → length (x.1 ∷ vs) ≤ 1 → vs ≡ []
    none [] few = refl
    none (v ∷ vs) few = absurd (omega arith)

    by : (b : Bool) → length (if b then x.1 ∷ held_on xs n else held_on xs n) ≤ 1 → value_in (if b then x.1 else nothing) xs n ≡ (if b then x.1 else value_in nothing xs n)
    by true few = value_in-none x.1 xs n (none (held_on xs n) few)
    by false few = refl

-- one more period, put before those from an index on
pub rows-more : {V : Type 0} (nothing : V) (xs : List (DayRange × V)) (i j : ℕ) (x : DayRange × V) (days new : List V) → j + 1 ≡ i → j < length xs → x ≡ slice_index_or xs j x → ((n : ℕ) → length (held_on xs n) ≤ 1) → days ≡ each_day (value_in nothing (drop i xs)) → new ≡ changed_on (holds x.0) (λ _. x.1) 0 days → new ≡ each_day (value_in nothing (drop j xs))
rows-more nothing xs i j x days new next lt is once so put =
    let rest : drop j xs ≡ x ∷ drop i xs = drop_more xs j x lt ∙ ap (λ k. slice_index_or xs j x ∷ drop k xs) next ∙ ap (λ y. y ∷ drop i xs) (sym is) in
    put ∙ ap (changed_on (holds x.0) (λ _. x.1) 0) so ∙ changed_on-each_day (holds x.0) (λ _. x.1) (value_in nothing (drop i xs))
    ∙ each_day-same (λ n. if holds x.0 n then x.1 else value_in nothing (drop i xs) n) (value_in nothing (x ∷ drop i xs))
    (λ n l. sym (value_in-first nothing x (drop i xs) n (subst (λ ys. length (held_on ys n) ≤ 1) rest (few-later xs j n (once n)))))
    ∙ sym (ap (λ ys. each_day (value_in nothing ys)) rest)

pub cuts-more : {V : Type 0} (xs : List (DayRange × V)) (i : ℕ) (x : DayRange × V) (old new cuts : List ℕ) → i < length xs → x ≡ slice_index_or xs i x → AreDivided cuts xs → AddsOnly old new x.0.first (x.0.last + 1) → ((cut : ℕ) → Contains old cut → Contains cuts cut) → (cut : ℕ) → Contains new cut → Contains cuts cut
cuts-more {V} xs i x old new cuts lt is ends adds so cut h =
    let own : Contains cuts x.0.first × Contains cuts (x.0.last + 1) = subst (λ (y : DayRange × V). Contains cuts y.0.first × Contains cuts (y.0.last + 1)) (sym is) (ends i x lt) in
    elim (adds cut h) [
      | inl k ↦ so cut k
      | inr e ↦ elim e [ inl f ↦ subst (Contains cuts) (sym f) own.0 | inr f ↦ subst (Contains cuts) (sym f) own.1 ]
    ]

-- ---- one more period

pub put-days : {V : Type 0} (nothing : V) (xs ys : List (DayRange × V)) (p : DayRange) (v : V) (days : List V) → each_day (value_in nothing xs) ≡ days → ys ≡ xs ++ (p, v) ∷ [] → each_day (value_in nothing ys) ≡ changed_on (holds p) (λ _. v) 0 days
put-days nothing xs ys p v days view is =
    ap (λ es. each_day (value_in nothing es)) is
    ∙ each_day-same (value_in nothing (xs ++ (p, v) ∷ [])) (λ n. if holds p n then v else value_in nothing xs n) (λ n l. value_in-last nothing xs (p, v) n)
    ∙ sym (changed_on-each_day (holds p) (λ _. v) (value_in nothing xs))
    ∙ ap (changed_on (holds p) (λ _. v) 0) view

-- the days of a period that have the empty value are held by no period
pub free-days : {V : Type 0} (nothing : V) (xs : List (DayRange × V)) (p : DayRange) (days : List V) → p.last < 36525 → All (λ (given : DayRange × V). given.1 ≢ nothing) xs → each_day (value_in nothing xs) ≡ days → ((n : ℕ) → holds p n ≡ true → slice_index_or days n nothing ≡ nothing) → (n : ℕ) → holds p n ≡ true → held_on xs n ≡ []
free-days nothing xs p days fits all view free n h =
    let to = (holds-Holds p n h).1 in
    none-held nothing xs n all (sym (index-each_day (value_in nothing xs) n nothing (omega arith)) ∙ ap (λ ds. slice_index_or ds n nothing) view ∙ free n h)

-- days that no period holds have the empty value
pub days-free : {V : Type 0} (nothing : V) (xs : List (DayRange × V)) (p : DayRange) (days : List V) → each_day (value_in nothing xs) ≡ days → ((n : ℕ) → holds p n ≡ true → held_on xs n ≡ []) → (n : ℕ) → holds p n ≡ true → slice_index_or days n nothing ≡ nothing
days-free nothing xs p days view none n h =
    let size : length days ≡ 36525 = sym (ap length view) ∙ length-each_day (value_in nothing xs) in
    elim (le_or_lt (length days) n) [
      | inl past ↦ index-past nothing days n past
      | inr within ↦ ap (λ ds. slice_index_or ds n nothing) (sym view) ∙ index-each_day (value_in nothing xs) n nothing (omega arith) ∙ value_in-none nothing xs n (none n h)
    ]

pub put-once : {V : Type 0} (xs : List (DayRange × V)) (p : DayRange) (v : V) → ((n : ℕ) → holds p n ≡ true → held_on xs n ≡ []) → ((n : ℕ) → length (held_on xs n) ≤ 1) → (n : ℕ) → length (held_on (xs ++ (p, v) ∷ []) n) ≤ 1
put-once {V} xs p v free once n =
    rw (held_on-append xs ((p, v) ∷ []) n)
    (elim (holds p n) as (λ b. holds p n ≡ b → length (held_on xs n ++ (if b then v ∷ [] else [])) ≤ 1) [
      | true ↦ λ h. rw (free n h) (omega arith)
      | false ↦ λ h. few (held_on xs n) (once n)
    ] refl)
  where
    few : (vs : List V) → length vs ≤ 1 → length (vs ++ []) ≤ 1
    few [] l = l
    few (w ∷ []) l = l
    few (w ∷ u ∷ vs) l = absurd (omega arith)

-- the list with one more period has no day twice either
pub put-apart : {V : Type 0} (nothing : V) (xs ys : List (DayRange × V)) (cuts more : List ℕ) (p : DayRange) (v : V) (days : List V) (first end : ℕ) → AreApart nothing xs cuts → each_day (value_in nothing xs) ≡ days → ((n : ℕ) → holds p n ≡ true → slice_index_or days n nothing ≡ nothing) → v ≢ nothing → first ≡ p.first → end ≡ p.last + 1 → p.first ≤ p.last → p.last < 36525 → ys ≡ xs ++ (p, v) ∷ [] → more ≡ with_cut (with_cut cuts first) end → AreApart nothing ys more
put-apart {V} nothing xs ys cuts more p v days first end a view free some f e ordered fits is cut =
    subst (λ (es : List (DayRange × V)). AreApart nothing es more) (sym is) (subst (λ (cs : List ℕ). AreApart nothing (xs ++ (p, v) ∷ []) cs) (sym cut) (record {
      once = put-once xs p v (free-days nothing xs p days fits a.given view free) a.once;
      given = All-push (λ (given : DayRange × V). given.1 ≢ nothing) xs (p, v) a.given some;
      divided = All-push (λ (given : DayRange × V). Contains new given.0.first × Contains new (given.0.last + 1)) xs (p, v)
          (λ k d l. let old = a.divided k d l in (kept _ old.0, kept _ old.1))
          (subst (Contains new) f (with_cut-keeps (with_cut cuts first) end first (with_cut-own cuts first)), subst (Contains new) e (with_cut-own (with_cut cuts first) end));
      rising = rising-with_cut (with_cut cuts first) end (rising-with_cut cuts first a.rising);
      in_calendar = All-with_cut (λ c. c ≤ 36525) (with_cut cuts first) end (All-with_cut (λ c. c ≤ 36525) cuts first a.in_calendar (omega arith)) (omega arith);
    }))
  where
    new : List ℕ
    new = with_cut (with_cut cuts first) end

    kept : (c : ℕ) → Contains cuts c → Contains new c
    kept c h = with_cut-keeps (with_cut cuts first) end c (with_cut-keeps cuts first c h)

-- ---- a change of days that have the empty value

pub changed-free : {V : Type 0} (s : ℕ → Bool) (f g : V → V) (e : V) (a : ℕ) (days : List V) → ((n : ℕ) → s (a + n) ≡ true → slice_index_or days n e ≡ e) → f e ≡ g e → changed_on s f a days ≡ changed_on s g a days
changed-free s f g e a [] free same = refl
changed-free {V} s f g e a (v ∷ days) free same =
    let start : a ≡ a + 0 = omega arith in
    let rest = changed-free s f g e (a + 1) days (λ n h. let at : a + 1 + n ≡ a + suc n = omega arith in free (suc n) (sym (ap s at) ∙ h)) same in
    let here : (if s a then f v else v) ≡ (if s a then g v else v) = elim (s a) as (λ b. s a ≡ b → (if b then f v else v) ≡ (if b then g v else v)) [
      | true ↦ λ t. let is : v ≡ e = free 0 (sym (ap s start) ∙ t) in ap f is ∙ same ∙ ap g (sym is)
      | false ↦ λ t. refl
    ] refl in
    ap (λ w. w ∷ changed_on s f (a + 1) days) here ∙ ap (λ ds. (if s a then g v else v) ∷ ds) rest

unchanged : {V : Type 0} (s : ℕ → Bool) (a : ℕ) (days : List V) → changed_on s (λ v. v) a days ≡ days
unchanged s a [] = refl
unchanged s a (v ∷ days) = ap (λ w. w ∷ changed_on s (λ v. v) (a + 1) days) (elim (s a) as (λ b. (if b then v else v) ≡ v) [ true ↦ refl | false ↦ refl ]) ∙ ap (λ ds. v ∷ ds) (unchanged s (a + 1) days)

at-zero : (s : ℕ → Bool) (n : ℕ) → s (0 + n) ≡ s n
at-zero s n = let same : 0 + n ≡ n = omega arith in ap s same

pub free-changed : {V : Type 0} (s : ℕ → Bool) (f g : V → V) (e : V) (days : List V) → ((n : ℕ) → s n ≡ true → slice_index_or days n e ≡ e) → f e ≡ g e → changed_on s f 0 days ≡ changed_on s g 0 days
free-changed s f g e days free same = changed-free s f g e 0 days (λ n h. free n (sym (at-zero s n) ∙ h)) same

pub free-kept : {V : Type 0} (s : ℕ → Bool) (f : V → V) (e : V) (days : List V) → ((n : ℕ) → s n ≡ true → slice_index_or days n e ≡ e) → f e ≡ e → changed_on s f 0 days ≡ days
free-kept s f e days free same = free-changed s f (λ v. v) e days free same ∙ unchanged s 0 days

index-seven : {V : Type 0} (e : V) (row : List V) (s : ℕ) → row ≡ e ∷ e ∷ e ∷ e ∷ e ∷ e ∷ e ∷ [] → slice_index_or row s e ≡ e
index-seven {V} e row s is = ap (λ r. slice_index_or r s e) is ∙ at s
  where
    at : (s : ℕ) → slice_index_or (e ∷ e ∷ e ∷ e ∷ e ∷ e ∷ e ∷ []) s e ≡ e
    at zero = refl
    at (suc zero) = refl
    at (suc (suc zero)) = refl
    at (suc (suc (suc zero))) = refl
    at (suc (suc (suc (suc zero)))) = refl
    at (suc (suc (suc (suc (suc zero))))) = refl
    at (suc (suc (suc (suc (suc (suc zero)))))) = refl
    at (suc (suc (suc (suc (suc (suc (suc s))))))) = refl

-- a value of a week without values
pub index-week : {V : Type 0} (e x : V) (row : List V) (s : ℕ) → row ≡ empty_week e → s < 7 → slice_index_or row s x ≡ e
index-week e x row s is lt = index-default row s x e (let seven = ap length is in omega arith) ∙ index-seven e row s is

pub no-rows : {V : Type 0} (row : List V) → length row ≡ 7 → AreRows row [] []
no-rows row week = record {
  rising = λ k l. absurd (omega arith);
  in_calendar = λ k d l. absurd (omega arith);
  row_count = refl;
  week = week;
  weeks = λ k d l. absurd (omega arith);
}

-- ---- days without a cut between them

pub holds-same : (p : DayRange) (m n : ℕ) → m ≤ n → slot m ≡ slot n → (m < p.first → n < p.first) → (m < p.last + 1 → n < p.last + 1) → holds p m ≡ holds p n
holds-same p m n le same low high =
    let a : nat_le p.first m ≡ nat_le p.first n = grind (arith, nat_tests) in
    let b : nat_le m p.last ≡ nat_le n p.last = grind (arith, nat_tests) in
    ap (λ x. (x && nat_le m p.last) && slice_index_or p.days (slot m) false) a
    ∙ ap (λ x. (nat_le p.first n && x) && slice_index_or p.days (slot m) false) b
    ∙ ap (λ s. (nat_le p.first n && nat_le n p.last) && slice_index_or p.days s false) same

weekly-from : {V : Type 0} (nothing : V) (xs : List (DayRange × V)) (cuts : List ℕ) (m n : ℕ) → m ≤ n → slot m ≡ slot n → AreDivided cuts xs → ((cut : ℕ) → Contains cuts cut → m < cut → n < cut) → value_in nothing xs m ≡ value_in nothing xs n
weekly-from nothing [] cuts m n le same ends gap = refl
weekly-from nothing (x ∷ xs) cuts m n le same ends gap =
    let own = ends 0 x (omega arith) in
    ap (λ b. value_in (if b then x.1 else nothing) xs m) (holds-same x.0 m n le same (gap x.0.first own.0) (gap (x.0.last + 1) own.1))
    ∙ weekly-from (if holds x.0 n then x.1 else nothing) xs cuts m n le same (λ k d l. ends (suc k) d (omega arith)) gap

pub weekly : {V : Type 0} (nothing : V) (xs : List (DayRange × V)) (cuts read : List ℕ) (days : List V) (m n : ℕ) → each_day (value_in nothing xs) ≡ days → AreDivided cuts xs → read ≡ cuts → m ≤ n → n < 36525 → weekday m ≡ weekday n → ((cut : ℕ) → Contains read cut → m < cut → n < cut) → slice_get days m ≡ slice_get days n
weekly nothing xs cuts read days m n view ends is le lt same free =
    let slots : slot m ≡ slot n = omega arith in
    let gap : (cut : ℕ) → Contains cuts cut → m < cut → n < cut = subst (λ cs. (cut : ℕ) → Contains cs cut → m < cut → n < cut) is free in
    ap (λ ds. slice_get ds m) (sym view) ∙ get-each_day (value_in nothing xs) m (omega arith)
    ∙ ap Some (weekly-from nothing xs cuts m n le slots ends gap)
    ∙ sym (get-each_day (value_in nothing xs) n lt) ∙ ap (λ ds. slice_get ds n) view
