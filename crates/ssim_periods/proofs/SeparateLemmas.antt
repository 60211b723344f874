-- The cover of a period and of days that come long after it: the period, then the cover of these
-- days. Up to the break only the period holds days, and after it only the others do.
use Rattle.std.proofs.Common.{◌≡◌, ℕ, zero, suc, ◌+◌, ◌-◌, ◌<◌, ◌≤◌, Bool, true, false, ◌||◌, if◌then◌else◌, nat_lt, List, [], ◌∷◌, ◌++◌, length, map, drop, slice_index_or, refl, ap, subst, sym, ◌∙◌, arith, inl, inr}
use Rattle.std.proofs.Math.Bool.{or-false}
use Rattle.std.specs.List.{flat_map}
use Rattle.std.proofs.Math.Path.{fun_ext}
use Rattle.std.proofs.lemmas.List.{drop_more, map-append}
use Rattle.ssim_values.specs.Period.{DayRange}
use Rattle.ssim_periods.specs.internal.Apart.{held_cover, is_held}
use Rattle.ssim_periods.specs.Calendar.{day_count, holds}
use Rattle.ssim_values.specs.Calendar.{first_on, slot}
use Rattle.ssim_periods.specs.Cover.{first_where, last_where, weekdays_of, differ, breaks, break_after, period_at, cover_from, cover}
use Rattle.ssim_periods.proofs.CoverLemmas.{le_or_lt, first_where-none, first_where-is, first_where-either, first_where-same, last_where-is, last_where-at, last_where-same, differ-same, break_after-is}
use Rattle.ssim_periods.proofs.CoverSteps.{cover_at, cover_from-at, cover_at-next, cover_at-end, first_where-low, first_where-found, range-is}
use Rattle.ssim_periods.proofs.DayLemmas.{day_count-is}

-- ---- sets that agree from a day on have the same cover from it on

week-same : (s t : ℕ → Bool) (a : ℕ) → ((n : ℕ) → a ≤ n → n < a + 7 → s n ≡ t n) → weekdays_of s a ≡ weekdays_of t a
week-same s t a same =
    let at = λ (w : ℕ) (h : w < 7). same (first_on w a) (omega arith) (omega arith) in
    let b = at 0 (omega arith) in let c = at 1 (omega arith) in let d = at 2 (omega arith) in let e = at 3 (omega arith) in let f = at 4 (omega arith) in let g = at 5 (omega arith) in let h = at 6 (omega arith) in
    cc

cover_from-same : (k : ℕ) (s t : ℕ → Bool) (from end : ℕ) → ((n : ℕ) → from ≤ n → s n ≡ t n) → cover_from k s from end ≡ cover_from k t from end
cover_from-same zero s t from end same = refl
cover_from-same (suc k) s t from end same =
    let a = first_where s from (end - from) in
    let low = first_where-low s from (end - from) in
    let start : a ≡ first_where t from (end - from) = first_where-same s t from (end - from) (λ m l h. same m l) in
    let week = week-same s t a (λ n l h. same n (omega arith)) in
    let b = break_after s a end in
    let later : a ≤ b = first_where-low (breaks s (weekdays_of s a)) a (end - a) in
    let break_is : b ≡ break_after t a end = first_where-same (breaks s (weekdays_of s a)) (breaks t (weekdays_of s a)) a (end - a) (λ m l h. ap (λ c. differ c (slice_index_or (weekdays_of s a) (slot m) false)) (same m (omega arith)))
    ∙ ap (λ w. first_where (breaks t w) a (end - a)) week in
    let last_is : last_where s a (b - a) ≡ last_where t a (b - a) = last_where-same s t a (b - a) (λ m l h. same m (omega arith)) in
    let own : period_at s a b ≡ period_at t a b = ap (λ l. made a l (weekdays_of s a)) last_is ∙ ap (made a (last_where t a (b - a))) week in
    let rest = cover_from-same k s t b end (λ n l. same n (omega arith)) in
    elim (nat_lt a end) as (λ c. (if c then period_at s a b ∷ cover_from k s b end else []) ≡ (if c then period_at t a b ∷ cover_from k t b end else [])) [
      | true ↦ ap (λ p. p ∷ cover_from k s b end) own ∙ ap (λ ps. period_at t a b ∷ ps) rest
      | false ↦ refl
    ]
    ∙ ap (λ c. if nat_lt a end then period_at t a c ∷ cover_from k t c end else []) break_is
    ∙ ap (λ c. if nat_lt c end then period_at t c (break_after t c end) ∷ cover_from k t (break_after t c end) end else []) start
  where
    made : ℕ → ℕ → List Bool → DayRange
    made f l d = record { first = f; last = l; days = d }

-- ---- a set that one period covers

pub record IsAlone (is_in : ℕ → Bool) (end : ℕ) (t : DayRange) : Type 0 where
  pub here : is_in t.first ≡ true
  pub early : (n : ℕ) → n < t.first → is_in n ≡ false
  pub days : t.days ≡ weekdays_of is_in t.first
  pub ordered : t.first ≤ t.last
  pub high : t.last < end
  pub own : is_in t.last ≡ true
  pub like : (n : ℕ) → t.first ≤ n → n ≤ t.last → is_in n ≡ slice_index_or t.days (slot n) false
  pub late : (n : ℕ) → t.last < n → n < end → is_in n ≡ false

pub alone : (is_in : ℕ → Bool) (end : ℕ) (t : DayRange) → cover is_in end ≡ t ∷ [] → IsAlone is_in end t
alone is_in end t is =
    let a = first_where is_in 0 (end - 0) in
    let at : cover_at is_in end a ≡ t ∷ [] = sym (cover_from-at end is_in 0 end (omega arith)) ∙ is in
    elim (le_or_lt end a) [
      | inl none ↦ let empty = cover_at-end is_in end a none in absurd cc
      | inr lt ↦
          let b = break_after is_in a end in
          let c = first_where is_in b (end - b) in
          let next : period_at is_in a b ∷ cover_at is_in end c ≡ t ∷ [] = sym (cover_at-next is_in end a lt) ∙ at in
          let own : period_at is_in a b ≡ t = cc in
          let rest : cover_at is_in end c ≡ [] = cc in
          let no_more : end ≤ c = elim (le_or_lt end c) [ inl l ↦ l | inr more ↦ let some = sym (cover_at-next is_in end c more) ∙ rest in absurd cc ] in
          let facts = break_after-is is_in a end lt in
          let later = facts.0 in let within = facts.1 in
          let here = first_where-found is_in 0 (end - 0) (omega arith) in
          let last = last_where is_in a (b - a) in
          let l = last_where-is is_in a (b - a) here in
          let low = l.0 in let high = l.1 in
          subst (IsAlone is_in end) own (record {
            here = here;
            early = λ n h. elim (first_where-either is_in 0 (end - 0)) [ inl none ↦ none.1 n (omega arith) (omega arith) | inr some ↦ some.3 n (omega arith) h ];
            days = refl;
            ordered = low;
            high = omega arith;
            own = l.2;
            like = λ n from to. facts.2 n from (omega arith);
            late = λ n after h. elim (le_or_lt b n) [
              | inl past ↦ elim (first_where-either is_in b (end - b)) [ inl none ↦ none.1 n past (omega arith) | inr some ↦ let lt = some.1 in absurd (omega arith) ]
              | inr before ↦ l.3 n after (omega arith)
            ];
          })
    ]

-- ---- a period before other days

first_where-later : (test : ℕ → Bool) (b end : ℕ) → b ≤ end → ((n : ℕ) → n < b → test n ≡ false) → first_where test 0 (end - 0) ≡ first_where test b (end - b)
first_where-later test b end le none =
    elim (first_where-either test b (end - b)) [
      | inl never ↦ let at = never.0 in first_where-none test 0 (end - 0) (λ m l h. elim (le_or_lt b m) [ inl x ↦ never.1 m x (omega arith) | inr y ↦ none m y ]) ∙ omega arith
      | inr some ↦ let low = some.0 in let high = some.1 in first_where-is test 0 (end - 0) (first_where test b (end - b)) (omega arith) (omega arith) some.2 (λ m l h. elim (le_or_lt b m) [ inl x ↦ some.3 m x h | inr y ↦ none m y ])
    ]

cover-before : (is_in rest : ℕ → Bool) (end next d : ℕ) (t : DayRange) → IsAlone is_in end t → ((n : ℕ) → end ≤ n → is_in n ≡ false) → ((n : ℕ) → n < next → rest n ≡ false) → next ≤ end → t.first + 7 ≤ next → t.last < d → d < next → slice_index_or t.days (slot d) false ≡ true → cover (λ n. is_in n || rest n) end ≡ t ∷ cover rest end
cover-before is_in rest end next d t v past none fits week after before on =
    let s : ℕ → Bool = λ n. is_in n || rest n in
    let a = t.first in let ordered = v.ordered in let high = v.high in
    let first = λ (n : ℕ) (h : n < next). ap (λ b. is_in n || b) (none n h) ∙ or-false (is_in n) in
    let second = λ (n : ℕ) (h : t.last < n). ap (λ b. b || rest n) (elim (le_or_lt end n) [ inl x ↦ past n x | inr y ↦ v.late n h y ]) in
    let start : first_where s 0 (end - 0) ≡ a = first_where-is s 0 (end - 0) a (omega arith) (omega arith) (first a (omega arith) ∙ v.here) (λ m l h. first m (omega arith) ∙ v.early m h) in
    let days : weekdays_of s a ≡ t.days = week-same s is_in a (λ n l h. first n (omega arith)) ∙ sym v.days in
    let b = break_after s a end in
    let facts = break_after-is s a end (omega arith) in
    let low = facts.0 in
    let to : b ≤ d = elim (le_or_lt b d) [
      | inl l ↦ l
      | inr lt ↦
          let set = sym (first d before ∙ v.late d after (omega arith)) ∙ facts.2 d (omega arith) lt ∙ ap (λ ds. slice_index_or ds (slot d) false) days ∙ on in
          absurd cc
    ] in
    let from : t.last < b = elim (le_or_lt b t.last) [
      | inr lt ↦ lt
      | inl le ↦ elim (first_where-either (breaks s (weekdays_of s a)) a (end - a)) [
        | inl never ↦ let at = never.0 in absurd (omega arith)
        | inr some ↦
            let like = first b (omega arith) ∙ v.like b (omega arith) le ∙ sym (ap (λ ds. slice_index_or ds (slot b) false) days) in
            let quiet = differ-same (s b) (slice_index_or (weekdays_of s a) (slot b) false) like in
            let loud = some.2 in absurd cc
      ]
    ] in
    let last : last_where s a (b - a) ≡ t.last = last_where-at s a (b - a) t.last ordered (omega arith) (first t.last (omega arith) ∙ v.own) (λ m x y. first m (omega arith) ∙ v.late m x (omega arith)) in
    let own : t ≡ period_at s a b = range-is t a (last_where s a (b - a)) (weekdays_of s a) refl (sym last) (sym days) in
    let more : cover_at s end (first_where s b (end - b)) ≡ cover rest end =
    sym (cover_from-at end s b end (omega arith)) ∙ cover_from-same end s rest b end (λ n l. second n (omega arith)) ∙ cover_from-at end rest b end (omega arith)
    ∙ ap (cover_at rest end) (sym (first_where-later rest b end facts.1 (λ n h. none n (omega arith)))) ∙ sym (cover_from-at end rest 0 end (omega arith)) in
    cover_from-at end s 0 end (omega arith) ∙ ap (cover_at s end) start ∙ cover_at-next s end a (omega arith)
    ∙ ap (λ ps. period_at s a b ∷ ps) more ∙ ap (λ p. p ∷ cover rest end) (sym own)

-- ---- one more period before those of a list

held-at : (ps : List DayRange) (i : ℕ) (p : DayRange) (n : ℕ) → i < length ps → p ≡ slice_index_or ps i p → is_held ps n ≡ false → holds p n ≡ false
held-at [] i p n l is none = absurd (omega arith)
held-at (x ∷ ps) zero p n l is none = ap (λ q. holds q n) is ∙ left (holds x n) (is_held ps n) none
  where
    left : (a b : Bool) → (a || b) ≡ false → a ≡ false
    left true b h = h
    left false b h = refl
held-at (x ∷ ps) (suc i) p n l is none = held-at ps i p n (omega arith) is (right (holds x n) (is_held ps n) none)
  where
    right : (a b : Bool) → (a || b) ≡ false → b ≡ false
    right true b h = absurd cc
    right false b h = h

abbrev pub each_cover : DayRange → List DayRange
each_cover p = cover (is_held (p ∷ [])) day_count

pub separate-more : (ps : List DayRange) (i j : ℕ) (p t : DayRange) (next d : ℕ) → j + 1 ≡ i → j < length ps → p ≡ slice_index_or ps j p → ((n : ℕ) → 36525 ≤ n → is_held ps n ≡ false) → cover (holds p) day_count ≡ t ∷ []
    → ((n : ℕ) → n < next → is_held (drop i ps) n ≡ false) → next ≤ 36525 → t.first + 7 ≤ next → t.last < d → d < next → slice_index_or t.days (slot d) false ≡ true
    → cover (is_held (drop i ps)) day_count ≡ flat_map each_cover (drop i ps) → cover (is_held (drop j ps)) day_count ≡ flat_map each_cover (drop j ps)
separate-more ps i j p t next d up lt is past one none fits week after before on so =
    let here : drop j ps ≡ p ∷ drop i ps = drop_more ps j p lt ∙ ap (λ k. slice_index_or ps j p ∷ drop k ps) up ∙ ap (λ q. q ∷ drop i ps) (sym is) in
    let single : each_cover p ≡ t ∷ [] = ap (λ f. cover f day_count) (fun_ext (λ n. or-false (holds p n))) ∙ one in
    let past_own = λ (n : ℕ) (h : day_count ≤ n). held-at ps j p n lt is (past n (rw day_count-is at h)) in
    let both = cover-before (holds p) (is_held (drop i ps)) day_count next d t (alone (holds p) day_count t one) past_own none (rw day_count-is fits) week after before on in
    ap (λ qs. cover (is_held qs) day_count) here ∙ both ∙ ap (λ l. t ∷ l) so ∙ sym (ap (λ l. l ++ flat_map each_cover (drop i ps)) single) ∙ sym (ap (flat_map each_cover) here)

-- no day of the list is before the first day of its first period
pub none-earlier : (ps : List DayRange) (i j : ℕ) (p t : DayRange) (next n : ℕ) → j + 1 ≡ i → j < length ps → p ≡ slice_index_or ps j p → cover (holds p) day_count ≡ t ∷ [] → is_held (drop i ps) n ≡ false → n < t.first → is_held (drop j ps) n ≡ false
none-earlier ps i j p t next n up lt is one none early =
    let here : drop j ps ≡ p ∷ drop i ps = drop_more ps j p lt ∙ ap (λ k. slice_index_or ps j p ∷ drop k ps) up ∙ ap (λ q. q ∷ drop i ps) (sym is) in
    ap (λ qs. is_held qs n) here ∙ ap (λ b. b || is_held (drop i ps) n) ((alone (holds p) day_count t one).early n early) ∙ none

map-flat : {X Y Z : Type 0} (f : Y → Z) (g : X → List Y) (xs : List X) → map f (flat_map g xs) ≡ flat_map (λ x. map f (g x)) xs
map-flat f g [] = refl
map-flat f g (x ∷ xs) = map-append f (g x) (flat_map g xs) ∙ ap (λ l. map f (g x) ++ l) (map-flat f g xs)

pub cover-separate : {V : Type 0} (ps : List DayRange) (v : V) → cover (is_held ps) day_count ≡ flat_map each_cover ps → flat_map (λ p. held_cover (p ∷ []) v) ps ≡ held_cover ps v
cover-separate {V} ps v is = sym (map-flat with_value each_cover ps) ∙ ap (map with_value) (sym is)
  where
    with_value : DayRange → DayRange × V
    with_value p = (p, v)
