-- A run after n of its steps: each desk holds what it held and what the steps before number n
-- brought it.
use Rattle.std.proofs.Common.{◌≡◌, ◌⊎◌, inl, inr, ℕ, zero, suc, ◌+◌, ◌-◌, ◌<◌, ◌≤◌, List, [], ◌∷◌, length, Some, None, All, refl, sym, ap, subst, ◌∙◌, arith}
use Rattle.std.proofs.lemmas.Bool.{cases_lt}
use Rattle.std.proofs.lemmas.List.Elements.{recursion_from_All}
use Rattle.std.specs.List.{AllByRecursion, slice_get}
use Rattle.ssim_text.specs.Grammar.{OneMessage}
use Rattle.ssim_text.specs.Message.{MessageValue}
use Rattle.ssim_text.specs.declared.reference.Reference.{Reference}
use Rattle.ssim_held.specs.Held.{DeskState}
use Rattle.ssim_desk.specs.Deliveries.{Brings, HoldsWhatReached, IsStep, Reached, by_text, from_start, from_step, is_accepted}
use Rattle.ssim_desk.specs.Steps.{Acts, IsInRange, Runs}
use Rattle.ssim_desk.specs.declared.steps.Answer.{Answer}
use Rattle.ssim_desk.specs.declared.steps.Answer.TheVariants.{Merged}
use Rattle.ssim_desk.specs.declared.steps.Step.{Step}
use Rattle.ssim_desk.specs.declared.steps.Step.TheVariants.{Take, Merge}
use Rattle.ssim_desk.proofs.Reaching.{Adds, Reaching, SoFar, at_start, so_far_too, step_keeps}

same_some : {A : Type 0} (x y : A) → Some x ≡ Some y → x ≡ y
same_some x y e = cc

-- what the steps before number n brought
abbrev pub Before : List DeskState → List Step → List Answer → ℕ → Reaching
Before start steps answers n d r m = (k : ℕ) × (k < n) × Brings start steps answers k d r m

-- ---- one step more

module _ (start : List DeskState) (steps : List Step) (answers : List Answer) (n : ℕ) (step : Step) (answer : Answer) (at : IsStep steps answers n step answer) where
  brought : (s : Step) → slice_get steps n ≡ Some s → (d : ℕ) (r : Reference) (m : MessageValue) → Adds start (Before start steps answers n) s answer d r m
      → Before start steps answers (n + 1) d r m
  brought (Take i text) is d r m (same, (accepted, says)) =
      (n, omega arith, subst (λ x. Brings start steps answers n x r m) (sym same) (by_text text answer (is, at.1) accepted says))
  brought (Merge into from) is d r m (same, (merged, inl held)) =
      (n, omega arith, subst (λ x. Brings start steps answers n x r m) (sym same) (from_start from (is, at.1 ∙ ap Some merged) held))
  brought (Merge into from) is d r m (same, (merged, inr (j, lt, b))) =
      (n, omega arith, subst (λ x. Brings start steps answers n x r m) (sym same) (from_step from j (is, at.1 ∙ ap Some merged) lt b))

  -- what a step brought before the next number
  more : (d : ℕ) (r : Reference) (m : MessageValue) → Before start steps answers n d r m ⊎ Adds start (Before start steps answers n) step answer d r m
      → Before start steps answers (n + 1) d r m
  more d r m (inl (k, lt, b)) = (k, omega (arith, lt), b)
  more d r m (inr adds) = brought step at.0 d r m adds

  now_by : {k d : ℕ} {r : Reference} {m : MessageValue} → Brings start steps answers k d r m → k ≡ n → Adds start (Before start steps answers n) step answer d r m
  now_by (by_text {d = d} {reference = r} {message = m} text a is accepted says) e =
      subst (λ s. Adds start (Before start steps answers n) s answer d r m) (same_some (Take d text) step (sym is.0 ∙ ap (slice_get steps) e ∙ at.0))
      (refl, (ap is_accepted (same_some answer a (sym at.1 ∙ ap (slice_get answers) (sym e) ∙ is.1)) ∙ accepted, says))
  now_by (from_start {d = d} {reference = r} {message = m} from is held) e =
      subst (λ s. Adds start (Before start steps answers n) s answer d r m) (same_some (Merge d from) step (sym is.0 ∙ ap (slice_get steps) e ∙ at.0))
      (refl, (same_some answer Merged (sym at.1 ∙ ap (slice_get answers) (sym e) ∙ is.1), inl held))
  now_by (from_step {d = d} {reference = r} {message = m} from j is lt b) e =
      subst (λ s. Adds start (Before start steps answers n) s answer d r m) (same_some (Merge d from) step (sym is.0 ∙ ap (slice_get steps) e ∙ at.0))
      (refl, (same_some answer Merged (sym at.1 ∙ ap (slice_get answers) (sym e) ∙ is.1), inr (j, subst (λ x. j < x) e lt, b)))

  less : (d : ℕ) (r : Reference) (m : MessageValue) → Before start steps answers (n + 1) d r m
      → Before start steps answers n d r m ⊎ Adds start (Before start steps answers n) step answer d r m
  less d r m (k, lt, b) = by (cases_lt k n)
    where
      by : ((k < n) ⊎ (n ≤ k)) → Before start steps answers n d r m ⊎ Adds start (Before start steps answers n) step answer d r m
      by (inl earlier) = inl (k, earlier, b)
      by (inr le) = inr (now_by b (omega (arith, lt, le)))

-- ---- runs

-- these are the elements from number n on
abbrev AreLeft : {A : Type 0} → List A → List A → ℕ → Type 0
AreLeft left all n = (j : ℕ) → slice_get left j ≡ slice_get all (n + j)

first_left : {A : Type 0} (x : A) (left all : List A) (n : ℕ) → AreLeft (x ∷ left) all n → slice_get all n ≡ Some x
first_left x left all n are = let here : n + 0 ≡ n = omega arith in ap (slice_get all) (sym here) ∙ sym (are 0)

later_left : {A : Type 0} (x : A) (left all : List A) (n : ℕ) → AreLeft (x ∷ left) all n → AreLeft left all (n + 1)
later_left x left all n are j = let next : n + suc j ≡ (n + 1) + j = omega arith in are (suc j) ∙ ap (slice_get all) next

-- the moment at which a step of a run acts
pub record Moment (start : List DeskState) (steps : List Step) (answers : List Answer) (step : Step) (answer : Answer) : Type 0 where
  pub n : ℕ
  pub now : List DeskState
  pub next : List DeskState
  pub so_far : SoFar start now (Before start steps answers n)
  pub in_range : IsInRange (length start) step
  pub acts : Acts now step answer next

module _ (one : OneMessage) (start : List DeskState) (steps : List Step) (answers : List Answer) where
  next_so_far : (n : ℕ) (now next : List DeskState) (step : Step) (answer : Answer) → IsStep steps answers n step answer → IsInRange (length start) step
      → Acts now step answer next → SoFar start now (Before start steps answers n) → SoFar start next (Before start steps answers (n + 1))
  next_so_far n now next step answer at within acts far =
      so_far_too start next (λ d r m. Before start steps answers n d r m ⊎ Adds start (Before start steps answers n) step answer d r m) (Before start steps answers (n + 1))
      (more start steps answers n step answer at) (less start steps answers n step answer at)
      (step_keeps one start now next (Before start steps answers n) step answer within acts far)

  -- no step is left, so each of them came before
  all_before : (n : ℕ) → AreLeft [] steps n → (d : ℕ) (r : Reference) (m : MessageValue) → Reached start steps answers d r m → Before start steps answers n d r m
  all_before n none d r m (k, b) = by (cases_lt k n)
    where
      step_of : {k d : ℕ} {r : Reference} {m : MessageValue} → Brings start steps answers k d r m → (s : Step) × (slice_get steps k ≡ Some s)
      step_of (by_text {d = d} text a is accepted says) = (Take d text, is.0)
      step_of (from_start {d = d} from is held) = (Merge d from, is.0)
      step_of (from_step {d = d} from j is lt b) = (Merge d from, is.0)

      by : ((k < n) ⊎ (n ≤ k)) → Before start steps answers n d r m
      by (inl lt) = (k, lt, b)
      by (inr le) =
          let there : n + (k - n) ≡ k = omega (arith, le) in
          let found = step_of b in
          let never : None ≡ Some found.0 = none (k - n) ∙ ap (slice_get steps) there ∙ found.1 in
          absurd cc

  run_so_far : (n : ℕ) (now after : List DeskState) (left : List Step) (told : List Answer) → AreLeft left steps n → AreLeft told answers n
      → AllByRecursion (IsInRange (length start)) left → Runs now left told after → SoFar start now (Before start steps answers n)
      → SoFar start after (Reached start steps answers)
  run_so_far n now after [] [] steps_left answers_left within runs far =
      subst (λ x. SoFar start x (Reached start steps answers)) (sym runs)
      (so_far_too start now (Before start steps answers n) (Reached start steps answers) (λ d r m h. (h.0, h.2)) (all_before n steps_left) far)
  run_so_far n now after [] (answer ∷ told) steps_left answers_left within runs far = absurd runs
  run_so_far n now after (step ∷ left) [] steps_left answers_left within runs far = absurd runs
  run_so_far n now after (step ∷ left) (answer ∷ told) steps_left answers_left within (between, acts, runs) far =
      run_so_far (n + 1) between after left told (later_left step left steps n steps_left) (later_left answer told answers n answers_left) within.1 runs
      (next_so_far n now between step answer (first_left step left steps n steps_left, first_left answer told answers n answers_left) within.0 acts far)

  -- the moment of each step that is left
  moment_of : (n : ℕ) (now after : List DeskState) (left : List Step) (told : List Answer) → AreLeft left steps n → AreLeft told answers n
      → AllByRecursion (IsInRange (length start)) left → Runs now left told after → SoFar start now (Before start steps answers n)
      → (j : ℕ) (step : Step) (answer : Answer) → slice_get left j ≡ Some step → slice_get told j ≡ Some answer → Moment start steps answers step answer
  moment_of n now after [] told steps_left answers_left within runs far j step answer is_step is_answer = let never : None ≡ Some step = is_step in absurd cc
  moment_of n now after (s ∷ left) [] steps_left answers_left within runs far j step answer is_step is_answer = absurd runs
  moment_of n now after (s ∷ left) (a ∷ told) steps_left answers_left within (between, acts, runs) far zero step answer is_step is_answer =
      let same_step : s ≡ step = same_some s step is_step in
      let same_answer : a ≡ answer = same_some a answer is_answer in
      subst (λ x. Moment start steps answers x answer) same_step (subst (λ x. Moment start steps answers s x) same_answer
      (record { n = n; now = now; next = between; so_far = far; in_range = within.0; acts = acts }))
  moment_of n now after (s ∷ left) (a ∷ told) steps_left answers_left within (between, acts, runs) far (suc j) step answer is_step is_answer =
      moment_of (n + 1) between after left told (later_left s left steps n steps_left) (later_left a told answers n answers_left) within.1 runs
      (next_so_far n now between s a (first_left s left steps n steps_left, first_left a told answers n answers_left) within.0 acts far)
      j step answer is_step is_answer

-- nothing comes before the first step
none_before : (start : List DeskState) (steps : List Step) (answers : List Answer) (d : ℕ) (r : Reference) (m : MessageValue) → Before start steps answers 0 d r m → ⊥
none_before start steps answers d r m (k, lt, b) = absurd (omega (arith, lt))

all_left : {A : Type 0} (xs : List A) → AreLeft xs xs 0
all_left xs j = let same : j ≡ 0 + j = omega arith in ap (slice_get xs) same

-- at the end of a run
pub at_end : OneMessage → (start after : List DeskState) (steps : List Step) (answers : List Answer) → All (IsInRange (length start)) steps → Runs start steps answers after
    → SoFar start after (Reached start steps answers)
at_end one start after steps answers within runs =
    run_so_far one start steps answers 0 start after steps answers (all_left steps) (all_left answers) (recursion_from_All (IsInRange (length start)) steps within) runs
    (at_start start (Before start steps answers 0) (none_before start steps answers))

-- when a step acts
pub at_step : OneMessage → (start after : List DeskState) (steps : List Step) (answers : List Answer) → All (IsInRange (length start)) steps → Runs start steps answers after
    → (k : ℕ) (step : Step) (answer : Answer) → IsStep steps answers k step answer → Moment start steps answers step answer
at_step one start after steps answers within runs k step answer is =
    moment_of one start steps answers 0 start after steps answers (all_left steps) (all_left answers) (recursion_from_All (IsInRange (length start)) steps within) runs
    (at_start start (Before start steps answers 0) (none_before start steps answers)) k step answer is.0 is.1

pub holds_what_reached : OneMessage → HoldsWhatReached
holds_what_reached one start after steps answers within runs d r m lt = (at_end one start after steps answers within runs).holds d r m lt
