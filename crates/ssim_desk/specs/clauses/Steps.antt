-- Steps that change nothing.
use Rattle.std.specs.Prelude.{◌≡◌, ℕ, ◌==◌, ◌&&◌, not, Bool, false, List, ◌∷◌}
use Rattle.std.specs.Prelude.{slice_get}
use Rattle.ssim_desk.specs.declared.steps.Answer.{Answer}
use Rattle.ssim_desk.specs.declared.steps.Answer.TheVariants.{Taken, Merged}
use Rattle.ssim_desk.specs.{declared.steps.Step.Step, declared.steps.Step.TheVariants.{Take, Merge}}

-- ---- steps

-- the step merges a desk with itself
abbrev pub IsOwnMerge : Step → Type 0
IsOwnMerge (Take i text) = ⊥
IsOwnMerge (Merge into from) = into ≡ from

-- whether the step may have changed the desk with this number: it took a text that was new, or it
-- was merged with another desk
abbrev pub is_change : ℕ → Step → Answer → Bool
is_change d (Take i text) (Taken reference) = i == d
is_change d (Merge into from) Merged = (into == d) && not (from == d)
is_change _ _ _ = false

-- no step of the run may have changed the desk
abbrev pub IsIdle : ℕ → List Step → List Answer → Type 0
IsIdle d (step ∷ steps) (answer ∷ answers) =
    (is_change d step answer ≡ false) × IsIdle d steps answers
IsIdle _ _ _ = Unit {0}

-- An idle desk, one that no step changed, is what it was, with the same count of messages applied
-- by its latest change.
abbrev pub LeavesIdle : {X : Type 0} → List X → List Step → List Answer → List X → Type 0
LeavesIdle old steps answers new =
    (d : ℕ) → IsIdle d steps answers → slice_get new d ≡ slice_get old d
