-- Which messages reach which desks in a run.
use Rattle.std.specs.Prelude.{◌≡◌, ◌⊎◌, ◌<◌, ◌↔◌, ℕ, Bool, true, false, List, length, All, Some}
use Rattle.std.specs.List.{slice_get}
use Rattle.std.specs.declared.alloc.Global.{Global}
use Rattle.std.specs.declared.vec.Vec.{Vec}
use Rattle.ssim_text.specs.{Message.MessageValue, declared.reference.Reference.Reference}
use Rattle.ssim_held.specs.Held.{DeskState, Holds, Says}
use Rattle.ssim_desk.specs.{Steps.{IsInRange, Runs, desk_at}, declared.steps.Answer.Answer}
use Rattle.ssim_desk.specs.declared.steps.Answer.TheVariants.{Taken, Repeated, Merged}
use Rattle.ssim_desk.specs.declared.steps.Step.{Step}
use Rattle.ssim_desk.specs.declared.steps.Step.TheVariants.{Take, Merge}

-- whether a result says that the text's message is held
abbrev pub is_accepted : Answer → Bool
is_accepted (Taken reference) = true
is_accepted (Repeated reference) = true
is_accepted _ = false

-- the step with this number, counted from 0, and its result
abbrev pub IsStep : List Step → List Answer → ℕ → Step → Answer → Type 0
IsStep steps answers k step answer =
    (slice_get steps k ≡ Some step) × (slice_get answers k ≡ Some answer)

-- the text says the message to the desk with this number
abbrev pub SaysTo : List DeskState → ℕ → List ℕ → Reference → MessageValue → Type 0
SaysTo start d text reference message =
    let desk = desk_at start d in Says desk.base text reference message

-- Step k brings desk d a message: the desk accepts a text that spells it, or is merged with a desk
-- that had it before, from the start or by an earlier step. Example: step 0 takes the message to
-- desk 1, step 1 merges desk 1 into desk 2, and step 2 merges desk 2 into desk 3. Each step brings
-- its desk the message.
pub data Brings (start : List DeskState) (steps : List Step)
    (answers : List Answer) : ℕ → ℕ → Reference → MessageValue → Type 0 where
  by_text : {k d : ℕ} {reference : Reference} {message : MessageValue} (text : Vec ℕ Global)
      (answer : Answer)
      → IsStep steps answers k (Take d text) answer → is_accepted answer ≡ true
      → SaysTo start d text.items reference message
      → Brings start steps answers k d reference message
  from_start : {k d : ℕ} {reference : Reference} {message : MessageValue} (from : ℕ)
      → IsStep steps answers k (Merge d from) Merged → Holds (desk_at start from) reference message
      → Brings start steps answers k d reference message
  from_step : {k d : ℕ} {reference : Reference} {message : MessageValue} (from j : ℕ)
      → IsStep steps answers k (Merge d from) Merged → j < k
      → Brings start steps answers j from reference message
      → Brings start steps answers k d reference message

-- the message has reached the desk in a run: some step brings it
abbrev pub Reached : List DeskState → List Step → List Answer → ℕ → Reference → MessageValue
    → Type 0
Reached start steps answers d reference message =
    (k : ℕ) × Brings start steps answers k d reference message

-- Each desk holds what it held at the start and what reached it, and nothing else.
abbrev pub HoldsWhatReached : Type 0
HoldsWhatReached =
    (start after : List DeskState) (steps : List Step) (answers : List Answer)
    → All (IsInRange (length start)) steps → Runs start steps answers after
    → (d : ℕ) (reference : Reference) (message : MessageValue) → d < length start
    → Holds (desk_at after d) reference message
    ↔ (Holds (desk_at start d) reference message ⊎ Reached start steps answers d reference message)
