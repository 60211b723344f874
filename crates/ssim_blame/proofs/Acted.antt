-- Sub-messages change the legs of a date and their maker as the steps of the date say.
use Rattle.std.proofs.Common.{◌≡◌, ◌∙◌, ℕ, ◌+◌, Bool, true, false, ◌&&◌, if◌then◌else◌, List, []}
use Rattle.std.proofs.Common.{◌∷◌, ◌++◌, refl, sym, ap}
use Rattle.ssim_values.specs.Flight.{FlightNumber}
use Rattle.ssim_values.specs.Period.{DayRange}
use Rattle.ssim_periods.specs.Calendar.{holds}
use Rattle.ssim_periods.specs.Days.{changed_on, each_day}
use Rattle.ssim_periods.proofs.DayLemmas.{changed_on-each_day, each_day-same}
use Rattle.ssim_base.specs.Stations.{Row}
use Rattle.ssim_base.specs.Timetable.{Legs, same_flight}
use Rattle.ssim_base.specs.declared.sub_message.ResolvedSub.{ResolvedSub}
use Rattle.ssim_text.specs.Grammar.{identifier_of}
use Rattle.ssim_text.specs.declared.action.Action.{Action}
use Rattle.ssim_text.specs.declared.action.Sub.{Sub as SubValue}
use Rattle.ssim_text.specs.declared.reference.Reference.{Reference}
use Rattle.ssim_schedule.specs.Effect.{Outcome}
use Rattle.ssim_schedule.specs.internal.ActionParts.{IsUniform}
use Rattle.ssim_schedule.proofs.Acts.{Comes}
use Rattle.ssim_desk.specs.DateSteps.{is_on, legs_left, step_of, sub_steps}
use Rattle.ssim_desk.specs.declared.date_step.DateStep.{DateStep}
use Rattle.ssim_blame.specs.Makers.{is_acted, last_acted, name_of}
use Rattle.ssim_blame.specs.declared.made.MadeItinerary.{MadeItinerary}
use Rattle.ssim_blame.specs.declared.maker.Maker.TheVariants.{Sub}
use Rattle.ssim_blame.specs.declared.maker.SubName.{SubName}
use Rattle.ssim_blame.specs.internal.Made.{acted, after_steps, made}

-- ---- steps

-- what steps leave: the legs of the last step, and the maker
pub steps_leave : (before : MadeItinerary) (steps : List DateStep)
    → after_steps before steps
    ≡ made (legs_left before.itinerary steps) (last_acted before.maker steps)
steps_leave before [] = refl
steps_leave before (step ∷ steps) =
    steps_leave (made step.itinerary (if is_acted step.reason then Sub (name_of step)
    else before.maker)) steps

-- more steps
pub steps_more : (before : MadeItinerary) (a b : List DateStep)
    → after_steps before (a ++ b) ≡ after_steps (after_steps before a) b
steps_more before [] b = refl
steps_more before (step ∷ a) b =
    steps_more (made step.itinerary (if is_acted step.reason then Sub (name_of step)
    else before.maker)) a b

-- ---- a sub-message

-- the name of the sub-message with this number
abbrev pub named : Reference → ℕ → SubValue → SubName
named reference number sub =
    record { reference = reference; sub = number; action = identifier_of sub.action }

-- a date after a sub-message
abbrev pub after_sub : List Row → FlightNumber → Reference → ℕ → SubValue → ResolvedSub
    → (ℕ → MadeItinerary) → ℕ → MadeItinerary
after_sub rows flight reference number sub dated before n =
    if is_on flight n dated then acted rows sub.action n (named reference number sub) (before n)
    else before n

-- the steps of a message are those of its first sub-message and those of the others
pub one_more : (rows : List Row) (flight : FlightNumber) (reference : Reference) (number : ℕ)
    (sub : SubValue) (subs : List SubValue) (dated : ResolvedSub) (dates : List ResolvedSub)
    (before : ℕ → MadeItinerary) (n : ℕ)
    → let next = after_sub rows flight reference number sub dated before n in
    after_steps next
    (sub_steps rows flight n reference (number + 1) subs dates next.itinerary)
    ≡ after_steps (before n)
    (sub_steps rows flight n reference number (sub ∷ subs) (dated ∷ dates) (before n).itinerary)
one_more rows flight reference number sub subs dated dates before n =
    by (is_on flight n dated)
  where
    old : MadeItinerary
    old = before n

    step : DateStep
    step = step_of rows n reference number sub old.itinerary

    rest : Legs → List DateStep
    rest legs = sub_steps rows flight n reference (number + 1) subs dates legs

    by : (b : Bool)
        → after_steps (if b then acted rows sub.action n (named reference number sub) old else old)
        (rest (if b then acted rows sub.action n (named reference number sub) old
        else old).itinerary)
        ≡ after_steps old (if b then step ∷ rest step.itinerary else rest old.itinerary)
    by true = refl
    by false = refl

-- a sub-message of another flight is on no date
pub off : (flight : FlightNumber) (n : ℕ) (dated : ResolvedSub) → same_flight dated.flight flight ≡ false
    → is_on flight n dated ≡ false
off flight n dated e = ap (λ (b : Bool). b && holds dated.period n) e

pub on : (flight : FlightNumber) (n : ℕ) (dated : ResolvedSub) → same_flight dated.flight flight ≡ true
    → is_on flight n dated ≡ holds dated.period n
on flight n dated e = ap (λ (b : Bool). b && holds dated.period n) e

-- ---- the parts of a period

-- the dates of a set after a sub-message, and the others
abbrev pub changed : List Row → Action → SubName → (ℕ → Bool) → (ℕ → MadeItinerary) → ℕ
    → MadeItinerary
changed rows action name is_in before n =
    if is_in n then acted rows action n name (before n) else before n

-- one part more
module _ (rows : List Row) (action : Action) (name : SubName) (part : DayRange) (s u : ℕ → Bool)
    (comes : Comes s (holds part) u) (uniform : IsUniform rows action part)
    (before : ℕ → MadeItinerary) where
  abbrev so_far : ℕ → MadeItinerary
  so_far = changed rows action name s before

  -- on a date of the part
  inside : (n : ℕ) → holds part n ≡ true
      → acted rows action part.first name (so_far n) ≡ changed rows action name u before n
  inside n e =
      let first : so_far n ≡ before n =
      ap (λ (b : Bool). if b then acted rows action n name (before n) else before n)
      (comes.new n e).0 in
      ap (acted rows action part.first name) first
      ∙ ap (λ (o : Outcome). made o.0 (if is_acted o.1 then Sub name else (before n).maker))
      (uniform n e (before n).itinerary)
      ∙ sym (ap (λ (b : Bool). if b then acted rows action n name (before n) else before n)
      (comes.new n e).1)

  part_changed : (n : ℕ)
      → (if holds part n then acted rows action part.first name (so_far n) else so_far n)
      ≡ changed rows action name u before n
  part_changed n = by (holds part n) refl
    where
      by : (b : Bool) → holds part n ≡ b
          → (if b then acted rows action part.first name (so_far n) else so_far n)
          ≡ changed rows action name u before n
      by true e = inside n e
      by false e =
          sym (ap (λ (b : Bool). if b then acted rows action n name (before n) else before n)
          (comes.kept n e))

  -- the list of the days
  pub days_changed : (old new : List MadeItinerary) → old ≡ each_day so_far
      → new ≡ changed_on (holds part) (acted rows action part.first name) 0 old
      → new ≡ each_day (changed rows action name u before)
  days_changed old new o e =
      e ∙ ap (changed_on (holds part) (acted rows action part.first name) 0) o
      ∙ changed_on-each_day (holds part) (acted rows action part.first name) so_far
      ∙ each_day-same
      (λ n. if holds part n then acted rows action part.first name (so_far n) else so_far n)
      (changed rows action name u before) (λ n within. part_changed n)
