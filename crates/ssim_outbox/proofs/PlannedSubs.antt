-- What sub-messages leave of a date: one after another, and as actions that messages can have.
use Rattle.std.proofs.Common.{◌≡◌, ◌∙◌, ℕ, Bool, true, false, ◌&&◌, if◌then◌else◌, List, [], ◌∷◌}
use Rattle.std.proofs.Common.{◌++◌, map, refl, sym, ap}
use Rattle.std.specs.List.{AllByRecursion}
use Rattle.ssim_values.specs.Flight.{FlightNumber}
use Rattle.ssim_values.specs.Period.{DayRange}
use Rattle.ssim_periods.specs.Calendar.{holds}
use Rattle.ssim_text.specs.declared.action.Action.{Action}
use Rattle.ssim_base.specs.Stations.{Row}
use Rattle.ssim_base.specs.Timetable.{Legs, same_flight}
use Rattle.ssim_schedule.specs.Acts.{after_on, itinerary_after}
use Rattle.ssim_outbox.specs.Published.{legs_after}
use Rattle.ssim_outbox.specs.Reach.{IsSaid, Reach, after_all}
use Rattle.ssim_outbox.specs.declared.planned_sub.PlannedSub.{PlannedSub}
use Rattle.ssim_outbox.specs.internal.Drafts.{after_actions, planned}

-- sub-messages and then others
pub after_both : (rows : List Row) (subs more : List PlannedSub) (g : FlightNumber) (n : ℕ)
    (legs : Legs)
    → legs_after rows (subs ++ more) g n legs ≡ legs_after rows more g n (legs_after rows subs g n legs)
after_both rows [] more g n legs = refl
after_both rows (sub ∷ subs) more g n legs =
    after_both rows subs more g n (itinerary_after rows sub.action sub.flight sub.period g n legs)

-- the sub-messages of actions, for one flight and one period
pub after_planned : (rows : List Row) (actions : List Action) (flight : FlightNumber)
    (period : DayRange) (g : FlightNumber) (n : ℕ) (legs : Legs)
    → legs_after rows (map (planned flight period) actions) g n legs
    ≡ after_actions rows actions flight period g n legs
after_planned rows actions flight period g n legs =
    by (same_flight flight g && holds period n) refl actions legs
  where
    by : (b : Bool) → (same_flight flight g && holds period n) ≡ b → (actions : List Action)
        (legs : Legs)
        → legs_after rows (map (planned flight period) actions) g n legs
        ≡ (if same_flight flight g && holds period n then after_all rows n actions legs else legs)
    by true e [] legs = ap (λ (b : Bool). if b then legs else legs) (sym e)
    by true e (action ∷ actions) legs =
        ap (λ (b : Bool). legs_after rows (map (planned flight period) actions) g n
        (if b then after_on rows action n legs else legs)) e
        ∙ by true e actions (after_on rows action n legs)
        ∙ ap (λ (b : Bool). if b then after_all rows n actions (after_on rows action n legs)
        else (after_on rows action n legs)) e
        ∙ ap (λ (b : Bool). if b then after_all rows n (action ∷ actions) legs else legs) (sym e)
    by false e [] legs = ap (λ (b : Bool). if b then legs else legs) (sym e)
    by false e (action ∷ actions) legs =
        ap (λ (b : Bool). legs_after rows (map (planned flight period) actions) g n
        (if b then after_on rows action n legs else legs)) e
        ∙ by false e actions legs
        ∙ ap (λ (b : Bool). if b then after_all rows n actions legs else legs) e
        ∙ ap (λ (b : Bool). if b then after_all rows n (action ∷ actions) legs else legs) (sym e)

-- a sub-message of a said action is one
pub said_planned : (flight : FlightNumber) (period : DayRange) (actions : List Action)
    → AllByRecursion IsSaid actions
    → AllByRecursion (λ (sub : PlannedSub). IsSaid sub.action) (map (planned flight period) actions)
said_planned flight period [] h = tt
said_planned flight period (action ∷ actions) h = (h.0, said_planned flight period actions h.1)

-- what holds of the sub-message of any action
pub any_planned : (P : PlannedSub → Type 0) (flight : FlightNumber) (period : DayRange)
    (actions : List Action) → ((action : Action) → P (planned flight period action))
    → AllByRecursion P (map (planned flight period) actions)
any_planned P flight period [] h = tt
any_planned P flight period (action ∷ actions) h = (h action, any_planned P flight period actions h)

-- messages reach what sub-messages leave, if each of these is said
pub reached : (rows : List Row) (subs : List PlannedSub) (g : FlightNumber) (n : ℕ) (legs : Legs)
    → AllByRecursion (λ (sub : PlannedSub). IsSaid sub.action) subs
    → Reach rows n legs (legs_after rows subs g n legs)
reached rows [] g n legs h = record {
  actions = [];
  leads = record { said = tt; result = refl };
}
reached rows (sub ∷ subs) g n legs h =
    by (same_flight sub.flight g && holds sub.period n) (λ l. reached rows subs g n l h.1)
  where
    by : (b : Bool) → ((l : Legs) → Reach rows n l (legs_after rows subs g n l))
        → Reach rows n legs (legs_after rows subs g n (if b then after_on rows sub.action n legs else legs))
    by true rest =
        let later = rest (after_on rows sub.action n legs) in
        record {
          actions = sub.action ∷ later.actions;
          leads = record { said = (h.0, later.leads.said); result = later.leads.result };
        }
    by false rest = rest legs
