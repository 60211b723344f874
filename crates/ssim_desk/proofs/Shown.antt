-- A schedule that has a timetable has, after a sub-message, the timetable after it.
use Rattle.std.proofs.Common.{◌≡◌, ℕ, zero, suc, ◌+◌, ◌<◌, Bool, true, false, ◌&&◌, if◌then◌else◌, List, ◌∷◌, map, drop, length, get_or, refl, sym, ap, subst, ◌∙◌, arith}
use Rattle.std.proofs.Math.Seq.{drop-cons}
use Rattle.std.specs.List.{range_with_len}
use Rattle.ssim_periods.specs.Calendar.{day_count, holds}
use Rattle.ssim_periods.specs.Days.{each_day}
use Rattle.ssim_base.proofs.Places.{same_flight-place}
use Rattle.ssim_schedule.specs.clauses.Acts.{acted_on, after_sub, changed_by}
use Rattle.ssim_schedule.specs.Acts.{after_on, finding_of}
use Rattle.ssim_schedule.specs.clauses.Schedule.{Flown, days_in}
use Rattle.ssim_base.specs.Stations.{Row}
use Rattle.ssim_base.specs.Timetable.{Days, Legs, same_flight}
use Rattle.ssim_schedule.specs.declared.finding.Finding.{Finding}
use Rattle.ssim_base.specs.declared.sub_message.ResolvedSub.{ResolvedSub}
use Rattle.ssim_text.specs.declared.action.Action.{Action}
use Rattle.ssim_text.specs.declared.action.Sub.{Sub}
use Rattle.ssim_values.specs.Flight.{FlightNumber, IsFlight}
use Rattle.ssim_values.specs.Period.{DayRange}
use Rattle.ssim_desk.specs.internal.Changes.{Shows}
use Rattle.ssim_desk.specs.Meaning.{Timetable, after_one, after_subs, subs_findings}

changed-range : (s : ℕ → Bool) (after : ℕ → Legs → Legs) (f : ℕ → Legs) (a k : ℕ) → changed_by s after a (map f (range_with_len a k)) ≡ map (λ n. if s n then after n (f n) else f n) (range_with_len a k)
changed-range s after f a zero = refl
changed-range s after f a (suc k) = ap (λ (days : Days). (if s a then after a (f a) else f a) ∷ days) (changed-range s after f (a + 1) k)

changed-each_day : (s : ℕ → Bool) (after : ℕ → Legs → Legs) (f : ℕ → Legs) → changed_by s after 0 (each_day f) ≡ each_day (λ n. if s n then after n (f n) else f n)
changed-each_day s after f = changed-range s after f 0 day_count

pub shows_one : (rows : List Row) (action : Action) (sub : ResolvedSub) (old new : Flown) (t : Timetable) → IsFlight sub.flight
    → ((g : FlightNumber) → days_in new g ≡ after_sub rows action sub.flight sub.period (days_in old) g) → Shows old t → Shows new (after_one rows action sub t)
shows_one rows action sub old new t is_flight days shows g is =
    days g
    ∙ ap (λ b. if b then acted_on rows action sub.period (days_in old g) else days_in old g) (sym (same_flight-place sub.flight g is_flight is))
    ∙ ap (λ d. if same_flight sub.flight g then acted_on rows action sub.period d else d) (shows g is)
    ∙ by (same_flight sub.flight g)
  where
    by : (b : Bool) → (if b then acted_on rows action sub.period (each_day (t g)) else each_day (t g)) ≡ each_day (λ n. if b && holds sub.period n then after_on rows action n (t g n) else t g n)
    by true = changed-each_day (holds sub.period) (after_on rows action) (t g)
    by false = refl

-- the schedule shows the timetable after a sub-message whose action, flight and period are given as
-- equal values
pub shows_told : (rows : List Row) (action told : Action) (sub : ResolvedSub) (flight : FlightNumber) (period : DayRange) (old new : Flown) (t : Timetable) → told ≡ action → flight ≡ sub.flight → period ≡ sub.period → IsFlight sub.flight
    → ((g : FlightNumber) → days_in new g ≡ after_sub rows told flight period (days_in old) g) → Shows old t → Shows new (after_one rows action sub t)
shows_told rows action told sub flight period old new t same_action same_flight same_period is_flight days shows =
    shows_one rows action sub old new t is_flight (λ g. days g ∙ (λ i. after_sub rows (same_action i) (same_flight i) (same_period i) (days_in old) g)) shows

-- the schedule's finding is the finding on the timetable
pub found_told : (rows : List Row) (action told : Action) (sub : ResolvedSub) (flight : FlightNumber) (period : DayRange) (old : Flown) (t : Timetable) (finding : Finding) → told ≡ action → flight ≡ sub.flight → period ≡ sub.period → IsFlight sub.flight
    → finding ≡ finding_of rows told period (days_in old flight) → Shows old t → finding ≡ finding_of rows action sub.period (each_day (t sub.flight))
found_told rows action told sub flight period old t finding same_action same_flight same_period is_flight found shows =
    found ∙ (λ i. finding_of rows (same_action i) (same_period i) (days_in old (same_flight i))) ∙ ap (finding_of rows action sub.period) (shows sub.flight is_flight)

-- ---- from one sub-message to those after it

pub splits : {A : Type 0} (l k : List A) (i : ℕ) (x : A) → l ≡ k → i < length l → x ≡ get_or l i x → drop i k ≡ x ∷ drop (i + 1) k
splits l k i x e within is = subst (λ m. drop i m ≡ x ∷ drop (i + 1) m) e (drop-cons l i x within ∙ ap (λ y. y ∷ drop (suc i) l) (sym is) ∙ ap (λ n. x ∷ drop n l) more)
  where
    more : suc i ≡ i + 1
    more = omega arith

pub leads_on : (rows : List Row) (subs later : List Sub) (dates after : List ResolvedSub) (sub : Sub) (dated : ResolvedSub) (t : Timetable) → subs ≡ sub ∷ later → dates ≡ dated ∷ after → after_subs rows later after (after_one rows sub.action dated t) ≡ after_subs rows subs dates t
leads_on rows subs later dates after sub dated t s d = λ i. after_subs rows (sym s i) (sym d i) t

pub finds_on : (rows : List Row) (subs later : List Sub) (dates after : List ResolvedSub) (sub : Sub) (dated : ResolvedSub) (t : Timetable) → subs ≡ sub ∷ later → dates ≡ dated ∷ after
    → finding_of rows sub.action dated.period (each_day (t dated.flight)) ∷ subs_findings rows later after (after_one rows sub.action dated t) ≡ subs_findings rows subs dates t
finds_on rows subs later dates after sub dated t s d = λ i. subs_findings rows (sym s i) (sym d i) t
