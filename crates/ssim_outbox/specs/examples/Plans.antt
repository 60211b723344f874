-- Small examples of what sub-messages leave of dates, and of their order, checked by computation.
use Rattle.std.specs.Prelude.{◌≡◌, ℕ, true, false, List, [], ◌∷◌, codes, refl}
use Rattle.std.proofs.Common.{inl, inr, leb-true}
use Rattle.ssim_records.specs.LegParts.{with_equipment, with_times}
use Rattle.ssim_values.specs.Flight.{FlightNumber}
use Rattle.ssim_values.specs.Period.{DayRange}
use Rattle.ssim_text.specs.declared.action.Action.{Action}
use Rattle.ssim_text.specs.declared.action.Action.TheVariants.{Cnl, Eqt, Tim}
use Rattle.ssim_schedule.specs.Acts.{class_on}
use Rattle.ssim_outbox.specs.Acting.{ActOn}
use Rattle.ssim_outbox.specs.PlanOrder.{ComeInOrder, HaveOnePeriod}
use Rattle.ssim_outbox.specs.Published.{legs_after}
use Rattle.ssim_outbox.specs.declared.planned_sub.PlannedSub.{PlannedSub}
use Rattle.ssim_outbox.specs.examples.Dates.{changed, later, rows, smaller, with_terminal}

abbrev flight : ℕ → FlightNumber
flight number = record { number = number; suffix = 32 }

-- Tuesdays from 1 to 15 July 2025
abbrev tuesdays : DayRange
tuesdays = record {
  first = 9313;
  last = 9327;
  days = false ∷ true ∷ false ∷ false ∷ false ∷ false ∷ false ∷ [];
}

abbrev sub : Action → PlannedSub
sub action = record { action = action; flight = flight 1; period = tuesdays }

-- EQT and TIM of flight 1 on Tuesdays
abbrev subs : List PlannedSub
subs = sub (Eqt smaller) ∷ sub (Tim (later ∷ [])) ∷ []

on_a_tuesday : legs_after rows subs (flight 1) 9320 with_terminal ≡ changed (codes "1 ")
unfolding with_times with_equipment
on_a_tuesday = refl

on_a_wednesday : legs_after rows subs (flight 1) 9321 with_terminal ≡ with_terminal
on_a_wednesday = refl

after_the_period : legs_after rows subs (flight 1) 9334 with_terminal ≡ with_terminal
after_the_period = refl

of_another_flight : legs_after rows subs (flight 2) 9320 with_terminal ≡ with_terminal
of_another_flight = refl

-- each acts on what those before it left: after CNL no leg is left for TIM
cancelled_before : legs_after rows (sub Cnl ∷ subs) (flight 1) 9320 with_terminal ≡ []
cancelled_before = refl

-- EQT and TIM each act on a Tuesday
each_acts : ActOn rows subs (flight 1) 9320 with_terminal
unfolding with_times with_equipment
each_acts = (λ _. refl, (λ _. refl, tt))

-- after CNL neither would: the reason is `Absent`, whose class is 1
none_to_equip : class_on rows (Eqt smaller) 9320
    (legs_after rows (sub Cnl ∷ []) (flight 1) 9320 with_terminal)
    ≡ 1
none_to_equip = refl

-- ---- order

-- CNL of a flight on one day
abbrev cancelled : FlightNumber → ℕ → PlannedSub
cancelled flown day = record {
  action = Cnl;
  flight = flown;
  period = record {
    first = day;
    last = day;
    days = true ∷ true ∷ true ∷ true ∷ true ∷ true ∷ true ∷ [];
  };
}

-- flight 1 with the suffix A
abbrev with_suffix : FlightNumber
with_suffix = record { number = 1; suffix = 65 }

-- two days of flight 1, then flight 1A on a day before them, and then flight 2
in_order : ComeInOrder (cancelled (flight 1) 9320
    ∷ cancelled (flight 1) 9327
    ∷ cancelled with_suffix 9313
    ∷ cancelled (flight 2) 9313
    ∷ [])
in_order = (
  inr (inr (refl, leb-true 9320 9327 refl)),
  (inr (inl (refl, leb-true 33 65 refl)), (inl (leb-true 2 2 refl), tt)),
)

-- EQT and TIM of one period
two_of_one_period : ComeInOrder subs
two_of_one_period = (inr (inr (refl, leb-true 9313 9313 refl)), tt)

one_period : HaveOnePeriod (flight 1) 9320 subs
one_period = (tuesdays, (λ _. refl, (λ _. refl, tt)))
