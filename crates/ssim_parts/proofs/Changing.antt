-- Changes of one flight on each date, one after another.
use Rattle.std.proofs.Common.{◌≡◌, ℕ, ◌<◌, Bool, true, false, nat_eq, if◌then◌else◌, refl, ap, ◌∙◌}
use Rattle.ssim_values.specs.Flight.{FlightNumber}
use Rattle.ssim_periods.specs.Days.{changed_on, each_day}
use Rattle.ssim_periods.proofs.DayLemmas.{changed_on-each_day, each_day-same}
use Rattle.ssim_base.specs.ReadBack.{place_of}
use Rattle.ssim_base.specs.Timetable.{Legs}
use Rattle.ssim_schedule.specs.clauses.Schedule.{Flown, days_in}
use Rattle.ssim_parts.specs.internal.Changes.{ChangesFlight, after_change}

-- two changes do the same on each date
abbrev pub AreSame : (ℕ → Legs → Legs) → (ℕ → Legs → Legs) → Type 0
AreSame one other = (n : ℕ) → n < 36525 → (legs : Legs) → one n legs ≡ other n legs

module _ (flight : FlightNumber) where
  -- a change of the days of a set
  pub changed_flight : (s : ℕ → Bool) (after : Legs → Legs) (change : ℕ → Legs → Legs)
      (old new : Flown) → AreSame (λ n legs. if s n then after legs else legs) change
      → ((g : FlightNumber) → days_in new g ≡ (if nat_eq (place_of flight) (place_of g)
      then changed_on s after 0 (days_in old g) else days_in old g))
      → ChangesFlight flight change old new
  changed_flight s after change old new same was g legs has =
      was g
      ∙ elim (nat_eq (place_of flight) (place_of g)) as
      (λ b. (if b then changed_on s after 0 (days_in old g) else days_in old g)
      ≡ each_day (λ n. if b then change n (legs n) else legs n)) [
        | true ↦ ap (changed_on s after 0) has ∙ changed_on-each_day s after legs
            ∙ each_day-same (λ n. if s n then after (legs n) else legs n) (λ n. change n (legs n))
            (λ n within. same n within (legs n))
        | false ↦ has
      ]

  -- a change that does the same as another one
  pub changed_as : (one other : ℕ → Legs → Legs) (old new : Flown) → AreSame one other
      → ChangesFlight flight one old new → ChangesFlight flight other old new
  changed_as one other old new same was g legs has =
      was g legs has
      ∙ each_day-same (after_change flight one g legs) (after_change flight other g legs)
      (λ n within. elim (nat_eq (place_of flight) (place_of g)) as
      (λ b. (if b then one n (legs n) else legs n) ≡ (if b then other n (legs n) else legs n)) [
        | true ↦ same n within (legs n)
        | false ↦ refl
      ])

  -- nothing is changed
  pub unchanged : (change : ℕ → Legs → Legs) (flown : Flown) → AreSame (λ n legs. legs) change
      → ChangesFlight flight change flown flown
  unchanged change flown same g legs has =
      has
      ∙ each_day-same legs (after_change flight change g legs)
      (λ n within. elim (nat_eq (place_of flight) (place_of g)) as
      (λ b. legs n ≡ (if b then change n (legs n) else legs n)) [
        | true ↦ same n within (legs n)
        | false ↦ refl
      ])

  -- one change, and then another one
  pub changed_twice : (one next both : ℕ → Legs → Legs) (old mid new : Flown)
      → AreSame (λ n legs. next n (one n legs)) both → ChangesFlight flight one old mid
      → ChangesFlight flight next mid new → ChangesFlight flight both old new
  changed_twice one next both old mid new same first second g legs has =
      second g (after_change flight one g legs) (first g legs has)
      ∙ each_day-same (after_change flight next g (after_change flight one g legs))
      (after_change flight both g legs)
      (λ n within. elim (nat_eq (place_of flight) (place_of g)) as
      (λ b. (if b then next n (if b then one n (legs n) else legs n)
      else (if b then one n (legs n) else legs n)) ≡ (if b then both n (legs n) else legs n)) [
        | true ↦ same n within (legs n)
        | false ↦ refl
      ])
