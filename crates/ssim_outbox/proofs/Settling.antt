-- How drafts lead to a published timetable: each date is settled, and stays so.
use Rattle.std.proofs.Common.{◌≡◌, ◌∙◌, ◌⊎◌, inl, inr, ℕ, ◌<◌, Bool, true, false, ◌&&◌, ◌||◌, nat_eq}
use Rattle.std.proofs.Common.{nat_le, nat_lt, not, slice_get, slice_index_or, ◌+◌, ◌≤◌, Some}
use Rattle.std.proofs.lemmas.Option.{get_or_from_slice_get}
use Rattle.std.proofs.Common.{if◌then◌else◌, List, [], ◌∷◌, ◌++◌, length, map, refl, sym, ap, subst}
use Rattle.std.proofs.Common.{arith}
use Rattle.std.specs.Prelude.{IsTrue}
use Rattle.std.specs.List.{AllByRecursion}
use Rattle.std.proofs.lemmas.Bool.Decides.{nat_tests}
use Rattle.ssim_values.specs.Flight.{FlightNumber, IsFlight}
use Rattle.ssim_values.specs.Period.{DayRange}
use Rattle.ssim_periods.specs.Calendar.{day_count, holds}
use Rattle.ssim_values.specs.Calendar.{slot}
use Rattle.ssim_text.specs.declared.action.Action.{Action}
use Rattle.ssim_base.proofs.Places.{same-self, same-true}
use Rattle.ssim_base.specs.Export.{same_itinerary}
use Rattle.ssim_base.specs.clauses.ItineraryLaws.{exact_itinerary}
use Rattle.ssim_base.specs.Stations.{Row}
use Rattle.ssim_base.specs.Timetable.{Days, Legs, on_day, same_flight}
use Rattle.ssim_schedule.specs.clauses.Schedule.{days_in}
use Rattle.ssim_difference.specs.Differences.{differences}
use Rattle.ssim_text.proofs.ReadsBack.{all_both}
use Rattle.ssim_outbox.specs.clauses.Acting.{ActEach}
use Rattle.ssim_outbox.specs.Acting.{ActOn}
use Rattle.ssim_outbox.specs.PlanOrder.{HaveOnePeriod, names_date}
use Rattle.ssim_outbox.specs.Published.{IsPublished, IsPublishedOn, NamesDifferences, legs_after}
use Rattle.ssim_outbox.specs.Reach.{IsSaid, Leads, Reach, after_all}
use Rattle.ssim_outbox.specs.declared.draft.PlanDraft.{PlanDraft}
use Rattle.ssim_outbox.specs.declared.planned_sub.PlannedSub.{PlannedSub}
use Rattle.ssim_outbox.specs.internal.Drafts.{ActOnEach, Acts, AreAsLong, Dates, IsDraft, IsMadeOn}
use Rattle.ssim_outbox.specs.internal.Drafts.{IsSettled, Settles}
use Rattle.ssim_outbox.specs.internal.Drafts.{after_actions, date_at, dates_before}
use Rattle.ssim_outbox.specs.internal.Drafts.{dates_of_flights, dates_of_period, no_dates, one_date}
use Rattle.ssim_outbox.specs.internal.Drafts.{MakeNamed, planned}
use Rattle.ssim_outbox.proofs.Acting.{on_both, on_planned}
use Rattle.ssim_outbox.proofs.ListedDates.{differing_listed}
use Rattle.ssim_outbox.proofs.PlannedSubs.{after_both, after_planned, any_planned}
use Rattle.ssim_outbox.proofs.PlannedSubs.{reached, said_planned}

pub both : (a b : Bool) → IsTrue (a && b) → (a ≡ true) × (b ≡ true)
both true true h = (refl, refl)
both true false h = absurd (grind (arith, nat_tests))
both false b h = absurd (grind (arith, nat_tests))

pub either : (a b : Bool) → IsTrue (a || b) → IsTrue a ⊎ IsTrue b
either true b h = inl refl
either false b h = inr h

-- what follows from a fact of each
every_weaker : {A : Type 0} (P Q : A → Type 0) → ((x : A) → P x → Q x) → (xs : List A)
    → AllByRecursion P xs → AllByRecursion Q xs
every_weaker P Q f [] h = tt
every_weaker P Q f (x ∷ xs) h = (f x h.0, every_weaker P Q f xs h.1)

-- the itinerary of a day of a list
pub itinerary_at : (xs days : Days) (n : ℕ) (legs : Legs) → xs ≡ days → slice_get xs n ≡ Some legs
    → legs ≡ on_day days n
itinerary_at xs days n legs same h =
    sym (get_or_from_slice_get xs n legs [] h) ∙ ap (λ (x : Days). on_day x n) same

module _ (rows : List Row) (old new : FlightNumber → Days) where
  -- nothing changes
  pub unchanged : (d : PlanDraft) → IsDraft rows old new d → Settles rows old new no_dates d d
  unchanged d is = record { draft = is; settled = λ g n exists within. by g n }
    where
      by : (g : FlightNumber) (n : ℕ) → IsSettled rows old new d g n ⊎ IsTrue false
          → IsSettled rows old new d g n
      by g n (inl s) = s
      by g n (inr e) = absurd (grind (arith, nat_tests))

  -- some dates and then others
  pub one_after : (first second : Dates) (a b c : PlanDraft) → Settles rows old new first a b
      → Settles rows old new second b c → Settles rows old new (λ g n. first g n || second g n) a c
  one_after first second a b c one two = record {
    draft = two.draft;
    settled = λ g n exists within. by g n exists within;
  }
    where
      by : (g : FlightNumber) (n : ℕ) → IsFlight g → n < day_count
          → IsSettled rows old new a g n ⊎ IsTrue (first g n || second g n)
          → IsSettled rows old new c g n
      by g n exists within (inl s) =
          two.settled g n exists within (inl (one.settled g n exists within (inl s)))
      by g n exists within (inr e) = which (either (first g n) (second g n) e)
        where
          which : IsTrue (first g n) ⊎ IsTrue (second g n) → IsSettled rows old new c g n
          which (inl f) = two.settled g n exists within (inl (one.settled g n exists within (inr f)))
          which (inr s) = two.settled g n exists within (inr s)

  -- fewer dates
  pub fewer : (more less : Dates) (a b : PlanDraft)
      → ((g : FlightNumber) (n : ℕ) → IsFlight g → n < day_count → IsTrue (less g n)
      → IsTrue (more g n))
      → Settles rows old new more a b → Settles rows old new less a b
  fewer more less a b include s = record {
    draft = s.draft;
    settled = λ g n exists within. by g n exists within;
  }
    where
      by : (g : FlightNumber) (n : ℕ) → IsFlight g → n < day_count
          → IsSettled rows old new a g n ⊎ IsTrue (less g n) → IsSettled rows old new b g n
      by g n exists within (inl h) = s.settled g n exists within (inl h)
      by g n exists within (inr e) = s.settled g n exists within (inr (include g n exists within e))

  -- the date with a number
  pub settled_at : (a b : PlanDraft) (flight : FlightNumber) (period : DayRange) (number day : ℕ)
      → day ≡ number → Settles rows old new (one_date flight day) a b
      → Settles rows old new (date_at flight period number) a b
  settled_at a b flight period number day is s =
      fewer (one_date flight day) (date_at flight period number) a b (λ g n _ _ h. include g n h) s
    where
      include : (g : FlightNumber) (n : ℕ)
          → IsTrue (same_flight flight g && (holds period n && nat_eq number n))
          → IsTrue (same_flight flight g && nat_eq day n)
      include g n h =
          let one = both (same_flight flight g) (holds period n && nat_eq number n) h in
          let two = both (holds period n) (nat_eq number n) one.1 in
          rw (one.0, is) two.1

  -- no date has the number, or the period does not hold it
  pub none_at : (d : PlanDraft) (flight : FlightNumber) (period : DayRange) (number : ℕ)
      → ((n : ℕ) → n < day_count → number ≡ n → holds period n ≡ true → ⊥) → IsDraft rows old new d
      → Settles rows old new (date_at flight period number) d d
  none_at d flight period number none is =
      fewer no_dates (date_at flight period number) d d (λ g n _ within h. absurd (never g n within h))
      (unchanged d is)
    where
      never : (g : FlightNumber) (n : ℕ) → n < day_count
          → IsTrue (same_flight flight g && (holds period n && nat_eq number n)) → ⊥
      never g n within h =
          let one = both (same_flight flight g) (holds period n && nat_eq number n) h in
          let two = both (holds period n) (nat_eq number n) one.1 in
          let equal = two.1 in
          none n within (grind (arith, nat_tests)) two.0

  -- one number more
  pub one_more : (a b c : PlanDraft) (flight : FlightNumber) (period : DayRange) (number : ℕ)
      → Settles rows old new (dates_before flight period number) a b
      → Settles rows old new (date_at flight period number) b c
      → Settles rows old new (dates_before flight period (number + 1)) a c
  one_more a b c flight period number first second =
      fewer (λ g n. dates_before flight period number g n || date_at flight period number g n)
      (dates_before flight period (number + 1)) a c (λ g n _ _ h. include g n h)
      (one_after (dates_before flight period number) (date_at flight period number) a b c first second)
    where
      or_right : (x y : Bool) → IsTrue y → IsTrue (x || y)
      or_right true y h = refl
      or_right false y h = h

      or_left : (x y : Bool) → IsTrue x → IsTrue (x || y)
      or_left true y h = refl
      or_left false y h = absurd (grind (arith, nat_tests))

      include : (g : FlightNumber) (n : ℕ) → IsTrue (dates_before flight period (number + 1) g n)
          → IsTrue (dates_before flight period number g n || date_at flight period number g n)
      include g n h =
          let one = both (same_flight flight g) (holds period n && nat_lt n (number + 1)) h in
          let two = both (holds period n) (nat_lt n (number + 1)) one.1 in
          by (nat_lt n number) refl one.0 two.0 two.1
        where
          by : (t : Bool) → nat_lt n number ≡ t → same_flight flight g ≡ true
              → holds period n ≡ true → nat_lt n (number + 1) ≡ true
              → IsTrue (dates_before flight period number g n || date_at flight period number g n)
          by true e f p less =
              or_left (dates_before flight period number g n) (date_at flight period number g n)
              (rw (f, p) e)
          by false e f p less =
              let equal : nat_eq number n ≡ true = grind (arith, nat_tests) in
              or_right (dates_before flight period number g n) (date_at flight period number g n)
              (rw (f, p) equal)

  -- none of the numbers so far
  pub none_before : (d : PlanDraft) (flight : FlightNumber) (period : DayRange) (first : ℕ)
      → first ≡ period.first → IsDraft rows old new d
      → Settles rows old new (dates_before flight period first) d d
  none_before d flight period first is draft =
      fewer no_dates (dates_before flight period first) d d (λ g n _ _ h. absurd (never g n h))
      (unchanged d draft)
    where
      never : (g : FlightNumber) (n : ℕ) → IsTrue (dates_before flight period first g n) → ⊥
      never g n h =
          let one = both (same_flight flight g) (holds period n && nat_lt n first) h in
          let two = both (holds period n) (nat_lt n first) one.1 in
          let range = both (nat_le period.first n && nat_le n period.last)
          (slice_index_or period.days (slot n) false) two.0 in
          let from = both (nat_le period.first n) (nat_le n period.last) range.0 in
          let low = from.0 in let high = two.1 in
          let less : n < period.first = subst (λ k. n < k) is (grind (arith, nat_tests)) in
          grind (arith, nat_tests)

  -- all numbers of the period
  pub all_before : (a b : PlanDraft) (flight : FlightNumber) (period : DayRange) (end number : ℕ)
      → period.last < end → end ≤ number → Settles rows old new (dates_before flight period number) a b
      → Settles rows old new (dates_of_period flight period) a b
  all_before a b flight period end number within over s =
      fewer (dates_before flight period number) (dates_of_period flight period) a b
      (λ g n _ _ h. include g n h) s
    where
      include : (g : FlightNumber) (n : ℕ) → IsTrue (dates_of_period flight period g n)
          → IsTrue (dates_before flight period number g n)
      include g n h =
          let one = both (same_flight flight g) (holds period n) h in
          let range = both (nat_le period.first n && nat_le n period.last)
          (slice_index_or period.days (slot n) false) one.1 in
          let to = both (nat_le period.first n) (nat_le n period.last) range.0 in
          let high = to.1 in
          let less : nat_lt n number ≡ true = grind (arith, nat_tests) in
          rw (one.0, one.1) less

  -- a date that is settled already
  pub settled_already : (d : PlanDraft) (flight : FlightNumber) (day : ℕ) → IsDraft rows old new d
      → IsSettled rows old new d flight day → Settles rows old new (one_date flight day) d d
  settled_already d flight day is here = record { draft = is; settled = λ g n exists within. by g n }
    where
      by : (g : FlightNumber) (n : ℕ)
          → IsSettled rows old new d g n ⊎ IsTrue (same_flight flight g && nat_eq day n)
          → IsSettled rows old new d g n
      by g n (inl s) = s
      by g n (inr e) =
          let h = both (same_flight flight g) (nat_eq day n) e in
          let equal = h.1 in
          let same_day : day ≡ n = grind (arith, nat_tests) in
          subst (λ (m : ℕ). IsSettled rows old new d g m) same_day
          (subst (λ (f : FlightNumber). IsSettled rows old new d f day)
          (same-true flight g h.0) here)

  -- More sub-messages, for one flight and one period, which each act on each of its dates, and
  -- lead there to the new itinerary. The two timetables differ on each of these dates, and those
  -- before them made the new itinerary on none.
  pub more_acted : (before after : PlanDraft) (actions : List Action) (flight : FlightNumber)
      (period : DayRange) → IsDraft rows old new before → AllByRecursion IsSaid actions
      → ((action : Action) → NamesDifferences old new (planned flight period action))
      → ((n : ℕ) → n < day_count → holds period n ≡ true
      → on_day (days_in after.schedule flight) n ≡ on_day (new flight) n)
      → ((n : ℕ) → n < day_count → holds period n ≡ true
      → on_day (days_in before.schedule flight) n ≡ on_day (new flight) n → ⊥)
      → after.subs.items ≡ before.subs.items ++ map (planned flight period) actions
      → Acts rows actions flight period before.schedule after.schedule
      → AreAsLong before.schedule after.schedule
      → ((n : ℕ) → n < day_count → holds period n ≡ true
      → ActEach rows n actions (on_day (days_in before.schedule flight) n))
      → Settles rows old new (dates_of_period flight period) before after
  more_acted before after actions flight period is said names made fresh subs acts as_long each =
      record {
        draft = record {
          leave = λ g n exists within. acts g n exists within
              ∙ ap (after_actions rows actions flight period g n) (is.leave g n exists within)
              ∙ sym (after_planned rows actions flight period g n
              (legs_after rows before.subs.items g n (on_day (old g) n)))
              ∙ sym (after_both rows before.subs.items (map (planned flight period) actions) g n
              (on_day (old g) n))
              ∙ ap (λ (all : List PlannedSub). legs_after rows all g n (on_day (old g) n)) (sym subs);
          said = subst (AllByRecursion (λ (sub : PlannedSub). IsSaid sub.action)) (sym subs)
              (all_both (λ (sub : PlannedSub). IsSaid sub.action) before.subs.items
              (map (planned flight period) actions) is.said (said_planned flight period actions said));
          acting = λ g n exists within. subst
              (λ (all : List PlannedSub). ActOn rows all g n (on_day (old g) n)) (sym subs)
              (on_both rows before.subs.items (map (planned flight period) actions) g n
              (on_day (old g) n) (is.acting g n exists within)
              (on_planned rows actions flight period g n
              (legs_after rows before.subs.items g n (on_day (old g) n))
              (acts_on g n exists within)));
          differing = subst (AllByRecursion (NamesDifferences old new)) (sym subs)
              (all_both (NamesDifferences old new) before.subs.items
              (map (planned flight period) actions) is.differing
              (any_planned (NamesDifferences old new) flight period actions names));
          as_long = λ g. as_long g ∙ is.as_long g;
          between = λ g n exists within. between_by g n exists within
              (same_flight flight g && holds period n) refl;
          made = λ g n exists within. made_of g n exists within;
          apart = λ g n exists within. period_of g n exists within
              (same_flight flight g && holds period n) refl;
        };
        settled = λ g n exists within. settled_by g n exists within
            (same_flight flight g && holds period n) refl;
      }
    where
      -- a date of the period
      made_on : (g : FlightNumber) (n : ℕ) → n < day_count
          → (same_flight flight g && holds period n) ≡ true
          → on_day (days_in after.schedule g) n ≡ on_day (new g) n
      made_on g n within e =
          let h = both (same_flight flight g) (holds period n) e in
          subst (λ (f : FlightNumber). on_day (days_in after.schedule f) n ≡ on_day (new f) n)
          (same-true flight g h.0) (made n within h.1)

      -- the actions act there on what the sub-messages before them leave
      acts_on : (g : FlightNumber) (n : ℕ) → IsFlight g → n < day_count
          → (same_flight flight g && holds period n) ≡ true
          → ActEach rows n actions (legs_after rows before.subs.items g n (on_day (old g) n))
      acts_on g n exists within e =
          let h = both (same_flight flight g) (holds period n) e in
          subst (ActEach rows n actions) (is.leave g n exists within)
          (subst (λ (f : FlightNumber). ActEach rows n actions (on_day (days_in before.schedule f) n))
          (same-true flight g h.0) (each n within h.1))

      -- another date
      same_on : (g : FlightNumber) (n : ℕ) → IsFlight g → n < day_count
          → (same_flight flight g && holds period n) ≡ false
          → on_day (days_in after.schedule g) n ≡ on_day (days_in before.schedule g) n
      same_on g n exists within e = acts g n exists within
          ∙ ap (λ (b : Bool). if b then after_all rows n actions (on_day (days_in before.schedule g) n)
          else (on_day (days_in before.schedule g) n)) e

      between_by : (g : FlightNumber) (n : ℕ) → IsFlight g → n < day_count → (b : Bool)
          → (same_flight flight g && holds period n) ≡ b
          → (on_day (days_in after.schedule g) n ≡ on_day (new g) n)
          ⊎ (on_day (days_in after.schedule g) n ≡ on_day (old g) n)
      between_by g n exists within true e = inl (made_on g n within e)
      between_by g n exists within false e =
          subst (λ (legs : Legs). (legs ≡ on_day (new g) n) ⊎ (legs ≡ on_day (old g) n))
          (sym (same_on g n exists within e)) (is.between g n exists within)

      -- what was made before stays
      still : (g : FlightNumber) (n : ℕ) → IsFlight g → n < day_count → (b : Bool)
          → (same_flight flight g && holds period n) ≡ b
          → on_day (days_in before.schedule g) n ≡ on_day (new g) n
          → on_day (days_in after.schedule g) n ≡ on_day (new g) n
      still g n exists within true e h = made_on g n within e
      still g n exists within false e h = same_on g n exists within e ∙ h

      made_of : (g : FlightNumber) (n : ℕ) → IsFlight g → n < day_count
          → MakeNamed g n (days_in after.schedule g) (new g) after.subs.items
      made_of g n exists within = subst (AllByRecursion has_now) (sym subs)
          (all_both has_now before.subs.items (map (planned flight period) actions)
          (every_weaker was has_now (λ sub h named. still g n exists within
          (same_flight flight g && holds period n) refl (h named)) before.subs.items
          (is.made g n exists within))
          (any_planned has_now flight period actions (λ action named. made_on g n within named)))
        where
          was : PlannedSub → Type 0
          was sub = names_date g n sub ≡ true
              → on_day (days_in before.schedule g) n ≡ on_day (new g) n

          has_now : PlannedSub → Type 0
          has_now sub = names_date g n sub ≡ true
              → on_day (days_in after.schedule g) n ≡ on_day (new g) n

      -- no sub-message before names a date of the period
      none_before_it : (g : FlightNumber) (n : ℕ) → n < day_count
          → (same_flight flight g && holds period n) ≡ true
          → on_day (days_in before.schedule g) n ≡ on_day (new g) n → ⊥
      none_before_it g n within e =
          let h = both (same_flight flight g) (holds period n) e in
          subst (λ (f : FlightNumber). on_day (days_in before.schedule f) n ≡ on_day (new f) n → ⊥)
          (same-true flight g h.0) (fresh n within h.1)

      period_of : (g : FlightNumber) (n : ℕ) → IsFlight g → n < day_count → (b : Bool)
          → (same_flight flight g && holds period n) ≡ b → HaveOnePeriod g n after.subs.items
      period_of g n exists within true e = (
        period,
        subst (AllByRecursion has) (sym subs)
            (all_both has before.subs.items (map (planned flight period) actions)
            (every_weaker was has
            (λ sub h named. absurd (none_before_it g n within e (h named))) before.subs.items
            (is.made g n exists within))
            (any_planned has flight period actions (λ action named. refl))),
      )
        where
          was : PlannedSub → Type 0
          was sub = names_date g n sub ≡ true
              → on_day (days_in before.schedule g) n ≡ on_day (new g) n

          has : PlannedSub → Type 0
          has sub = names_date g n sub ≡ true → sub.period ≡ period
      period_of g n exists within false e =
          let one = is.apart g n exists within in (
            one.0,
            subst (AllByRecursion (λ (sub : PlannedSub). names_date g n sub ≡ true
                → sub.period ≡ one.0)) (sym subs)
                (all_both (λ (sub : PlannedSub). names_date g n sub ≡ true → sub.period ≡ one.0)
                before.subs.items (map (planned flight period) actions) one.1
                (any_planned (λ (sub : PlannedSub). names_date g n sub ≡ true
                → sub.period ≡ one.0) flight period actions
                (λ action named. let bad : false ≡ true = sym e ∙ named in absurd cc))),
          )

      settled_by : (g : FlightNumber) (n : ℕ) → IsFlight g → n < day_count → (b : Bool)
          → (same_flight flight g && holds period n) ≡ b
          → IsSettled rows old new before g n ⊎ IsTrue (same_flight flight g && holds period n)
          → IsSettled rows old new after g n
      settled_by g n exists within true e h = inl (made_on g n within e)
      settled_by g n exists within false e (inl (inl h)) = inl (same_on g n exists within e ∙ h)
      settled_by g n exists within false e (inl (inr h)) = inr h
      settled_by g n exists within false e (inr h) = absurd (grind (arith, nat_tests))

  -- if each date is settled, the draft is published
  pub published : (d : PlanDraft) → IsDraft rows old new d
      → ((g : FlightNumber) (n : ℕ) → IsFlight g → n < day_count → IsSettled rows old new d g n)
      → IsPublished rows old new (days_in d.schedule)
  published d is settled g n exists within =
      by (is.between g n exists within) (settled g n exists within)
    where
      reach : on_day (days_in d.schedule g) n ≡ on_day (new g) n
          → Reach rows n (on_day (old g) n) (on_day (new g) n)
      reach made =
          subst (Reach rows n (on_day (old g) n)) (sym (is.leave g n exists within) ∙ made)
          (reached rows d.subs.items g n (on_day (old g) n) is.said)

      by : (on_day (days_in d.schedule g) n ≡ on_day (new g) n)
          ⊎ (on_day (days_in d.schedule g) n ≡ on_day (old g) n)
          → IsSettled rows old new d g n
          → IsPublishedOn rows n (on_day (old g) n) (on_day (new g) n)
          (on_day (days_in d.schedule g) n)
      by (inl made) s = inl (made, reach made)
      by (inr kept) (inl made) = inl (made, reach made)
      by (inr kept) (inr never) = inr (kept, never)

  -- The actions that are said of a date, as sub-messages of this date alone: they settle it, and
  -- they are said only if it differs.
  pub date_acted : (before after : PlanDraft) (actions : List Action) (flight : FlightNumber)
      (period : DayRange) (day : ℕ) → IsFlight flight → day < day_count → IsDraft rows old new before
      → ((n : ℕ) → holds period n ≡ nat_eq day n)
      → same_itinerary (on_day (days_in before.schedule flight) day) (on_day (new flight) day) ≡ false
      → Leads rows day actions (on_day (old flight) day) (on_day (new flight) day)
      → ActEach rows day actions (on_day (old flight) day)
      → after.subs.items ≡ before.subs.items ++ map (planned flight period) actions
      → Acts rows actions flight period before.schedule after.schedule
      → AreAsLong before.schedule after.schedule
      → Settles rows old new (one_date flight day) before after
  date_acted before after actions flight period day exists within is one other leads each subs acts as_long =
      fewer (dates_of_period flight period) (one_date flight day) before after
      (λ g n _ _ h. ap (λ (b : Bool). same_flight flight g && b) (one n) ∙ h)
      (more_acted before after actions flight period is leads.said names made
      (λ n _ h same. apart
      (subst (λ (m : ℕ). on_day (days_in before.schedule flight) m ≡ on_day (new flight) m)
      (sym (that_day n h)) same)) subs acts as_long each_on)
    where
      apart : on_day (days_in before.schedule flight) day ≡ on_day (new flight) day → ⊥
      apart e =
          let bad : true ≡ false = sym ((exact_itinerary (on_day (days_in before.schedule flight) day)
          (on_day (new flight) day)).1 e) ∙ other in
          absurd cc

      kept : on_day (days_in before.schedule flight) day ≡ on_day (old flight) day
      kept = by (is.between flight day exists within)
        where
          by : (on_day (days_in before.schedule flight) day ≡ on_day (new flight) day)
              ⊎ (on_day (days_in before.schedule flight) day ≡ on_day (old flight) day)
              → on_day (days_in before.schedule flight) day ≡ on_day (old flight) day
          by (inl e) = absurd (apart e)
          by (inr e) = e

      itself : (n : ℕ) → nat_eq n n ≡ true
      itself n = grind (arith, nat_tests)

      that_day : (n : ℕ) → holds period n ≡ true → day ≡ n
      that_day n h = let equal : nat_eq day n ≡ true = sym (one n) ∙ h in grind (arith, nat_tests)

      names : (action : Action) → NamesDifferences old new (planned flight period action)
      names action = record {
        some = (day, within, one day ∙ itself day);
        each = λ n _ h same. apart (kept
            ∙ subst (λ (m : ℕ). on_day (old flight) m ≡ on_day (new flight) m) (sym (that_day n h))
            same);
      }

      made_here : on_day (days_in after.schedule flight) day ≡ on_day (new flight) day
      made_here = acts flight day exists within
          ∙ ap (λ (b : Bool). if b then after_all rows day actions
          (on_day (days_in before.schedule flight) day)
          else (on_day (days_in before.schedule flight) day))
          (ap (λ (b : Bool). b && holds period day) (same-self flight) ∙ one day ∙ itself day)
          ∙ ap (after_all rows day actions) kept ∙ leads.result

      each_on : (n : ℕ) → n < day_count → holds period n ≡ true
          → ActEach rows n actions (on_day (days_in before.schedule flight) n)
      each_on n _ h =
          subst (λ (m : ℕ). ActEach rows m actions (on_day (days_in before.schedule flight) m))
          (that_day n h) (subst (ActEach rows day actions) (sym kept) each)

      made : (n : ℕ) → n < day_count → holds period n ≡ true
          → on_day (days_in after.schedule flight) n ≡ on_day (new flight) n
      made n _ h =
          subst (λ (m : ℕ). on_day (days_in after.schedule flight) m ≡ on_day (new flight) m)
          (that_day n h) made_here

  -- no sub-messages yet
  pub nothing_yet : (d : PlanDraft) → d.subs.items ≡ [] → days_in d.schedule ≡ old → IsDraft rows old new d
  nothing_yet d none same = record {
    leave = λ g n _ _. ap (λ (days : FlightNumber → Days). on_day (days g) n) same
        ∙ ap (λ (subs : List PlannedSub). legs_after rows subs g n (on_day (old g) n)) (sym none);
    said = subst (AllByRecursion (λ (sub : PlannedSub). IsSaid sub.action)) (sym none) tt;
    acting = λ g n _ _. subst (λ (subs : List PlannedSub). ActOn rows subs g n (on_day (old g) n))
        (sym none) tt;
    as_long = λ g. ap (λ (days : FlightNumber → Days). length (days g)) same;
    differing = subst (AllByRecursion (NamesDifferences old new)) (sym none) tt;
    between = λ g n _ _. inr (ap (λ (days : FlightNumber → Days). on_day (days g) n) same);
    made = λ g n _ _. subst (MakeNamed g n (days_in d.schedule g) (new g)) (sym none) tt;
    apart = λ g n _ _. subst (HaveOnePeriod g n) (sym none)
        (record { first = 0; last = 0; days = [] }, tt);
  }

  -- a draft in which each date is settled on which one before it differs is published
  pub published_after : (before after : PlanDraft)
      → Settles rows old new (dates_of_flights (differences (days_in before.schedule) new))
      before after
      → IsPublished rows old new (days_in after.schedule)
  published_after before after s =
      published after s.draft (λ g n exists within. s.settled g n exists within
      (by g n exists within
      (same_itinerary (on_day (days_in before.schedule g) n) (on_day (new g) n)) refl))
    where
      by : (g : FlightNumber) (n : ℕ) → IsFlight g → n < day_count → (b : Bool)
          → same_itinerary (on_day (days_in before.schedule g) n) (on_day (new g) n) ≡ b
          → IsSettled rows old new before g n
          ⊎ IsTrue (dates_of_flights (differences (days_in before.schedule) new) g n)
      by g n exists within true e = inl (inl ((exact_itinerary (on_day (days_in before.schedule g) n)
          (on_day (new g) n)).0 e))
      by g n exists within false e =
          inr (differing_listed (days_in before.schedule) new g n exists within e)

-- what a comparison of the itineraries of a day says
pub made_at : (made old new : Days) (day : ℕ) (legs before wanted : Legs)
    → legs ≡ on_day made day → before ≡ on_day old day → wanted ≡ on_day new day
    → same_itinerary legs wanted ≡ true → not (same_itinerary before wanted) ≡ true
    → IsMadeOn made old new day
made_at made old new day legs before wanted legs_are before_are wanted_are same other = (
  sym legs_are ∙ (exact_itinerary legs wanted).0 same ∙ wanted_are,
  λ equal.
      let again : same_itinerary before wanted ≡ true =
      (exact_itinerary before wanted).1 (before_are ∙ equal ∙ sym wanted_are) in
      let bad : false ≡ true = ap not (sym again) ∙ other in
      absurd cc,
)

-- a draft with the sub-messages of a period that each act on each of its dates, and make it
pub kept_period : (rows : List Row) (old new : FlightNumber → Days) (before after : PlanDraft)
    (actions : List Action) (flight : FlightNumber) (period : DayRange) → IsFlight flight
    → period.first < day_count → IsDraft rows old new before → AllByRecursion IsSaid actions
    → holds period period.first ≡ true
    → ((n : ℕ) → n < day_count → holds period n ≡ true
    → IsMadeOn (days_in after.schedule flight) (days_in before.schedule flight) (new flight) n)
    → after.subs.items ≡ before.subs.items ++ map (planned flight period) actions
    → Acts rows actions flight period before.schedule after.schedule
    → AreAsLong before.schedule after.schedule → period.last < length (old flight)
    → ActOnEach rows actions flight period before.schedule → IsDraft rows old new after
kept_period rows old new before after actions flight period exists within is said first made subs acts
    as_long last each =
    let all = more_acted rows old new before after actions flight period is said
    (λ action. record { some = (period.first, within, first); each = differ })
    (λ n w h. (made n w h).0) (λ n w h. (made n w h).1) subs acts as_long
    (λ n w h. each n w (has n h) h) in
    all.draft
  where
    -- a date on which the new itinerary was not made before has the old one there
    differ : (n : ℕ) → n < day_count → holds period n ≡ true
        → on_day (old flight) n ≡ on_day (new flight) n → ⊥
    differ n w h same = by (is.between flight n exists w)
      where
        by : (on_day (days_in before.schedule flight) n ≡ on_day (new flight) n)
            ⊎ (on_day (days_in before.schedule flight) n ≡ on_day (old flight) n) → ⊥
        by (inl e) = (made n w h).1 e
        by (inr e) = (made n w h).1 (e ∙ same)

    -- there is an itinerary on each day of the period
    has : (n : ℕ) → holds period n ≡ true → n < length (days_in before.schedule flight)
    has n h =
        let range = both (nat_le period.first n && nat_le n period.last)
        (slice_index_or period.days (slot n) false) h in
        let to = both (nat_le period.first n) (nat_le n period.last) range.0 in
        let high = to.1 in
        let low : n ≤ period.last = grind (arith, nat_tests) in
        subst (λ (l : ℕ). n < l) (sym (is.as_long flight)) (omega (arith, low, last))
