-- The chosen part of a period holds its chosen dates, and each date is changed by itself. So
-- sub-messages that act on these parts alone find there what all their dates would make them find.
use Rattle.std.proofs.Common.{◌≡◌, ◌∙◌, ℕ, zero, suc, ◌+◌, ◌<◌, ◌≤◌, Bool, true, false, ◌&&◌, nat_eq}
use Rattle.std.proofs.Common.{nat_le, if◌then◌else◌, List, [], ◌∷◌, ◌++◌, map, slice_index_or}
use Rattle.std.proofs.Common.{refl, sym, ap, ap₂, arith}
use Rattle.std.proofs.lemmas.Bool.Decides.{nat_tests}
use Rattle.std.specs.List.{list_any, range_with_len}
use Rattle.ssim_values.specs.Calendar.{slot}
use Rattle.ssim_values.specs.Flight.{FlightNumber}
use Rattle.ssim_values.specs.Period.{DayRange}
use Rattle.ssim_periods.specs.Calendar.{day_count, holds}
use Rattle.ssim_periods.specs.CommonDays.{have_common_date, meet}
use Rattle.ssim_periods.specs.Days.{each_day}
use Rattle.ssim_text.specs.declared.action.Action.{Action}
use Rattle.ssim_text.specs.declared.action.Sub.{Sub}
use Rattle.ssim_base.specs.BaseSeen.{BaseSeen}
use Rattle.ssim_base.specs.Stations.{Row}
use Rattle.ssim_base.specs.Timetable.{Days, Legs, itinerary, same_flight}
use Rattle.ssim_base.specs.clauses.Timetable.{itinerary_among}
use Rattle.ssim_base.specs.declared.sub_message.ResolvedSub.{ResolvedSub}
use Rattle.ssim_schedule.specs.Acts.{after_on, class_on, counted_by, finding_of}
use Rattle.ssim_schedule.specs.declared.finding.Finding.{Finding}
use Rattle.ssim_held.specs.Entries.{Entry}
use Rattle.ssim_desk.specs.Meaning.{Timetable, after_entry, after_one, after_subs}
use Rattle.ssim_desk.specs.Meaning.{entries_findings, subs_findings}
use Rattle.ssim_desk.proofs.SomeFlights.{found_among}
use Rattle.ssim_parts.specs.Chosen.{Choosing, chooses_date}
use Rattle.ssim_program.specs.Spans.{chosen_by, chosen_finding, entries_chosen, holds_chosen}
use Rattle.ssim_program.specs.Spans.{subs_chosen}
use Rattle.ssim_program.specs.internal.Spans.{flights_named, part_entry, part_of, part_sub}

-- ---- the dates of a part

-- a day is not before the later of two, if it is before neither
from_later : (a b n : ℕ) → nat_le (if nat_le a b then b else a) n ≡ (nat_le a n && nat_le b n)
from_later a b n = by (nat_le a b) (nat_le a n) (nat_le b n) refl refl refl
  where
    by : (x y z : Bool) → nat_le a b ≡ x → nat_le a n ≡ y → nat_le b n ≡ z
        → nat_le (if x then b else a) n ≡ (y && z)
    by true true z e f g = g
    by true false false e f g = g
    by true false true e f g =
        absurd (let ab : a ≤ b = grind (arith, nat_tests) in
        let bn : b ≤ n = grind (arith, nat_tests) in
        let na : n < a = grind (arith, nat_tests) in omega (arith, ab, bn, na))
    by false true true e f g = f
    by false false z e f g = f
    by false true false e f g =
        absurd (let ba : b < a = grind (arith, nat_tests) in
        let an : a ≤ n = grind (arith, nat_tests) in
        let nb : n < b = grind (arith, nat_tests) in omega (arith, ba, an, nb))

-- a day is not after the earlier of two, if it is after neither
to_earlier : (a b n : ℕ) → nat_le n (if nat_le a b then a else b) ≡ (nat_le n a && nat_le n b)
to_earlier a b n = by (nat_le a b) (nat_le n a) (nat_le n b) refl refl refl
  where
    by : (x y z : Bool) → nat_le a b ≡ x → nat_le n a ≡ y → nat_le n b ≡ z
        → nat_le n (if x then a else b) ≡ (y && z)
    by true true true e f g = f
    by true false z e f g = f
    by true true false e f g =
        absurd (let ab : a ≤ b = grind (arith, nat_tests) in
        let na : n ≤ a = grind (arith, nat_tests) in
        let bn : b < n = grind (arith, nat_tests) in omega (arith, ab, na, bn))
    by false true z e f g = g
    by false false false e f g = g
    by false false true e f g =
        absurd (let ba : b < a = grind (arith, nat_tests) in
        let nb : n ≤ b = grind (arith, nat_tests) in
        let an : a < n = grind (arith, nat_tests) in omega (arith, ba, nb, an))

regrouped : (a b d e s : Bool)
    → (((a && d) && (b && e)) && s) ≡ (((a && b) && s) && (d && e))
regrouped false b d e s = refl
regrouped true false true e s = refl
regrouped true false false e s = refl
regrouped true true false e true = refl
regrouped true true false e false = refl
regrouped true true true true true = refl
regrouped true true true true false = refl
regrouped true true true false true = refl
regrouped true true true false false = refl

-- the part holds the chosen dates of the period
pub holds_part : (choice : Choosing) (period : DayRange) (n : ℕ)
    → holds (part_of choice period) n ≡ holds_chosen choice period n
holds_part choice period n =
    let operates = slice_index_or period.days (slot n) false in
    ap₂ (λ (x y : Bool). (x && y) && operates) (from_later period.first choice.first n)
    (to_earlier period.last choice.last n)
    ∙ regrouped (nat_le period.first n) (nat_le n period.last) (nat_le choice.first n)
    (nat_le n choice.last) operates

-- between turned days there is none
pub none_between : (first last n : ℕ) (operates : Bool) → (first ≤ last → ⊥)
    → ((nat_le first n && nat_le n last) && operates) ≡ false
none_between first last n operates turned = by (nat_le first n) (nat_le n last) refl refl
  where
    by : (x y : Bool) → nat_le first n ≡ x → nat_le n last ≡ y → ((x && y) && operates) ≡ false
    by false y e f = refl
    by true false e f = refl
    by true true e f =
        absurd (turned (let low : first ≤ n = grind (arith, nat_tests) in
        let high : n ≤ last = grind (arith, nat_tests) in omega (arith, low, high)))

-- the period has a chosen date, if it has one in common with its part
meets_again : (a b : Bool) → (a && (a && b)) ≡ (a && b)
meets_again true b = refl
meets_again false b = refl

pub meets_part : (choice : Choosing) (period : DayRange)
    → meet period (part_of choice period) ≡ have_common_date (holds period) (chooses_date choice)
meets_part choice period =
    ap (λ (test : ℕ → Bool). list_any test (range_with_len 0 day_count))
    (λ i n. (ap (λ (b : Bool). holds period n && b) (holds_part choice period n)
    ∙ meets_again (holds period n) (chooses_date choice n)) i)

any_false : (test : ℕ → Bool) → ((n : ℕ) → test n ≡ false) → (days : List ℕ)
    → list_any test days ≡ false
any_false test none [] = refl
any_false test none (n ∷ days) = rw (none n) (any_false test none days)

-- it has none, if the part holds no day
pub meets_none : (choice : Choosing) (period : DayRange)
    → ((n : ℕ) → holds (part_of choice period) n ≡ false)
    → have_common_date (holds period) (chooses_date choice) ≡ false
meets_none choice period none =
    any_false (holds_chosen choice period) (λ n. sym (holds_part choice period n) ∙ none n)
    (range_with_len 0 day_count)

-- ---- a period without days

-- a day is counted, or not
abbrev counted : Bool → ℕ
counted b = if b then 1 else 0

counted_none : (is_in : ℕ → Bool) (class : ℕ → Legs → ℕ) (k n : ℕ) (days : Days)
    → ((m : ℕ) → is_in m ≡ false) → counted_by is_in class k n days ≡ 0
counted_none is_in class k n [] none = refl
counted_none is_in class k n (old ∷ days) none =
    ap₂ (λ (here later : ℕ). here + later)
    (ap (λ (b : Bool). counted (b && nat_eq (class n old) k)) (none n))
    (counted_none is_in class k (n + 1) days none)

module _ (rows : List Row) (action : Action) where
  -- nothing is found
  pub finding_none : (period : DayRange) (days : Days) → ((n : ℕ) → holds period n ≡ false)
      → finding_of rows action period days
      ≡ record { acted = 0; absent = 0; present = 0; leg = 0; station = 0 }
  finding_none period days none =
      let count = λ (k : ℕ). counted_none (holds period) (class_on rows action) k 0 days none in
      λ i. record {
        acted = count 0 i;
        absent = count 1 i;
        present = count 2 i;
        leg = count 3 i;
        station = count 4 i;
      }

  same_or : (b : Bool) (one other : Legs) → (if b && false then one else other) ≡ other
  same_or true one other = refl
  same_or false one other = refl

  -- nothing is changed
  pub after_none : (sub : ResolvedSub) (t : Timetable) → ((n : ℕ) → holds sub.period n ≡ false)
      → after_one rows action sub t ≡ t
  after_none sub t none = λ i g n.
      (ap (λ (b : Bool). if same_flight sub.flight g && b then after_on rows action n (t g n)
      else t g n) (none n)
      ∙ same_or (same_flight sub.flight g) (after_on rows action n (t g n)) (t g n)) i

-- ---- what is found on parts

second : (a b : Bool) → (a && b) ≡ true → b ≡ true
second true b e = e
second false b e = absurd cc

and_true : (a b : Bool) → b ≡ true → (a && b) ≡ a
and_true true b e = e
and_true false b e = refl

-- sets that are equal have equal counts, of values that are equal on their days
counted_alike : (s r : ℕ → Bool) (class : ℕ → Legs → ℕ) (k : ℕ) (t u : ℕ → Legs)
    → ((n : ℕ) → s n ≡ r n) → ((n : ℕ) → r n ≡ true → t n ≡ u n) → (a len : ℕ)
    → counted_by s class k a (map t (range_with_len a len))
    ≡ counted_by r class k a (map u (range_with_len a len))
counted_alike s r class k t u same agree a zero = refl
counted_alike s r class k t u same agree a (suc len) =
    ap₂ (λ (here later : ℕ). here + later)
    (ap (λ (b : Bool). counted (b && nat_eq (class a (t a)) k)) (same a) ∙ by (r a) refl)
    (counted_alike s r class k t u same agree (a + 1) len)
  where
    by : (b : Bool) → r a ≡ b
        → counted (b && nat_eq (class a (t a)) k) ≡ counted (b && nat_eq (class a (u a)) k)
    by true e = ap (λ (legs : Legs). counted (nat_eq (class a legs) k)) (agree a e)
    by false e = refl

module _ (choice : Choosing) (rows : List Row) where
  -- the timetables agree on the chosen dates
  abbrev pub AgreeOn : Timetable → Timetable → Type 0
  AgreeOn t u = (g : FlightNumber) (n : ℕ) → chooses_date choice n ≡ true → t g n ≡ u g n

  one_finds : (action : Action) (period : DayRange) (t u : ℕ → Legs)
      → ((n : ℕ) → chooses_date choice n ≡ true → t n ≡ u n)
      → finding_of rows action (part_of choice period) (each_day t)
      ≡ chosen_finding choice rows action period (each_day u)
  one_finds action period t u agree =
      let count = λ (k : ℕ). counted_alike (holds (part_of choice period))
      (holds_chosen choice period) (class_on rows action) k t u (holds_part choice period)
      (λ n e. agree n (second (holds period n) (chooses_date choice n) e)) 0 day_count in
      λ i. record {
        acted = count 0 i;
        absent = count 1 i;
        present = count 2 i;
        leg = count 3 i;
        station = count 4 i;
      }

  one_agrees : (action : Action) (sub : ResolvedSub) (t u : Timetable) → AgreeOn t u
      → AgreeOn (after_one rows action (part_sub choice sub) t) (after_one rows action sub u)
  one_agrees action sub t u agree g n chosen =
      ap₂ (λ (b : Bool) (legs : Legs). if same_flight sub.flight g && b
      then after_on rows action n legs else legs)
      (holds_part choice sub.period n
      ∙ and_true (holds sub.period n) (chooses_date choice n) chosen)
      (agree g n chosen)

  subs_agree : (subs : List Sub) (dates : List ResolvedSub) (t u : Timetable) → AgreeOn t u
      → AgreeOn (after_subs rows subs (map (part_sub choice) dates) t)
      (after_subs rows subs dates u)
  subs_agree [] dates t u agree = agree
  subs_agree (sub ∷ subs) [] t u agree = agree
  subs_agree (sub ∷ subs) (dated ∷ dates) t u agree =
      subs_agree subs dates (after_one rows sub.action (part_sub choice dated) t)
      (after_one rows sub.action dated u) (one_agrees sub.action dated t u agree)

  subs_find : (subs : List Sub) (dates : List ResolvedSub) (t u : Timetable) → AgreeOn t u
      → subs_findings rows subs (map (part_sub choice) dates) t
      ≡ subs_chosen choice rows subs dates u
  subs_find [] dates t u agree = refl
  subs_find (sub ∷ subs) [] t u agree = refl
  subs_find (sub ∷ subs) (dated ∷ dates) t u agree =
      ap₂ (λ (f : Finding) (fs : List Finding). f ∷ fs)
      (one_finds sub.action dated.period (t dated.flight) (u dated.flight) (agree dated.flight))
      (subs_find subs dates (after_one rows sub.action (part_sub choice dated) t)
      (after_one rows sub.action dated u) (one_agrees sub.action dated t u agree))

  entries_find : (es : List Entry) (t u : Timetable) → AgreeOn t u
      → entries_findings rows (map (part_entry choice) es) t ≡ entries_chosen choice rows es u
  entries_find [] t u agree = refl
  entries_find (e ∷ es) t u agree =
      ap₂ (λ (f : List Finding) (fs : List (List Finding)). f ∷ fs)
      (subs_find e.message.subs e.dates t u agree)
      (entries_find es (after_entry rows (part_entry choice e) t) (after_entry rows e u)
      (subs_agree e.message.subs e.dates t u agree))

-- ---- of the flights that messages name

same_flights : (choice : Choosing) (dates : List ResolvedSub)
    → map (λ sub. sub.flight) (map (part_sub choice) dates) ≡ map (λ sub. sub.flight) dates
same_flights choice [] = refl
same_flights choice (sub ∷ dates) =
    ap (λ (flights : List FlightNumber). sub.flight ∷ flights) (same_flights choice dates)

same_named : (choice : Choosing) (es : List Entry)
    → flights_named (map (part_entry choice) es) ≡ flights_named es
same_named choice [] = refl
same_named choice (e ∷ es) =
    ap₂ (λ (one rest : List FlightNumber). one ++ rest) (same_flights choice e.dates)
    (same_named choice es)

-- messages with these parts find in the timetable of the flights that they name what they find on
-- chosen dates
pub parts_find : (choice : Choosing) (base : BaseSeen) (es : List Entry)
    → entries_findings base.rows (map (part_entry choice) es)
    (itinerary_among (flights_named es) base.records)
    ≡ chosen_by choice base es
parts_find choice base es =
    ap (λ (flights : List FlightNumber). entries_findings base.rows (map (part_entry choice) es)
    (itinerary_among flights base.records)) (sym (same_named choice es))
    ∙ found_among base (map (part_entry choice) es)
    ∙ entries_find choice base.rows es (itinerary base.records) (itinerary base.records)
    (λ g n chosen. refl)
