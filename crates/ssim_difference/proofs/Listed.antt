-- The flights of two timetables gone through together, by number and suffix, from a rank on: each
-- flight that flies in one of them is met once, and no other flight differs.
use Rattle.std.proofs.Common.{◌≡◌, ◌∙◌, ℕ, zero, suc, ◌+◌, ◌/◌, ◌%◌, ◌<◌, ◌≤◌, Bool, true, false}
use Rattle.std.proofs.Common.{nat_eq, nat_lt, if◌then◌else◌, List, [], ◌∷◌, ◌++◌, filter, length, map}
use Rattle.std.proofs.Common.{Option, Some, None, refl, sym, ap, ap₂, subst, arith, append_assoc}
use Rattle.std.proofs.lemmas.List.{append-nil}
use Rattle.std.specs.List.{range_with_len}
use Rattle.std.specs.Cmp.{nat_cmp_is}
use Rattle.std.specs.Ordering.{nat_cmp, ordering_reverse, ordering_then}
use Rattle.std.specs.declared.cmp.Ordering.{Ordering}
use Rattle.std.specs.declared.cmp.Ordering.TheVariants.{Less, Equal, Greater}
use Rattle.std.proofs.lemmas.Bool.Decides.{nat_tests}
use Rattle.std.proofs.lemmas.Cmp.{nat_list_cmp_total, tied_itself}
use Rattle.ssim_values.specs.Flight.{FlightNumber}
use Rattle.ssim_values.specs.clauses.Flight.{flight_order}
use Rattle.ssim_base.specs.Export.{Piece, flight_at, flight_count, pieces}
use Rattle.ssim_base.specs.ReadBack.{HaveSameItineraries, place_of}
use Rattle.ssim_base.specs.Timetable.{Days, on_day}
use Rattle.ssim_base.proofs.Places.{flight-is, flight-place, place-below}
use Rattle.ssim_schedule.specs.FlightPieces.{Divided, divided, flies}
use Rattle.ssim_difference.specs.Differences.{Compared, NoneDiffer, compared, difference_pieces}
use Rattle.ssim_difference.specs.Differences.{differences, differs}
use Rattle.ssim_parts.specs.Chosen.{Choosing}
use Rattle.ssim_difference.specs.internal.Between.{held}
use Rattle.ssim_difference.specs.internal.Choosing.{part}
use Rattle.ssim_difference.specs.internal.Matched.{Matched, flight_cmp, in_both, lesser, listed, next}
use Rattle.ssim_difference.specs.internal.Matched.{only_new, only_old}
use Rattle.ssim_difference.proofs.Choosing.{nothing_left}
use Rattle.ssim_difference.proofs.HeldPieces.{held_pieces}
use Rattle.ssim_difference.proofs.Pieces.{equal_on, quiet}

-- ---- the order of flights is that of their ranks

suffix_less : (r t : ℕ) → r < t
    → (if nat_eq r 0 then 32 else 64 + r) < (if nat_eq t 0 then 32 else 64 + t)
suffix_less r t h = grind (arith, nat_tests)

same_number : (a b : ℕ) → a < b → nat_lt (a / 27) (b / 27) ≡ false
    → (a / 27 ≡ b / 27) × (a % 27 < b % 27)
same_number a b h e = let not_less : b / 27 ≤ a / 27 = grind (arith, nat_tests) in
    (omega arith, omega arith)

less_number : (a b : ℕ) → nat_lt (a / 27) (b / 27) ≡ true → a / 27 < b / 27
less_number a b e = grind (arith, nat_tests)

less : (x y : ℕ) → x < y → nat_cmp x y ≡ Less
less x y h = sym (nat_cmp_is x y Less h)

equal : (x y : ℕ) → x ≡ y → nat_cmp x y ≡ Equal
equal x y h = sym (nat_cmp_is x y Equal h)

abbrev two : Ordering → Ordering → Ordering
two first second = ordering_then first (ordering_then second Equal)

pub flight_less : (a b : ℕ) → a < b → flight_cmp (flight_at a) (flight_at b) ≡ Less
flight_less a b h = by (nat_lt (a / 27) (b / 27)) refl
  where
    by : (t : Bool) → nat_lt (a / 27) (b / 27) ≡ t → flight_cmp (flight_at a) (flight_at b) ≡ Less
    by true e = ap (λ (o : Ordering). two o (nat_cmp (flight_at a).suffix (flight_at b).suffix))
        (less (a / 27) (b / 27) (less_number a b e))
    by false e =
        let same = same_number a b h e in
        ap₂ two (equal (a / 27) (b / 27) same.0)
        (less (flight_at a).suffix (flight_at b).suffix (suffix_less (a % 27) (b % 27) same.1))

pub flight_greater : (a b : ℕ) → a < b → flight_cmp (flight_at b) (flight_at a) ≡ Greater
flight_greater a b h =
    nat_list_cmp_total.antisymm (flight_order (flight_at b)) (flight_order (flight_at a))
    ∙ ap ordering_reverse (flight_less a b h)

-- ---- flights from a rank on

-- those of the flights with some ranks that fly on some date
abbrev pub flying : (FlightNumber → Days) → ℕ → ℕ → List Divided
flying days a count = filter flies (map (divided days) (map flight_at (range_with_len a count)))

-- those of the flights with some ranks that differ on some date
abbrev pub differing : (FlightNumber → Days) → (FlightNumber → Days) → ℕ → ℕ → List Compared
differing before after a count = filter differs
    (map (compared before after) (map flight_at (range_with_len a count)))

-- a list that is not longer than the empty one is empty
pub no_element : {A : Type 0} (xs : List A) → nat_lt 0 (length xs) ≡ false → xs ≡ []
no_element [] h = refl
no_element (x ∷ xs) h = absurd (grind (arith, nat_tests))

-- a list with an element is not empty
filled : {A : Type 0} (x : A) (xs : List A) → x ∷ xs ≡ [] → ⊥
filled x xs e = cc

-- the flights with some ranks, by the first of them
flying_first : (days : FlightNumber → Days) (a count : ℕ) (b : Bool)
    → flies (divided days (flight_at a)) ≡ b
    → flying days a (suc count)
    ≡ (if b then divided days (flight_at a) ∷ flying days (a + 1) count else flying days (a + 1) count)
flying_first days a count b e =
    let first = divided days (flight_at a) in let rest = flying days (a + 1) count in
    ap (λ (t : Bool). if t then first ∷ rest else rest) e

-- the first of them, and its rank
record IsFrom (a : ℕ) (flight : FlightNumber) : Type 0 where
  rank : ℕ
  from : a ≤ rank
  is : flight ≡ flight_at rank

first_rank : (days : FlightNumber → Days) (a count : ℕ) (first : Divided) (later : List Divided)
    → flying days a count ≡ first ∷ later → IsFrom a first.0
first_rank days a zero first later h = absurd (filled first later (sym h))
first_rank days a (suc count) first later h =
    by (flies (divided days (flight_at a))) refl
    (λ e. first_rank days (a + 1) count first later (sym (flying_first days a count false e) ∙ h))
  where
    heads : (x y : Divided) (xs ys : List Divided) → x ∷ xs ≡ y ∷ ys → y ≡ x
    heads x y xs ys e = cc

    by : (b : Bool) → flies (divided days (flight_at a)) ≡ b
        → (flies (divided days (flight_at a)) ≡ false → IsFrom (a + 1) first.0) → IsFrom a first.0
    by true e next_one =
        let same : first ≡ divided days (flight_at a) = heads
        (divided days (flight_at a)) first (flying days (a + 1) count) later
        (sym (flying_first days a count true e) ∙ h) in
        record { rank = a; from = omega arith; is = ap (λ (d : Divided). d.0) same }
    by false e next_one =
        let found = next_one e in
        let from = found.from in
        record { rank = found.rank; from = omega arith; is = found.is }

-- ---- no difference

-- a flight that flies in neither timetable does not differ, on whatever dates are chosen
quiet_flight : (choice : Option Choosing) (before after : FlightNumber → Days) (f : FlightNumber)
    → pieces (before f) ≡ [] → pieces (after f) ≡ []
    → differs (compared (part choice before after before) (part choice before after after) f) ≡ false
quiet_flight choice before after f none none_too =
    let of = part choice before after in
    ap (λ ps. nat_lt 0 (length ps)) (quiet (of before f) (of after f) (λ n h.
    nothing_left choice before after before f n h (nothing (before f) n none)
    ∙ sym (nothing_left choice before after after f n h (nothing (after f) n none_too))))
  where
    nothing : (days : Days) (n : ℕ) → pieces days ≡ [] → on_day days n ≡ []
    nothing days n e = sym (held_pieces days n) ∙ ap (λ (ps : List Piece). held ps n) e

differs_first : (before after : FlightNumber → Days) (a count : ℕ) (b : Bool)
    → differs (compared before after (flight_at a)) ≡ b
    → differing before after a (suc count)
    ≡ (if b then compared before after (flight_at a) ∷ differing before after
    (a + 1) count else differing before after (a + 1) count)
differs_first before after a count b e =
    ap (λ (t : Bool). if t then compared before after (flight_at a) ∷ differing before after
    (a + 1) count else differing before after (a + 1) count) e

-- ---- one flight met

listed_first : (b : Bool) (flight : Compared) (rest : List Compared)
    → (if b then flight ∷ rest else rest) ≡ (if b then flight ∷ [] else []) ++ rest
listed_first true flight rest = refl
listed_first false flight rest = refl

-- after the next flight: the rank from which flights are left, the pieces of the flight, and what it
-- adds to the list
pub record Stepped (choice : Option Choosing) (before after : FlightNumber → Days) (a count : ℕ)
    (met : Matched) : Type 0 where
  pub rank : ℕ
  pub left : ℕ
  pub old_left : met.old_left ≡ flying before rank left
  pub new_left : met.new_left ≡ flying after rank left
  pub old_is : met.old ≡ pieces (before met.flight)
  pub new_is : met.new ≡ pieces (after met.flight)
  pub listed_is : differing (part choice before after before) (part choice before after after) a count
      ≡ listed (compared (part choice before after before) (part choice before after after) met.flight)
      ++ differing (part choice before after before) (part choice before after after) rank left

met_same : (x y : Matched) → Some x ≡ Some y → x ≡ y
met_same x y h = cc

met_none : (y : Matched) → None ≡ Some y → ⊥
met_none y h = cc

module _ (choice : Option Choosing) (before after : FlightNumber → Days) where
  -- what is compared of the two timetables
  abbrev old_part : FlightNumber → Days
  old_part = part choice before after before

  abbrev new_part : FlightNumber → Days
  new_part = part choice before after after

  next_old : (a count : ℕ) (zs : List Divided) → flying after (a + 1) count ≡ zs
      → next (divided before (flight_at a) ∷ flying before (a + 1) count) zs
      ≡ Some (only_old (divided before (flight_at a)) (flying before (a + 1) count) zs)
  next_old a count [] e = refl
  next_old a count (z ∷ zs) e =
      let found = first_rank after (a + 1) count z zs e in
      let from = found.from in
      let smaller : a < found.rank = omega arith in
      ap (λ (o : Ordering). Some
      (lesser o (divided before (flight_at a)) (flying before (a + 1) count) z zs))
      (ap (flight_cmp (flight_at a)) found.is ∙ flight_less a found.rank smaller)

  next_new : (a count : ℕ) (zs : List Divided) → flying before (a + 1) count ≡ zs
      → next zs (divided after (flight_at a) ∷ flying after (a + 1) count)
      ≡ Some (only_new (divided after (flight_at a)) zs (flying after (a + 1) count))
  next_new a count [] e = refl
  next_new a count (z ∷ zs) e =
      let found = first_rank before (a + 1) count z zs e in
      let from = found.from in
      let smaller : a < found.rank = omega arith in
      ap (λ (o : Ordering). Some
      (lesser o z zs (divided after (flight_at a)) (flying after (a + 1) count)))
      (ap (λ (f : FlightNumber). flight_cmp f (flight_at a)) found.is
      ∙ flight_greater a found.rank smaller)

  next_both : (a count : ℕ)
      → next (divided before (flight_at a) ∷ flying before (a + 1) count)
      (divided after (flight_at a) ∷ flying after (a + 1) count)
      ≡ Some (in_both (divided before (flight_at a)) (divided after (flight_at a))
      (flying before (a + 1) count) (flying after (a + 1) count))
  next_both a count =
      ap (λ (o : Ordering). Some
      (lesser o (divided before (flight_at a)) (flying before (a + 1) count)
      (divided after (flight_at a)) (flying after (a + 1) count)))
      (tied_itself nat_list_cmp_total (flight_order (flight_at a)))

  pub stepped : (a count : ℕ) (met : Matched)
      → next (flying before a count) (flying after a count) ≡ Some met
      → Stepped choice before after a count met
  stepped a zero met h = absurd (met_none met h)
  stepped a (suc count) met h = by (flies one) (flies other) refl refl
      (λ e g. stepped (a + 1) count met (both_here false false e g))
    where
      f : FlightNumber
      f = flight_at a

      one : Divided
      one = divided before f

      other : Divided
      other = divided after f

      xs : List Divided
      xs = flying before (a + 1) count

      ys : List Divided
      ys = flying after (a + 1) count

      both_here : (x y : Bool) → flies one ≡ x → flies other ≡ y
          → next (if x then one ∷ xs else xs) (if y then other ∷ ys else ys) ≡ Some met
      both_here x y e g =
          sym (ap₂ next (ap (λ (t : Bool). if t then one ∷ xs else xs) e)
          (ap (λ (t : Bool). if t then other ∷ ys else ys) g)) ∙ h

      adds : differing old_part new_part a (suc count)
          ≡ listed (compared old_part new_part f) ++ differing old_part new_part (a + 1) count
      adds = listed_first (differs (compared old_part new_part f)) (compared old_part new_part f)
          (differing old_part new_part (a + 1) count)

      to_met : (m : Matched) → Some m ≡ Some met → Stepped choice before after a (suc count) m
          → Stepped choice before after a (suc count) met
      to_met m e s = subst (λ (n : Matched). Stepped choice before after a (suc count) n) (met_same m met e) s

      by : (x y : Bool) → flies one ≡ x → flies other ≡ y
          → (flies one ≡ false → flies other ≡ false → Stepped choice before after (a + 1) count met)
          → Stepped choice before after a (suc count) met
      by true true e g go_on =
          to_met (in_both one other xs ys) (sym (next_both a count)
          ∙ both_here true true e g) (record {
            rank = a + 1;
            left = count;
            old_left = refl;
            new_left = refl;
            old_is = refl;
            new_is = refl;
            listed_is = adds;
          })
      by true false e g go_on =
          to_met (only_old one xs ys) (sym (next_old a count ys refl)
          ∙ both_here true false e g) (record {
            rank = a + 1;
            left = count;
            old_left = refl;
            new_left = refl;
            old_is = refl;
            new_is = sym (no_element (pieces (after f)) g);
            listed_is = adds;
          })
      by false true e g go_on =
          to_met (only_new other xs ys) (sym (next_new a count xs refl)
          ∙ both_here false true e g) (record {
            rank = a + 1;
            left = count;
            old_left = refl;
            new_left = refl;
            old_is = sym (no_element (pieces (before f)) e);
            new_is = refl;
            listed_is = adds;
          })
      by false false e g go_on =
          let later = go_on e g in
          let silent = quiet_flight choice before after f (no_element (pieces (before f)) e)
          (no_element (pieces (after f)) g) in
          record {
            rank = later.rank;
            left = later.left;
            old_left = later.old_left;
            new_left = later.new_left;
            old_is = later.old_is;
            new_is = later.new_is;
            listed_is = differs_first old_part new_part a count false silent ∙ later.listed_is;
          }

  -- no flight is left
  pub none_left : (a count : ℕ) → flying before a count ≡ [] → flying after a count ≡ []
      → differing old_part new_part a count ≡ []
  none_left a zero h k = refl
  none_left a (suc count) h k =
      by (flies (divided before (flight_at a))) (flies (divided after (flight_at a))) refl refl
      (λ e g. none_left (a + 1) count (sym (flying_first before a count false e) ∙ h)
      (sym (flying_first after a count false g) ∙ k))
    where
      by : (x y : Bool) → flies (divided before (flight_at a)) ≡ x
          → flies (divided after (flight_at a)) ≡ y
          → (flies (divided before (flight_at a)) ≡ false → flies (divided after (flight_at a)) ≡ false
          → differing old_part new_part (a + 1) count ≡ [])
          → differing old_part new_part a (suc count) ≡ []
      by true y e g go_on = absurd
          (filled (divided before (flight_at a)) (flying before (a + 1) count)
          (sym (flying_first before a count true e) ∙ h))
      by false true e g go_on = absurd
          (filled (divided after (flight_at a)) (flying after (a + 1) count)
          (sym (flying_first after a count true g) ∙ k))
      by false false e g go_on =
          let silent = quiet_flight choice before after (flight_at a)
          (no_element (pieces (before (flight_at a))) e)
          (no_element (pieces (after (flight_at a))) g) in
          differs_first old_part new_part a count false silent ∙ go_on e g

-- what is left of both lists after some flights, and what was listed of these
pub record AreLeft (choice : Option Choosing) (before after : FlightNumber → Days)
    (found : List Compared) (old new : List Divided) : Type 0 where
  pub rank : ℕ
  pub left : ℕ
  pub old_is : old ≡ flying before rank left
  pub new_is : new ≡ flying after rank left
  pub listed_is :
      found ++ differing (part choice before after before) (part choice before after after) rank left
      ≡ differences (part choice before after before) (part choice before after after)

-- the pieces of the next flight are those of its days
pub met_pieces : (choice : Option Choosing) (before after : FlightNumber → Days)
    (found : List Compared) (old new : List Divided) (met : Matched)
    → AreLeft choice before after found old new
    → next old new ≡ Some met
    → (met.old ≡ pieces (before met.flight)) × (met.new ≡ pieces (after met.flight))
met_pieces choice before after found old new met left h =
    let s = stepped choice before after left.rank left.left met (sym (ap₂ next left.old_is left.new_is)
    ∙ h) in (s.old_is, s.new_is)

-- what is left after the next flight
pub left_after : (choice : Option Choosing) (before after : FlightNumber → Days)
    (found now : List Compared) (old new : List Divided) (met : Matched)
    → AreLeft choice before after found old new
    → next old new ≡ Some met
    → now ≡ found ++ listed (compared (part choice before after before)
    (part choice before after after) met.flight)
    → AreLeft choice before after now met.old_left met.new_left
left_after choice before after found now old new met left h is =
    let one = part choice before after before in
    let other = part choice before after after in
    let s = stepped choice before after left.rank left.left met (sym (ap₂ next left.old_is left.new_is)
    ∙ h) in
    record {
      rank = s.rank;
      left = s.left;
      old_is = s.old_left;
      new_is = s.new_left;
      listed_is =
          ap (λ (cs : List Compared). cs ++ differing one other s.rank s.left) is
          ∙ append_assoc found (listed (compared one other met.flight))
          (differing one other s.rank s.left)
          ∙ ap (λ (cs : List Compared). found ++ cs) (sym s.listed_is)
          ∙ left.listed_is;
    }

-- no flight is next only if none is left
pub both_empty : (old new : List Divided) → next old new ≡ None → (old ≡ []) × (new ≡ [])
both_empty [] [] h = (refl, refl)
both_empty (one ∷ left) [] h = absurd (met_none (only_old one left []) (sym h))
both_empty [] (other ∷ left) h = absurd (met_none (only_new other [] left) (sym h))
both_empty (one ∷ old) (other ∷ new) h = absurd
    (met_none (lesser (flight_cmp one.0 other.0) one old other new) (sym h))

-- the flights that differ, if none is left
pub all_listed : (choice : Option Choosing) (before after : FlightNumber → Days)
    (found : List Compared) (old new : List Divided)
    → AreLeft choice before after found old new → next old new ≡ None
    → found ≡ differences (part choice before after before) (part choice before after after)
all_listed choice before after found old new left h =
    let none = both_empty old new h in
    sym (append-nil found)
    ∙ ap (λ (cs : List Compared). found ++ cs)
    (sym (none_left choice before after left.rank left.left (sym left.old_is ∙ none.0) (sym left.new_is
    ∙ none.1)))
    ∙ left.listed_is

-- fewer flights are left after each
pub fewer : (old new : List Divided) (met : Matched) → next old new ≡ Some met
    → length met.old_left + length met.new_left < length old + length new
fewer [] [] met h = absurd (met_none met h)
fewer (one ∷ left) [] met h = subst
    (λ (m : Matched). length m.old_left + length m.new_left < suc (length left) + 0)
    (met_same (only_old one left []) met h) (omega arith)
fewer [] (other ∷ left) met h = subst
    (λ (m : Matched). length m.old_left + length m.new_left < 0 + suc (length left))
    (met_same (only_new other [] left) met h) (omega arith)
fewer (one ∷ old) (other ∷ new) met h =
    subst (λ (m : Matched). length m.old_left + length m.new_left < suc (length old) + suc
    (length new)) (met_same (lesser (flight_cmp one.0 other.0) one old other new) met h)
    (by (flight_cmp one.0 other.0))
  where
    by : (o : Ordering)
        → length (lesser o one old other new).old_left + length
        (lesser o one old other new).new_left < suc (length old) + suc (length new)
    by Less = omega arith
    by Equal = omega arith
    by Greater = omega arith

-- ---- equal timetables

not_listed : (before after : FlightNumber → Days) (a count k : ℕ) → differing before after a count ≡ []
    → a ≤ k → k < a + count → differs (compared before after (flight_at k)) ≡ false
not_listed before after a zero k h from to = absurd (omega arith)
not_listed before after a (suc count) k h from to =
    by (differs (compared before after (flight_at a))) refl (nat_eq a k) refl
    (λ e above. not_listed before after (a + 1) count k
    (sym (differs_first before after a count false e) ∙ h) above (omega arith))
  where
    by : (b : Bool) → differs (compared before after (flight_at a)) ≡ b → (t : Bool) → nat_eq a k ≡ t
        → (differs (compared before after (flight_at a)) ≡ false → a + 1 ≤ k
        → differs (compared before after (flight_at k)) ≡ false)
        → differs (compared before after (flight_at k)) ≡ false
    by true e t g go_on = absurd
        (filled (compared before after (flight_at a)) (differing before after (a + 1) count)
        (sym (differs_first before after a count true e) ∙ h))
    by false e true g go_on =
        let same : a ≡ k = grind (arith, nat_tests) in
        ap (λ (n : ℕ). differs (compared before after (flight_at n))) (sym same) ∙ e
    by false e false g go_on =
        let above : a + 1 ≤ k = grind (arith, nat_tests) in
        go_on e above

all_equal : (before after : FlightNumber → Days) → HaveSameItineraries before after → (a count : ℕ)
    → a + count ≤ flight_count → differing before after a count ≡ []
all_equal before after same a zero h = refl
all_equal before after same a (suc count) h =
    differs_first before after a count false
    (ap (λ ps. nat_lt 0 (length ps))
    (quiet (before (flight_at a)) (after (flight_at a))
    (λ n l. same (flight_at a) n (flight-is a (omega arith)) l)))
    ∙ all_equal before after same (a + 1) count (omega arith)

pub none_differ : NoneDiffer
none_differ before after = (
  λ none flight n is within.
      let f = flight_at (place_of flight) in
      let below : place_of flight < flight_count = place-below flight is in
      let silent = not_listed before after 0 flight_count (place_of flight) none (omega arith)
      (omega arith) in
      subst (λ (g : FlightNumber). on_day (before g) n ≡ on_day (after g) n) (flight-place flight is)
      (equal_on (before f) (after f) n within
      (no_element (difference_pieces (before f) (after f)) silent)),
  λ same. all_equal before after same 0 flight_count (omega arith),
)
