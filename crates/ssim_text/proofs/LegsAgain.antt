-- The leg lines and the segment lines that are written are read as what they were written from.
use Rattle.std.proofs.Common.{◌≡◌, ◌≤◌, ◌<◌, ℕ, ◌+◌, ◌-◌, ◌/◌, ◌%◌, Bool, true, false, not, ◌&&◌, List, [], ◌∷◌, ◌++◌, length, refl, sym, ap, subst, ◌∙◌, append_assoc, arith, Option, Some, None, codes, take, drop, take-append-drop, eqb-true, eq-eqb, leb-true, le-leb, ltb-true}
use Rattle.std.specs.Prelude.{◌==◌, nat_le, nat_lt, if◌then◌else◌}
use Rattle.std.specs.List.{list_all}
use Rattle.std.proofs.lemmas.Bool.{and_parts, and_from}
use Rattle.std.specs.Str.{bytes_eq}
use Rattle.std.proofs.lemmas.Slice.Eq.{bytes_eq-Decides}
use Rattle.std.proofs.lemmas.Bool.Decides.{nat_tests}
use Rattle.ssim_values.specs.Characters.{is_digit}
use Rattle.ssim_values.specs.Clock.{clock_of, clock_text}
use Rattle.ssim_values.specs.Station.{is_station}
use Rattle.ssim_values.proofs.ClockLaws.{clock_of-sound, clock_of-clock_text}
use Rattle.ssim_text.specs.declared.leg.LegEnd.{LegEnd}
use Rattle.ssim_text.specs.declared.leg.LegLine.{LegLine}
use Rattle.ssim_text.specs.declared.segment.SegmentLine.{SegmentLine}
use Rattle.ssim_text.specs.Bytes.{◌>>=◌, before, from, word, after_word, is_printable}
use Rattle.ssim_text.specs.Lines.{station_in, clock_in, variation_of, passenger_of, variations_of, end_of, leg_of, points_of, digits_in, segment_text_of, segment_of}
use Rattle.ssim_text.specs.Grammar.{LegPart, SegmentPart}
use Rattle.ssim_text.specs.Canonical.{three_digits, short_digits, variation_text, passenger_text, leg_end_text, segment_line_text}
use Rattle.ssim_text.proofs.Runs.{none_some, some_same}
use Rattle.ssim_text.specs.internal.Made.{IsEndBounded, IsSegmentWithin, are_all_points}
use Rattle.ssim_text.proofs.LinesKept.{IsLine, ReadsAgain, chosen, other, all_join, all_more, line_behind, line_from, line_tail}
use Rattle.ssim_text.proofs.Words.{bound, carried, only_if, only_else, lacks, is_solid, solid_printable, solid_no_blank, solid_line, before_mark, from_mark, no_blanks, word_first, behind_first, blanks_none, line_after, below_three, AreDigits, digits_sound, digits_complete}

-- ---- stations

pub record IsStation (text station : List ℕ) : Type 0 where
  pub same : text ≡ station
  pub long : length station ≡ 3
  pub valid : is_station station ≡ true

station_sound : (text station : List ℕ) → station_in text ≡ Some station → IsStation text station
station_sound text station h =
    let p = only_if (length text == 3) (if is_station text then Some text else None) station h in
    let q = only_if (is_station text) (Some text) station p.1 in
    let same = some_same text station q.1 in
    record { same = same; long = ap length (sym same) ∙ eqb-true (length text) 3 p.0; valid = ap is_station (sym same) ∙ q.0 }

three_solid : (a b c : ℕ) → is_station (a ∷ b ∷ c ∷ []) ≡ true → list_all is_solid (a ∷ b ∷ c ∷ []) ≡ true
three_solid a b c h = grind (arith, nat_tests)

station_solid : (station : List ℕ) → length station ≡ 3 → is_station station ≡ true → list_all is_solid station ≡ true
station_solid (a ∷ b ∷ c ∷ []) l h = three_solid a b c h
station_solid [] l h = absurd (omega (arith, l))
station_solid (a ∷ []) l h = absurd (omega (arith, l))
station_solid (a ∷ b ∷ []) l h = absurd (omega (arith, l))
station_solid (a ∷ b ∷ c ∷ d ∷ xs) l h = absurd (omega (arith, l))

pub three_long : (station : List ℕ) → is_station station ≡ true → length station ≡ 3
three_long station h = eqb-true (length station) 3 (and_parts (length station == 3) _ h).0

pub station_read : (station : List ℕ) → is_station station ≡ true → station_in station ≡ Some station
station_read station h =
    chosen (length station == 3) (if is_station station then Some station else None) None (eq-eqb (length station) 3 (three_long station h))
    ∙ chosen (is_station station) (Some station) None h

-- ---- times and variations

clock_solid : (n : ℕ) → n ≤ 1440 → list_all is_solid (clock_text n) ≡ true
clock_solid n h = grind (arith, nat_tests)

clock_bound : (text : List ℕ) (n : ℕ) → clock_in text ≡ Some n → n ≤ 1440
clock_bound text n h = (clock_of-sound n text (only_if (length text == 4) (clock_of text) n h).1).to

variation_bound : (text : List ℕ) (v : ℕ) → variation_of text ≡ Some v → v ≤ 7
variation_bound [] v h = absurd (none_some v h)
variation_bound (b ∷ []) v h = absurd (none_some v h)
variation_bound (b ∷ d ∷ []) v h =
    let p = only_if ((b == 47) && nat_le 48 d && nat_le d 55) (Some (d - 48)) v h in
    let most = leb-true d 55 (and_parts ((b == 47) && nat_le 48 d) (nat_le d 55) p.0).1 in
    omega (arith, most, some_same (d - 48) v p.1)
variation_bound (b ∷ d ∷ c ∷ text) v h = absurd (none_some v h)

passenger_bound : (text : List ℕ) (n : ℕ) → passenger_of text ≡ Some n → n ≤ 1440
passenger_bound [] n h = absurd (none_some n h)
passenger_bound (b ∷ text) n h = clock_bound text n (only_if (b == 47) (clock_in text) n h).1

abbrev pub Bounded : ℕ × ℕ → Type 0
Bounded r = (r.0 ≤ 7) × (r.1 ≤ 1440)

abbrev pub a_pair : ℕ → ℕ → ℕ × ℕ
a_pair v p = (v, p)

bounded_at : (none two five : Bool) (time : ℕ) (text : List ℕ) (r : ℕ × ℕ) → time ≤ 1440
    → (if none then Some (a_pair 0 time)
    else if two then (variation_of text >>= λ v. Some (a_pair v time))
    else if five then (passenger_of text >>= λ p. Some (a_pair 0 p))
    else (variation_of (take 2 text) >>= λ v. passenger_of (drop 2 text) >>= λ p. Some (a_pair v p))) ≡ Some r → Bounded r
bounded_at true two five time text r t h = subst Bounded (some_same (a_pair 0 time) r h) (omega arith, t)
bounded_at false true five time text r t h =
    let v = bound (variation_of text) (λ (v : ℕ). Some (a_pair v time)) r h in
    subst Bounded (some_same (a_pair v.0 time) r v.2) (variation_bound text v.0 v.1, t)
bounded_at false false true time text r t h =
    let p = bound (passenger_of text) (λ (p : ℕ). Some (a_pair 0 p)) r h in
    subst Bounded (some_same (a_pair 0 p.0) r p.2) (omega arith, passenger_bound text p.0 p.1)
bounded_at false false false time text r t h =
    let v = bound (variation_of (take 2 text)) (λ (v : ℕ). passenger_of (drop 2 text) >>= λ p. Some (a_pair v p)) r h in
    let p = bound (passenger_of (drop 2 text)) (λ (p : ℕ). Some (a_pair v.0 p)) r v.2 in
    subst Bounded (some_same (a_pair v.0 p.0) r p.2) (variation_bound (take 2 text) v.0 v.1, passenger_bound (drop 2 text) p.0 p.1)

variations_bound : (time : ℕ) (text : List ℕ) (r : ℕ × ℕ) → time ≤ 1440 → variations_of time text ≡ Some r → Bounded r
unfolding variations_of
variations_bound time text r t h = bounded_at (length text == 0) (length text == 2) (length text == 5) time text r t h

variation_back : (v : ℕ) → v ≤ 7 → variation_of (47 ∷ (48 + v % 10) ∷ []) ≡ Some v
variation_back v h = grind (arith, nat_tests)

passenger_back : (p : ℕ) → p ≤ 1440 → passenger_of (47 ∷ clock_text p) ≡ Some p
passenger_back p h = clock_of-clock_text p h

with_variation : (o : Option ℕ) (v time : ℕ) → o ≡ Some v → (o >>= λ x. Some (a_pair x time)) ≡ Some (a_pair v time)
with_variation o v time h = rw h refl

with_passenger : (o : Option ℕ) (v p : ℕ) → o ≡ Some p → (o >>= λ x. Some (a_pair v x)) ≡ Some (a_pair v p)
with_passenger o v p h = rw h refl

with_both : (o q : Option ℕ) (v p : ℕ) → o ≡ Some v → q ≡ Some p → (o >>= λ x. q >>= λ y. Some (a_pair x y)) ≡ Some (a_pair v p)
with_both o q v p h k = rw (h, k) refl

same_pair : (v w p q : ℕ) → v ≡ w → p ≡ q → Some (a_pair v p) ≡ Some (a_pair w q)
same_pair v w p q h k = rw (h, k) refl

-- parts that are left out are read as their defaults
variations_at : (none same : Bool) (time v p : ℕ) → (v == 0) ≡ none → (p == time) ≡ same → v ≤ 7 → p ≤ 1440
    → variations_of time ((if none then [] else 47 ∷ (48 + v % 10) ∷ []) ++ (if same then [] else 47 ∷ clock_text p)) ≡ Some (a_pair v p)
unfolding variations_of
variations_at true true time v p n s h k = same_pair 0 v time p (sym (eqb-true v 0 n)) (sym (eqb-true p time s))
variations_at false true time v p n s h k = with_variation (variation_of (47 ∷ (48 + v % 10) ∷ [])) v time (variation_back v h) ∙ same_pair v v time p refl (sym (eqb-true p time s))
variations_at true false time v p n s h k = with_passenger (passenger_of (47 ∷ clock_text p)) 0 p (passenger_back p k) ∙ same_pair 0 v p p (sym (eqb-true v 0 n)) refl
variations_at false false time v p n s h k = with_both (variation_of (47 ∷ (48 + v % 10) ∷ [])) (passenger_of (47 ∷ clock_text p)) v p (variation_back v h) (passenger_back p k)

variations_back : (time v p : ℕ) → v ≤ 7 → p ≤ 1440 → variations_of time (variation_text v ++ passenger_text time p) ≡ Some (a_pair v p)
variations_back time v p h k = variations_at (v == 0) (p == time) time v p refl refl h k

variation_solid_at : (none : Bool) (v : ℕ) → list_all is_solid (if none then [] else 47 ∷ (48 + v % 10) ∷ []) ≡ true
variation_solid_at true v = refl
variation_solid_at false v = grind (arith, nat_tests)

passenger_solid_at : (same : Bool) (p : ℕ) → p ≤ 1440 → list_all is_solid (if same then [] else 47 ∷ clock_text p) ≡ true
passenger_solid_at true p h = refl
passenger_solid_at false p h = all_join is_solid (47 ∷ []) (clock_text p) refl (clock_solid p h)

-- ---- ends of legs

pub record IsEnd (text : List ℕ) (e : LegEnd) : Type 0 where
  pub station : IsStation (take 3 text) e.station
  pub time : e.time ≤ 1440
  pub rest : Bounded (a_pair e.variation e.passenger)

pub end_sound : (text : List ℕ) (e : LegEnd) → end_of text ≡ Some e → IsEnd text e
unfolding end_of
end_sound text e h =
    let station = bound (station_in (take 3 text)) (λ (s : List ℕ). clock_in (take 4 (drop 3 text)) >>= λ t. variations_of t (drop 4 (drop 3 text)) >>= λ r. Some (record { station = s; time = t; variation = r.0; passenger = r.1 })) e h in
    let time = bound (clock_in (take 4 (drop 3 text))) (λ (t : ℕ). variations_of t (drop 4 (drop 3 text)) >>= λ r. Some (record { station = station.0; time = t; variation = r.0; passenger = r.1 })) e station.2 in
    let rest = bound (variations_of time.0 (drop 4 (drop 3 text))) (λ (r : ℕ × ℕ). Some (record { station = station.0; time = time.0; variation = r.0; passenger = r.1 })) e time.2 in
    let bounded = clock_bound (take 4 (drop 3 text)) time.0 time.1 in
    carried (IsEnd text) (record { station = station.0; time = time.0; variation = rest.0.0; passenger = rest.0.1 }) e rest.2
    (record { station = station_sound (take 3 text) station.0 station.1; time = bounded; rest = variations_bound time.0 (drop 4 (drop 3 text)) rest.0 bounded rest.1 })

by_parts : (station : Option (List ℕ)) (time : Option ℕ) (rest : ℕ → Option (ℕ × ℕ)) (e : LegEnd) → station ≡ Some e.station → time ≡ Some e.time → rest e.time ≡ Some (a_pair e.variation e.passenger)
    → (station >>= λ s. time >>= λ t. rest t >>= λ r. Some (record { station = s; time = t; variation = r.0; passenger = r.1 })) ≡ Some e
by_parts station time rest e h k l = rw (h, k, l) refl

clock_read : (n : ℕ) → n ≤ 1440 → clock_in (clock_text n) ≡ Some n
clock_read n h = clock_of-clock_text n h

end_at : (station : List ℕ) (e : LegEnd) → station ≡ e.station → length station ≡ 3 → is_station station ≡ true → e.time ≤ 1440 → Bounded (a_pair e.variation e.passenger)
    → end_of (station ++ clock_text e.time ++ variation_text e.variation ++ passenger_text e.time e.passenger) ≡ Some e
unfolding end_of
end_at (a ∷ b ∷ c ∷ []) e same l h t r =
    by_parts (station_in (a ∷ b ∷ c ∷ [])) (clock_in (clock_text e.time)) (λ (n : ℕ). variations_of n (variation_text e.variation ++ passenger_text e.time e.passenger)) e
    (chosen (is_station (a ∷ b ∷ c ∷ [])) (Some (a ∷ b ∷ c ∷ [])) None h ∙ ap (λ (x : List ℕ). Some x) same) (clock_read e.time t) (variations_back e.time e.variation e.passenger r.0 r.1)
end_at [] e same l h t r = absurd (omega (arith, l))
end_at (a ∷ []) e same l h t r = absurd (omega (arith, l))
end_at (a ∷ b ∷ []) e same l h t r = absurd (omega (arith, l))
end_at (a ∷ b ∷ c ∷ d ∷ xs) e same l h t r = absurd (omega (arith, l))

-- what is read of one end is within its bounds
pub end_bounded : (text : List ℕ) (e : LegEnd) → end_of text ≡ Some e → IsEndBounded e
end_bounded text e h =
    let s = end_sound text e h in
    record { station = s.station.valid; time = s.time; variation = s.rest.0; passenger = s.rest.1 }

end_back : (e : LegEnd) → IsEndBounded e → end_of (leg_end_text e) ≡ Some e
end_back e b = end_at e.station e refl (three_long e.station b.station) b.station b.time (b.variation, b.passenger)

end_solid : (e : LegEnd) → IsEndBounded e → list_all is_solid (leg_end_text e) ≡ true
end_solid e b =
    all_join is_solid (e.station ++ clock_text e.time ++ variation_text e.variation) (passenger_text e.time e.passenger)
    (all_join is_solid (e.station ++ clock_text e.time) (variation_text e.variation) (all_join is_solid e.station (clock_text e.time) (station_solid e.station (three_long e.station b.station) b.station) (clock_solid e.time b.time)) (variation_solid_at (e.variation == 0) e.variation))
    (passenger_solid_at (e.passenger == e.time) e.passenger b.passenger)

end_some : (e : LegEnd) → IsEndBounded e → 1 ≤ length (leg_end_text e)
end_some e b = some_first e.station (clock_text e.time) (variation_text e.variation) (passenger_text e.time e.passenger) (three_long e.station b.station)
  where
    some_first : (a b c d : List ℕ) → length a ≡ 3 → 1 ≤ length (a ++ b ++ c ++ d)
    some_first [] b c d l = absurd (omega (arith, l))
    some_first (x ∷ a) b c d l = omega arith

-- ---- leg lines

pub record IsLeg (line : List ℕ) (leg : LegLine) : Type 0 where
  pub departure : end_of (word line) ≡ Some leg.departure
  pub arrival : end_of (after_word line) ≡ Some leg.arrival

pub leg_sound : (line : List ℕ) (leg : LegLine) → leg_of line ≡ Some leg → IsLeg line leg
unfolding leg_of
leg_sound line leg h =
    let departure = bound (end_of (word line)) (λ (d : LegEnd). end_of (after_word line) >>= λ a. Some (record { departure = d; arrival = a })) leg h in
    let arrival = bound (end_of (after_word line)) (λ (a : LegEnd). Some (record { departure = departure.0; arrival = a })) leg departure.2 in
    carried (IsLeg line) (record { departure = departure.0; arrival = arrival.0 }) leg arrival.2 (record { departure = departure.1; arrival = arrival.1 })

both_ends : (departure arrival : Option LegEnd) (leg : LegLine) → departure ≡ Some leg.departure → arrival ≡ Some leg.arrival → (departure >>= λ d. arrival >>= λ a. Some (record { departure = d; arrival = a })) ≡ Some leg
both_ends departure arrival leg h k = rw (h, k) refl

leg_read : (leg : LegLine) (from to : List ℕ) → lacks 32 from ≡ true → lacks 32 to ≡ true → end_of from ≡ Some leg.departure → end_of to ≡ Some leg.arrival → leg_of (from ++ 32 ∷ to) ≡ Some leg
unfolding leg_of
leg_read leg from to f t h k =
    both_ends (end_of (word (from ++ 32 ∷ to))) (end_of (after_word (from ++ 32 ∷ to))) leg
    (ap end_of (word_first from to f) ∙ h) (ap end_of (behind_first from to f (blanks_none to t)) ∙ k)

-- a leg line within its bounds is read from its text
pub leg_reads : (leg : LegLine) → IsEndBounded leg.departure → IsEndBounded leg.arrival → ReadsAgain (LegPart leg)
leg_reads leg departure arrival =
    let from = leg_end_text leg.departure in
    let to = leg_end_text leg.arrival in
    let from_solid = end_solid leg.departure departure in
    let to_solid = end_solid leg.arrival arrival in
    let no_blank = λ (xs : List ℕ) (k : list_all is_solid xs ≡ true). all_more is_solid (λ b. not (b == 32)) solid_no_blank xs k in
    record {
      spelled = leg_read leg from to (no_blank from from_solid) (no_blank to to_solid) (end_back leg.departure departure) (end_back leg.arrival arrival);
      line = line_behind from (32 ∷ to) (all_more is_solid is_printable solid_printable from from_solid) (line_behind (32 ∷ []) to refl (solid_line to (end_some leg.arrival arrival) to_solid));
    }

pub leg_again : (leg : LegLine) (line : List ℕ) → leg_of line ≡ Some leg → ReadsAgain (LegPart leg)
leg_again leg line h =
    let s = leg_sound line leg h in
    leg_reads leg (end_bounded (word line) leg.departure s.departure) (end_bounded (after_word line) leg.arrival s.arrival)

-- ---- segment lines

record ArePoints (text : List ℕ) (points : List ℕ × List ℕ) : Type 0 where
  board : IsStation (take 3 text) points.0
  off : IsStation (drop 3 text) points.1

abbrev pub two : List ℕ → List ℕ → List ℕ × List ℕ
two board off = (board, off)

points_sound : (text : List ℕ) (points : List ℕ × List ℕ) → points_of text ≡ Some points → ArePoints text points
points_sound text points h =
    let p = only_else (bytes_eq text (codes "QQQQQQ")) (station_in (take 3 text) >>= λ board. station_in (drop 3 text) >>= λ off. Some (two board off)) points h in
    let board = bound (station_in (take 3 text)) (λ (b : List ℕ). station_in (drop 3 text) >>= λ off. Some (two b off)) points p.1 in
    let off = bound (station_in (drop 3 text)) (λ (o : List ℕ). Some (two board.0 o)) points board.2 in
    subst (ArePoints text) (some_same (two board.0 off.0) points off.2) (record { board = station_sound (take 3 text) board.0 board.1; off = station_sound (drop 3 text) off.0 off.1 })

-- the points are not the word for all points
points_other : (text : List ℕ) (points : List ℕ × List ℕ) → points_of text ≡ Some points → bytes_eq text (codes "QQQQQQ") ≡ false
points_other text points h = (only_else (bytes_eq text (codes "QQQQQQ")) (station_in (take 3 text) >>= λ board. station_in (drop 3 text) >>= λ off. Some (two board off)) points h).0

front_points : (board off : List ℕ) → length board ≡ 3 → (take 3 (board ++ off) ≡ board) × (drop 3 (board ++ off) ≡ off)
front_points (a ∷ b ∷ c ∷ []) off l = (refl, refl)
front_points [] off l = absurd (omega (arith, l))
front_points (a ∷ []) off l = absurd (omega (arith, l))
front_points (a ∷ b ∷ []) off l = absurd (omega (arith, l))
front_points (a ∷ b ∷ c ∷ d ∷ xs) off l = absurd (omega (arith, l))

-- two stations are the word for all points if both stand for all points
word_of_all : (board off : List ℕ) → length board ≡ 3 → are_all_points board off ≡ false → bytes_eq (board ++ off) (codes "QQQQQQ") ≡ false
word_of_all board off l h = by (bytes_eq (board ++ off) (codes "QQQQQQ")) refl
  where
    by : (b : Bool) → bytes_eq (board ++ off) (codes "QQQQQQ") ≡ b → b ≡ false
    by false e = refl
    by true e =
        let word = (bytes_eq-Decides (board ++ off) (codes "QQQQQQ")).0 e in
        let cut = front_points board off l in
        let first : board ≡ codes "QQQ" = sym cut.0 ∙ ap (take 3) word in
        let last : off ≡ codes "QQQ" = sym cut.1 ∙ ap (drop 3) word in
        let both = and_from (bytes_eq board (codes "QQQ")) (bytes_eq off (codes "QQQ")) ((bytes_eq-Decides board (codes "QQQ")).1 first) ((bytes_eq-Decides off (codes "QQQ")).1 last) in
        sym both ∙ h

not_all_points : (text board off : List ℕ) → text ≡ board ++ off → bytes_eq text (codes "QQQQQQ") ≡ false → are_all_points board off ≡ false
not_all_points text board off same h = by (are_all_points board off) refl
  where
    by : (b : Bool) → are_all_points board off ≡ b → b ≡ false
    by false e = refl
    by true e =
        let p = and_parts (bytes_eq board (codes "QQQ")) (bytes_eq off (codes "QQQ")) e in
        let first = (bytes_eq-Decides board (codes "QQQ")).0 p.0 in
        let last = (bytes_eq-Decides off (codes "QQQ")).0 p.1 in
        let whole : text ≡ codes "QQQQQQ" = same ∙ (λ i. first i ++ last i) in
        sym ((bytes_eq-Decides text (codes "QQQQQQ")).1 whole) ∙ h

with_stations : (o q : Option (List ℕ)) (board off : List ℕ) → o ≡ Some board → q ≡ Some off → (o >>= λ b. q >>= λ f. Some (two b f)) ≡ Some (two board off)
with_stations o q board off h k = rw (h, k) refl

points_read : (board off : List ℕ) → is_station board ≡ true → is_station off ≡ true → are_all_points board off ≡ false → points_of (board ++ off) ≡ Some (two board off)
points_read board off h k other_points =
    let text = board ++ off in
    let long = three_long board h in
    let cut = front_points board off long in
    other (bytes_eq text (codes "QQQQQQ")) None (station_in (take 3 text) >>= λ b. station_in (drop 3 text) >>= λ f. Some (two b f)) (word_of_all board off long other_points)
    ∙ with_stations (station_in (take 3 text)) (station_in (drop 3 text)) board off (ap station_in cut.0 ∙ station_read board h) (ap station_in cut.1 ∙ station_read off k)

segment_text_sound : (text own : List ℕ) → segment_text_of text ≡ Some own → (text ≡ 47 ∷ own) × (1 ≤ length own) × (length own ≤ 155)
segment_text_sound [] own h = absurd (none_some own h)
segment_text_sound (b ∷ text) own h =
    let p = only_if ((b == 47) && nat_le 1 (length text) && nat_le (length text) 155) (Some text) own h in
    let q = and_parts ((b == 47) && nat_le 1 (length text)) (nat_le (length text) 155) p.0 in
    let solidus = and_parts (b == 47) (nat_le 1 (length text)) q.0 in
    let same = some_same text own p.1 in (
      ap (λ (x : ℕ). x ∷ text) (eqb-true b 47 solidus.0) ∙ ap (λ (x : List ℕ). 47 ∷ x) same,
      subst (λ (x : List ℕ). 1 ≤ length x) same (leb-true 1 (length text) solidus.1),
      subst (λ (x : List ℕ). length x ≤ 155) same (leb-true (length text) 155 q.1),
    )

segment_text_read : (text : List ℕ) → 1 ≤ length text → length text ≤ 155 → segment_text_of (47 ∷ text) ≡ Some text
segment_text_read text h k =
    chosen ((47 == 47) && nat_le 1 (length text) && nat_le (length text) 155) (Some text) None
    (and_from ((47 == 47) && nat_le 1 (length text)) (nat_le (length text) 155) (and_from (47 == 47) (nat_le 1 (length text)) refl (le-leb 1 (length text) h)) (le-leb (length text) 155 k))

pub record IsSegment (line : List ℕ) (s : SegmentLine) : Type 0 where
  pub points : points_of (word line) ≡ Some (two s.board s.off)
  pub identifier : digits_in 1 3 (before 47 (after_word line)) ≡ Some s.identifier
  pub text : segment_text_of (from 47 (after_word line)) ≡ Some s.text

pub segment_sound : (line : List ℕ) (s : SegmentLine) → segment_of line ≡ Some s → IsSegment line s
unfolding segment_of
segment_sound line s h =
    let points = bound (points_of (word line)) (λ (p : List ℕ × List ℕ). digits_in 1 3 (before 47 (after_word line)) >>= λ i. segment_text_of (from 47 (after_word line)) >>= λ t. Some (record { board = p.0; off = p.1; identifier = i; text = t })) s h in
    let identifier = bound (digits_in 1 3 (before 47 (after_word line))) (λ (i : ℕ). segment_text_of (from 47 (after_word line)) >>= λ t. Some (record { board = points.0.0; off = points.0.1; identifier = i; text = t })) s points.2 in
    let text = bound (segment_text_of (from 47 (after_word line))) (λ (t : List ℕ). Some (record { board = points.0.0; off = points.0.1; identifier = identifier.0; text = t })) s identifier.2 in
    carried (IsSegment line) (record { board = points.0.0; off = points.0.1; identifier = identifier.0; text = text.0 }) s text.2 (record { points = points.1; identifier = identifier.1; text = text.1 })

three_parts : (points : Option (List ℕ × List ℕ)) (identifier : Option ℕ) (text : Option (List ℕ)) (s : SegmentLine) → points ≡ Some (two s.board s.off) → identifier ≡ Some s.identifier → text ≡ Some s.text
    → (points >>= λ p. identifier >>= λ i. text >>= λ t. Some (record { board = p.0; off = p.1; identifier = i; text = t })) ≡ Some s
three_parts points identifier text s h k l = rw (h, k, l) refl

-- an identifier is written without leading zeros
short_at : (n : ℕ) (one two : Bool) → nat_lt n 10 ≡ one → nat_lt n 100 ≡ two → n < 1000
    → AreDigits 1 3 n (if one then (48 + n % 10) ∷ [] else (if two then (48 + n / 10 % 10) ∷ (48 + n % 10) ∷ [] else three_digits n))
short_at n true two e f h =
    let low = ltb-true n 10 e in
    record { from = omega arith; to = omega arith; all = grind (arith, nat_tests); number = omega (arith, low) }
short_at n false true e f h =
    let low = ltb-true n 100 f in
    record { from = omega arith; to = omega arith; all = grind (arith, nat_tests); number = omega (arith, low) }
short_at n false false e f h = record { from = omega arith; to = omega arith; all = grind (arith, nat_tests); number = omega arith }

short_digits_are : (n : ℕ) → n < 1000 → AreDigits 1 3 n (short_digits n)
short_digits_are n h = short_at n (nat_lt n 10) (nat_lt n 100) refl refl h

digit_solid : (b : ℕ) → is_digit b ≡ true → is_solid b ≡ true
digit_solid b h = grind (arith, nat_tests)

digit_no_solidus : (b : ℕ) → is_digit b ≡ true → not (b == 47) ≡ true
digit_no_solidus b h = grind (arith, nat_tests)

segment_read : (s : SegmentLine) (points digits : List ℕ) → lacks 32 points ≡ true → points_of points ≡ Some (two s.board s.off) → AreDigits 1 3 s.identifier digits → segment_text_of (47 ∷ s.text) ≡ Some s.text
    → segment_of (points ++ 32 ∷ (digits ++ 47 ∷ s.text)) ≡ Some s
unfolding segment_of
segment_read s points digits f h d t =
    let rest = digits ++ 47 ∷ s.text in
    let no_blank = all_more is_solid (λ b. not (b == 32)) solid_no_blank digits (all_more is_digit is_solid digit_solid digits d.all) in
    let no_solidus = all_more is_digit (λ b. not (b == 47)) digit_no_solidus digits d.all in
    let after : after_word (points ++ 32 ∷ rest) ≡ rest = behind_first points rest f (no_blanks digits (47 ∷ s.text) d.from no_blank) in
    three_parts (points_of (word (points ++ 32 ∷ rest))) (digits_in 1 3 (before 47 (after_word (points ++ 32 ∷ rest)))) (segment_text_of (from 47 (after_word (points ++ 32 ∷ rest)))) s
    (ap points_of (word_first points rest f) ∙ h)
    (ap (λ (x : List ℕ). digits_in 1 3 (before 47 x)) after ∙ ap (digits_in 1 3) (before_mark 47 digits s.text no_solidus) ∙ digits_complete 1 3 digits s.identifier d)
    (ap (λ (x : List ℕ). segment_text_of (from 47 x)) after ∙ ap segment_text_of (from_mark 47 digits s.text no_solidus) ∙ t)

from_some : (text own : List ℕ) → from 47 text ≡ 47 ∷ own → 1 ≤ length (from 47 text)
from_some text own h = subst (λ (x : List ℕ). 1 ≤ length x) (sym h) (omega arith)

text_some : (text : List ℕ) → 1 ≤ length (from 47 text) → 1 ≤ length text
text_some [] h = h
text_some (x ∷ text) h = omega arith

-- what is read of a segment line is within its bounds
pub segment_within : (s : SegmentLine) (line : List ℕ) → segment_of line ≡ Some s → IsLine line → IsSegmentWithin s
segment_within s line h l =
    let r = segment_sound line s h in
    let p = points_sound (word line) (two s.board s.off) r.points in
    let same : word line ≡ s.board ++ s.off = sym (take-append-drop 3 (word line)) ∙ ap (λ (x : List ℕ). x ++ drop 3 (word line)) p.board.same ∙ ap (λ (x : List ℕ). s.board ++ x) p.off.same in
    let identifier = digits_sound 1 3 (before 47 (after_word line)) s.identifier r.identifier in
    let small = subst (λ (x : ℕ). x < 1000) identifier.number (below_three (before 47 (after_word line)) identifier.all identifier.to) in
    let text = segment_text_sound (from 47 (after_word line)) s.text r.text in
    let some = from_some (after_word line) s.text text.0 in
    let last : IsLine (47 ∷ s.text) = subst IsLine text.0 (line_from 47 (after_word line) (line_after line l (text_some (after_word line) some)) some) in
    record {
      board = p.board.valid;
      off = p.off.valid;
      points = not_all_points (word line) s.board s.off same (points_other (word line) (two s.board s.off) r.points);
      identifier = omega (arith, small);
      few = text.2;
      text = line_tail 47 s.text last text.1;
    }

-- a segment line within its bounds is read from its text
pub segment_reads : (s : SegmentLine) → IsSegmentWithin s → ReadsAgain (SegmentPart s)
segment_reads s w =
    let points = s.board ++ s.off in
    let solid = all_join is_solid s.board s.off (station_solid s.board (three_long s.board w.board) w.board) (station_solid s.off (three_long s.off w.off) w.off) in
    let most = w.identifier in
    let digits = short_digits_are s.identifier (omega (arith, most)) in
    let digits_printable = all_more is_digit is_printable (λ b k. solid_printable b (digit_solid b k)) (short_digits s.identifier) digits.all in
    let last = line_behind (47 ∷ []) s.text refl w.text in
    let whole : points ++ 32 ∷ (short_digits s.identifier ++ 47 ∷ s.text) ≡ segment_line_text s = sym (append_assoc points (32 ∷ short_digits s.identifier) (47 ∷ s.text)) in
    record {
      spelled = ap segment_of (sym whole)
          ∙ segment_read s points (short_digits s.identifier) (all_more is_solid (λ b. not (b == 32)) solid_no_blank points solid) (points_read s.board s.off w.board w.off w.points) digits (segment_text_read s.text w.text.some w.few);
      line = subst IsLine whole
          (line_behind points (32 ∷ (short_digits s.identifier ++ 47 ∷ s.text)) (all_more is_solid is_printable solid_printable points solid)
          (line_behind (32 ∷ []) (short_digits s.identifier ++ 47 ∷ s.text) refl (line_behind (short_digits s.identifier) (47 ∷ s.text) digits_printable last)));
    }

pub segment_again : (s : SegmentLine) (line : List ℕ) → segment_of line ≡ Some s → IsLine line → ReadsAgain (SegmentPart s)
segment_again s line h l = segment_reads s (segment_within s line h l)
