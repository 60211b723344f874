-- No record of an export is refused. That records are allowed is said with what follows them, so that
-- facts on what is before them travel through legs, pieces and flights.
use Rattle.ssim_periods.specs.CommonDays.{meet}
use Rattle.std.proofs.Common.{subst, ◌≡◌, ℕ, zero, suc, ◌+◌, ◌<◌, ◌≤◌, Bool, true, false, ◌&&◌, nat_eq, nat_lt, if◌then◌else◌, List, [], ◌∷◌, ◌++◌, map, length, slice_index, Some, None, ◌⊎◌, inl, inr, refl, sym, ap, ◌∙◌, arith}
use Rattle.std.proofs.lemmas.Bool.Decides.{nat_tests}
use Rattle.std.specs.List.{flat_map, range_with_len, list_any, All}
use Rattle.ssim_values.specs.Flight.{FlightNumber}
use Rattle.ssim_values.specs.Period.{DayRange}
use Rattle.ssim_periods.specs.Calendar.{day_count, holds}
use Rattle.ssim_periods.specs.Pieces.{held_on, alone, ArePieces}
use Rattle.ssim_records.specs.Leg.{Name, LegFields}
use Rattle.ssim_records.specs.Segment.{SegmentFields}
use Rattle.ssim_records.specs.Trailer.{TrailerFields}
use Rattle.ssim_records.specs.declared.record.Record.{Record}
use Rattle.ssim_records.specs.declared.record.Record.TheVariants.{Header, Carrier, Leg, Segment, Trailer}
use Rattle.ssim_columns.specs.declared.field.end_code.EndCode.TheVariants.{End}
use Rattle.ssim_base.specs.Timetable.{Legs, Days, same_flight, is_on, period_of, on_day, Above}
use Rattle.ssim_base.specs.Base.{airline_of, is_trailer, overlaps, is_leg_named, refusal_at, missing, Done, at_record, first_refusal, kept}
use Rattle.ssim_base.specs.Export.{Piece, same_itinerary, pieces, tail_record, leg_records, piece_records, pieces_records, flight_records, flights_records, flight_count, flight_at, all_flights, with_serial, numbered, sections, export_refusal}
use Rattle.ssim_base.specs.ReadBack.{IsTimetable}
use Rattle.ssim_base.specs.clauses.ReadBack.{records_of}
use Rattle.ssim_base.proofs.ExportLaws.{NoneRefused}
use Rattle.ssim_base.proofs.Places.{same-self, same-turned, same-places, flight-is}
use Rattle.ssim_base.proofs.Pieces.{bytes-self, itinerary_pieces}
use Rattle.ssim_base.proofs.Parts.{and_false, false_and, same_name-self, own_name, own_tails, flights_from}
use Rattle.ssim_base.proofs.Whole.{exported, kept-serial}

-- the records are valid one after another after the earlier ones, and what is then after them is a
-- P
abbrev pub StandsTo : List Record → List Record → (List Record → Type 0) → Type 0
StandsTo e [] P = P e
StandsTo e (r ∷ rs) P = (refusal_at e r ≡ None) × StandsTo (kept e r ∷ e) rs P

stands-append : (xs ys : List Record) (P : List Record → Type 0) (e : List Record) → StandsTo e xs (λ f. StandsTo f ys P) → StandsTo e (xs ++ ys) P
stands-append [] ys P e h = h
stands-append (x ∷ xs) ys P e h = (h.0, stands-append xs ys P (kept e x ∷ e) h.1)

-- serials make no difference to a refusal
refusal-serial : (n : ℕ) (e : List Record) (r : Record) → refusal_at e (with_serial n r) ≡ refusal_at e r
refusal-serial n [] (Header r) = refl
refusal-serial n [] (Carrier r) = refl
refusal-serial n [] (Leg r) = refl
refusal-serial n [] (Segment r) = refl
refusal-serial n [] (Trailer r) = refl
refusal-serial n (x ∷ []) (Header r) = refl
refusal-serial n (x ∷ []) (Carrier r) = refl
refusal-serial n (x ∷ []) (Leg r) = refl
refusal-serial n (x ∷ []) (Segment r) = refl
refusal-serial n (x ∷ []) (Trailer r) = refl
refusal-serial n (x ∷ y ∷ e) (Header r) = refl
refusal-serial n (x ∷ y ∷ e) (Carrier r) = refl
refusal-serial n (x ∷ y ∷ e) (Leg r) = refl
refusal-serial n (x ∷ y ∷ e) (Segment r) = refl
refusal-serial n (x ∷ y ∷ e) (Trailer r) = refl

stands-numbered : (n : ℕ) (rs : List Record) (P : List Record → Type 0) (e : List Record) → StandsTo e rs P → StandsTo e (numbered n rs) P
stands-numbered n [] P e h = h
stands-numbered n (r ∷ rs) P e h = (
  refusal-serial n e r ∙ h.0,
  subst (λ k. StandsTo (k ∷ e) (numbered (n + 1) rs) P) (sym (kept-serial e n r)) (stands-numbered (n + 1) rs P (kept e r ∷ e) h.1),
)

-- ---- what comes before

-- a carrier of this airline, at least two records, and no trailer last
abbrev Good : List ℕ → List Record → Type 0
Good a [] = ⊥
Good a (x ∷ []) = ⊥
Good a (x ∷ y ∷ e) = (is_trailer x ≡ false) × (airline_of (x ∷ y ∷ e) ≡ a)

-- the sequences that the leg records of a flight give on a day
abbrev pub taken : List Record → FlightNumber → ℕ → List ℕ
taken [] f n = []
taken (Header r ∷ e) f n = taken e f n
taken (Carrier r ∷ e) f n = taken e f n
taken (Leg r ∷ e) f n = if is_on r f n then r.name.sequence ∷ taken e f n else taken e f n
taken (Segment r ∷ e) f n = taken e f n
taken (Trailer r ∷ e) f n = taken e f n

abbrev Upto : ℕ → List ℕ → Type 0
Upto k [] = Unit {0}
Upto k (x ∷ xs) = (x ≤ k) × Upto k xs

upto-more : (k m : ℕ) (xs : List ℕ) → k ≤ m → Upto k xs → Upto m xs
upto-more k m [] le h = tt
upto-more k m (x ∷ xs) le h = (let a : x ≤ k = h.0 in omega arith, upto-more k m xs le h.1)

none-in-range : (test : ℕ → Bool) (low k : ℕ) → ((n : ℕ) → n < low + k → test n ≡ false) → list_any test (range_with_len low k) ≡ false
none-in-range test low zero h = refl
none-in-range test low (suc k) h = rw (h low (omega arith), none-in-range test (low + 1) k (λ n l. h n (omega arith))) refl

-- if each earlier leg of the flight on the period's days has a lower sequence, none overlaps
no_overlap : (name : Name) (period : DayRange) (k : ℕ) (e : List Record) → k < name.sequence
    → ((n : ℕ) → n < day_count → holds period n ≡ true → Upto k (taken e name.flight n)) → list_any (overlaps name period) e ≡ false
no_overlap name period k [] less h = refl
no_overlap name period k (Header r ∷ e) less h = no_overlap name period k e less h
no_overlap name period k (Carrier r ∷ e) less h = no_overlap name period k e less h
no_overlap name period k (Segment r ∷ e) less h = no_overlap name period k e less h
no_overlap name period k (Trailer r ∷ e) less h = no_overlap name period k e less h
no_overlap name period k (Leg r ∷ e) less h = rw (apart, no_overlap name period k e less rest) refl
  where
    drop_head : (b : Bool) (s : ℕ) (xs : List ℕ) → Upto k (if b then s ∷ xs else xs) → Upto k xs
    drop_head true s xs u = u.1
    drop_head false s xs u = u

    head : (b : Bool) (s : ℕ) (xs : List ℕ) → b ≡ true → Upto k (if b then s ∷ xs else xs) → s ≤ k
    head true s xs t u = u.0
    head false s xs t u = cc

    rest : (n : ℕ) → n < day_count → holds period n ≡ true → Upto k (taken e name.flight n)
    rest n within on = drop_head (is_on r name.flight n) r.name.sequence (taken e name.flight n) (h n within on)

    never : same_flight name.flight r.name.flight ≡ true → nat_eq name.sequence r.name.sequence ≡ true → (n : ℕ) → n < day_count
        → (x y : Bool) → holds period n ≡ x → holds (period_of r) n ≡ y → (x && y) ≡ false
    never same sequences n within true true on here =
        let flight : same_flight r.name.flight name.flight ≡ true = same-turned r.name.flight name.flight ∙ same in
        let is_here : is_on r name.flight n ≡ true = rw (flight, here) refl in
        let low : r.name.sequence ≤ k = head (is_on r name.flight n) r.name.sequence (taken e name.flight n) is_here (h n within on) in
        let equal : name.sequence ≡ r.name.sequence = grind (arith, nat_tests) in
        absurd (omega arith)
    never same sequences n within true false on here = refl
    never same sequences n within false y on here = refl

    by : (x y : Bool) → same_flight name.flight r.name.flight ≡ x → nat_eq name.sequence r.name.sequence ≡ y → ((x && y) && meet period (period_of r)) ≡ false
    by true true p q = none-in-range (λ day. holds period day && holds (period_of r) day) 0 day_count (λ n l. never p q n (omega arith) (holds period n) (holds (period_of r) n) refl refl)
    by true false p q = refl
    by false y p q = refl

    apart : overlaps name period (Leg r) ≡ false
    apart = by (same_flight name.flight r.name.flight) (nat_eq name.sequence r.name.sequence) refl refl

-- ---- legs and tails

abbrev leg_fields : Name → DayRange → List ℕ → LegFields
leg_fields name period columns =
    record { name = name; first = period.first; last = Some period.last; days = period.days; rate = 32; columns = columns; overflow = 32; serial = 0 }

leg-stands : (a : List ℕ) (name : Name) (period : DayRange) (columns : List ℕ) (e : List Record) → Good a e → name.airline ≡ a → period.first ≤ period.last
    → list_any (overlaps name period) e ≡ false → refusal_at e (Leg (leg_fields name period columns)) ≡ None
leg-stands a name period columns [] good same le clear = absurd good
leg-stands a name period columns (x ∷ []) good same le clear = absurd good
leg-stands a name period columns (x ∷ y ∷ e) good same le clear =
    let not_less : nat_lt period.last period.first ≡ false = grind (arith, nat_tests) in
    rw (good.0, good.1, same, bytes-self a, not_less, clear) refl

tail-stands : (a : List ℕ) (name : Name) (service : ℕ) (tail : List ℕ) (e : List Record) → Good a e → name.airline ≡ a → list_any (is_leg_named name) e ≡ true
    → refusal_at e (tail_record name service tail) ≡ None
tail-stands a name service tail [] good same named = absurd good
tail-stands a name service tail (x ∷ []) good same named = absurd good
tail-stands a name service tail (x ∷ y ∷ e) good same named = rw (good.0, good.1, same, bytes-self a, named) refl

good-leg : (a : List ℕ) (r : LegFields) (e : List Record) → Good a e → Good a (Leg r ∷ e)
good-leg a r [] good = absurd good
good-leg a r (x ∷ []) good = absurd good
good-leg a r (x ∷ y ∷ e) good = (refl, good.1)

good-tail : (a : List ℕ) (r : SegmentFields) (e : List Record) → Good a e → Good a (Segment r ∷ e)
good-tail a r [] good = absurd good
good-tail a r (x ∷ []) good = absurd good
good-tail a r (x ∷ y ∷ e) good = (refl, good.1)

stands-tails : (a : List ℕ) (name : Name) (service : ℕ) (tails : List (List ℕ)) (P : List Record → Type 0) (e : List Record) → Good a e → name.airline ≡ a
    → list_any (is_leg_named name) e ≡ true
    → ((d : List Record) → Good a d → ((g : FlightNumber) (n : ℕ) → taken d g n ≡ taken e g n) → P d)
    → StandsTo e (map (tail_record name service) tails) P
stands-tails a name service [] P e good same named next = next e good (λ g n. refl)
stands-tails a name service (t ∷ tails) P e good same named next = (
  tail-stands a name service t e good same named,
  stands-tails a name service tails P (tail_record name service t ∷ e) (good-tail a (record { name = name; service = service; tail = t; overflow = 32; serial = 0 }) e good) same named next,
)

-- the legs of a piece are valid, if lower sequences come before them on its days
stands-legs : (a : List ℕ) (f : FlightNumber) (v : ℕ) (period : DayRange) (legs : Legs) (k : ℕ) (P : List Record → Type 0) (e : List Record) → Good a e
    → period.first ≤ period.last → Above k legs
    → ((n : ℕ) → n < day_count → holds period n ≡ true → Upto k (taken e f n))
    → ((d : List Record) → Good a d → ((g : FlightNumber) (n : ℕ) → (same_flight f g && holds period n) ≡ false → taken d g n ≡ taken e g n) → P d)
    → StandsTo e (flat_map (leg_records a f v period) legs) P
stands-legs a f v period [] k P e good le above low next = next e good (λ g n off. refl)
stands-legs a f v period (l ∷ legs) k P e good le above low next = (
  leg-stands a own period l.columns e good refl le (no_overlap own period k e above.0 low),
  stands-append (own_tails a f v l) (flat_map (leg_records a f v period) legs) P (here ∷ e)
      (stands-tails a own (slice_index l.columns 0) l.tails (λ d. StandsTo d (flat_map (leg_records a f v period) legs) P) (here ∷ e) (good-leg a its e good) refl named
      (λ d good_d same. stands-legs a f v period legs l.sequence P d good_d le above.2
      (λ n within on. subst (Upto l.sequence) (sym (same f n ∙ on_it n on)) (omega arith, upto-more k l.sequence (taken e f n) (let less : k < l.sequence = above.0 in omega arith) (low n within on)))
      (λ c good_c rest. next c good_c (λ g n off. rest g n off ∙ same g n ∙ off_it g n off)))),
)
  where
    own : Name
    own = own_name a f v l

    its : LegFields
    its = leg_fields (own_name a f v l) period l.columns

    here : Record
    here = Leg its

    named : list_any (is_leg_named own) (here ∷ e) ≡ true
    named = rw (same_name-self own) refl

    on_it : (n : ℕ) → holds period n ≡ true → taken (here ∷ e) f n ≡ l.sequence ∷ taken e f n
    on_it n on =
        let both : (same_flight f f && holds period n) ≡ true = rw (same-self f, on) refl in
        ap (λ b. if b then l.sequence ∷ taken e f n else taken e f n) both

    off_it : (g : FlightNumber) (n : ℕ) → (same_flight f g && holds period n) ≡ false → taken (here ∷ e) g n ≡ taken e g n
    off_it g n off = ap (λ b. if b then l.sequence ∷ taken e g n else taken e g n) off

-- ---- pieces

-- a day's itinerary is in at most one of the pieces that are left, and then no record of the flight
-- before them is on that day
abbrev Left : (ℕ → Legs) → List Piece → (ℕ → List ℕ) → Type 0
Left w ps before = (n : ℕ) → n < day_count → (held_on ps n ≡ []) ⊎ ((held_on ps n ≡ alone same_itinerary [] (w n)) × (before n ≡ []))

abbrev Begins : Piece → Type 0
Begins piece = (piece.0.first ≤ piece.0.last) × (piece.0.last < day_count) × (holds piece.0 piece.0.first ≡ true)

first-one : (p : Piece) (rest : List Legs) (w : Legs) → p.1 ∷ rest ≡ alone same_itinerary [] w → Above 0 w → Above 0 p.1 × (rest ≡ [])
first-one p rest [] h above = cc
first-one p rest (l ∷ legs) h above =
    let same : p.1 ≡ l ∷ legs = cc in
    let none : rest ≡ [] = cc in
    (subst (Above 0) (sym same) above, none)

stands-pieces : (a : List ℕ) (f : FlightNumber) (v : ℕ) (ps : List Piece) (w : ℕ → Legs) (P : List Record → Type 0) (e : List Record) → Good a e
    → ((n : ℕ) → n < day_count → Above 0 (w n)) → All Begins ps → Left w ps (taken e f)
    → ((d : List Record) → Good a d → ((g : FlightNumber) (n : ℕ) → same_flight f g ≡ false → taken d g n ≡ taken e g n) → P d)
    → StandsTo e (pieces_records a f v ps) P
stands-pieces a f v [] w P e good rising begin left next = next e good (λ g n off. refl)
stands-pieces a f v (p ∷ ps) w P e good rising begin left next =
    stands-append (piece_records a f v p) (pieces_records a f (v + 1) ps) P e
    (stands-legs a f v p.0 p.1 0 (λ d. StandsTo d (pieces_records a f (v + 1) ps) P) e good start.0 (holds_here p.0.first within_days start.2).0
    (λ n within on. subst (Upto 0) (sym (holds_here n within on).1) tt)
    (λ d good_d same. stands-pieces a f (v + 1) ps w P d good_d rising (λ k q l. begin (suc k) q (omega arith))
    (λ n within. later d same n within (holds p.0 n) refl)
    (λ c good_c rest. next c good_c (λ g n off. rest g n off ∙ same g n (false_and (same_flight f g) (holds p.0 n) off)))))
  where
    start : Begins p
    start = begin 0 p (omega arith)

    within_days : p.0.first < day_count
    within_days =
        let from : p.0.first ≤ p.0.last = start.0 in
        let to : p.0.last < day_count = start.1 in
        omega arith

    held : (n : ℕ) → holds p.0 n ≡ true → held_on (p ∷ ps) n ≡ p.1 ∷ held_on ps n
    held n on = ap (λ b. if b then p.1 ∷ held_on ps n else held_on ps n) on

    missed : (n : ℕ) → holds p.0 n ≡ false → held_on (p ∷ ps) n ≡ held_on ps n
    missed n off = ap (λ b. if b then p.1 ∷ held_on ps n else held_on ps n) off

    by : (n : ℕ) → n < day_count → holds p.0 n ≡ true
        → (held_on (p ∷ ps) n ≡ []) ⊎ ((held_on (p ∷ ps) n ≡ alone same_itinerary [] (w n)) × (taken e f n ≡ []))
        → Above 0 p.1 × (taken e f n ≡ []) × (held_on ps n ≡ [])
    by n within on (inl none) = let no : p.1 ∷ held_on ps n ≡ [] = sym (held n on) ∙ none in cc
    by n within on (inr one) =
        let both = first-one p (held_on ps n) (w n) (sym (held n on) ∙ one.0) (rising n within) in
        (both.0, one.1, both.1)

    holds_here : (n : ℕ) → n < day_count → holds p.0 n ≡ true → Above 0 p.1 × (taken e f n ≡ []) × (held_on ps n ≡ [])
    holds_here n within on = by n within on (left n within)

    off_day : (d : List Record) (n : ℕ) → holds p.0 n ≡ false → taken d f n ≡ taken e f n
        → (held_on (p ∷ ps) n ≡ []) ⊎ ((held_on (p ∷ ps) n ≡ alone same_itinerary [] (w n)) × (taken e f n ≡ []))
        → (held_on ps n ≡ []) ⊎ ((held_on ps n ≡ alone same_itinerary [] (w n)) × (taken d f n ≡ []))
    off_day d n off same (inl none) = inl (sym (missed n off) ∙ none)
    off_day d n off same (inr one) = inr (sym (missed n off) ∙ one.0, same ∙ one.1)

    later : (d : List Record) → ((g : FlightNumber) (n : ℕ) → (same_flight f g && holds p.0 n) ≡ false → taken d g n ≡ taken e g n) → (n : ℕ) → n < day_count
        → (b : Bool) → holds p.0 n ≡ b → (held_on ps n ≡ []) ⊎ ((held_on ps n ≡ alone same_itinerary [] (w n)) × (taken d f n ≡ []))
    later d same n within true on = inl (holds_here n within on).2
    later d same n within false off = off_day d n off (same f n (and_false (same_flight f f) (holds p.0 n) off)) (left n within)

-- ---- flights

stands-flights : (a : List ℕ) (days : FlightNumber → Days) (low k : ℕ) (P : List Record → Type 0) (e : List Record) → IsTimetable days → low + k ≤ flight_count → Good a e
    → ((j n : ℕ) → low ≤ j → taken e (flight_at j) n ≡ []) → ((d : List Record) → Good a d → P d)
    → StandsTo e (flights_records a days (flights_from low k)) P
stands-flights a days low zero P e is fit good free next = next e good
stands-flights a days low (suc k) P e is fit good free next =
    stands-append (flight_records a days f) (flights_records a days (flights_from (low + 1) k)) P e
    (stands-pieces a f 1 (pieces (days f)) (on_day (days f)) (λ d. StandsTo d (flights_records a days (flights_from (low + 1) k)) P) e good
    (λ n within. is.rising f n (flight-is low here) within) begin
    (λ n within. inr (of_flight.on_each_day n, free low n (omega arith)))
    (λ d good_d same. stands-flights a days (low + 1) k P d is (omega arith) good_d
    (λ j n above. same (flight_at j) n (same-places low j ∙ apart j above) ∙ free j n (omega arith)) next))
  where
    f : FlightNumber
    f = flight_at low

    here : low < flight_count
    here = omega arith

    of_flight : ArePieces same_itinerary [] (days f) (pieces (days f))
    of_flight = itinerary_pieces (days f)

    begin : All Begins (pieces (days f))
    begin = subst (λ end. All (λ (piece : Piece). (piece.0.first ≤ piece.0.last) × (piece.0.last < end) × (holds piece.0 piece.0.first ≡ true)) (pieces (days f))) (is.each_day f (flight-is low here)) of_flight.each_begins

    apart : (j : ℕ) → low + 1 ≤ j → nat_eq low j ≡ false
    apart j above = grind (arith, nat_tests)

-- ---- the whole

-- the first refusal, from records that are valid one after another
pub not_refused : (number : ℕ) (e : List Record) (rs : List Record) (records : List (ℕ × Record)) → map (λ r. r.1) records ≡ rs
    → StandsTo e rs (λ d. missing d ≡ None) → first_refusal (Done number) e records ≡ None
not_refused number e [] [] is h = rw h refl
not_refused number e (r ∷ rs) [] is h = cc
not_refused number e [] (x ∷ records) is h = cc
not_refused number e (r ∷ rs) (x ∷ records) is h =
    let same : x.1 ≡ r = cc in
    let others : map (λ r. r.1) records ≡ rs = cc in
    ap (λ y. at_record x.0 (refusal_at e y) (first_refusal (Done number) (kept e y ∷ e) records)) same
    ∙ ap (λ o. at_record x.0 o (first_refusal (Done number) (kept e r ∷ e) records)) h.0
    ∙ not_refused number (kept e r ∷ e) rs records others h.1

trailer-stands : (a : List ℕ) (r : TrailerFields) (e : List Record) → r.airline ≡ a → r.code ≡ End → Good a e → StandsTo e (Trailer r ∷ []) (λ d. missing d ≡ None)
trailer-stands a r [] same code good = absurd good
trailer-stands a r (x ∷ []) same code good = absurd good
trailer-stands a r (x ∷ y ∷ e) same code good = (rw (good.0, good.1, same, bytes-self a, code) refl, refl)

pub stands : NoneRefused
stands frame days s frame_is is h number records numbers =
    let a = frame.carrier.airline in
    let body = flights_records a days all_flights in
    let last : TrailerFields = record frame.trailer { check = 2 + length body; serial = 3 + length body } in
    not_refused number [] (records_of (sections frame body)) records
    (numbers ∙ ap records_of (sym (exported (export_refusal a days 2 all_flights) (sections frame body) s h))) (
      refl,
      (
        refl,
        stands-append (numbered 3 body) (Trailer last ∷ []) (λ d. missing d ≡ None) start
            (stands-numbered 3 body (λ d. StandsTo d (Trailer last ∷ []) (λ c. missing c ≡ None)) start
            (stands-flights a days 0 flight_count (λ d. StandsTo d (Trailer last ∷ []) (λ c. missing c ≡ None)) start is (omega arith) (refl, refl) (λ j n l. refl)
            (λ d good. trailer-stands a last d frame_is.airline frame_is.code good))),
      ),
    )
  where
    start : List Record
    start = Carrier (record frame.carrier { serial = 0 }) ∷ Header (record frame.header { serial = 0 }) ∷ []
