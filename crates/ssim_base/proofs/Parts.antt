-- What the records of an export say, part by part: a leg with its tails, a piece, a flight, all
-- flights. What is written is always followed by `more`, of which it is only known that it gives
-- nothing; so the parts compose.
use Rattle.std.proofs.Common.{◌≡◌, ℕ, zero, suc, ◌+◌, ◌<◌, ◌≤◌, Bool, true, false, ◌&&◌, nat_eq, nat_lt, if◌then◌else◌, List, [], ◌∷◌, ◌++◌, map, slice_index, refl, ap, ◌∙◌, arith, append_assoc}
use Rattle.std.proofs.lemmas.Bool.Decides.{nat_tests}
use Rattle.std.specs.List.{flat_map, range_with_len, AllByRecursion as Each}
use Rattle.ssim_values.specs.Flight.{FlightNumber}
use Rattle.ssim_values.specs.Period.{DayRange}
use Rattle.ssim_periods.specs.Calendar.{holds}
use Rattle.ssim_periods.specs.Pieces.{held_on, alone}
use Rattle.ssim_records.specs.Leg.{Name}
use Rattle.ssim_records.specs.declared.record.Record.{Record}
use Rattle.ssim_base.specs.Timetable.{LegValue, Legs, Days, same_flight, same_name, tails_of, placed, itinerary, Above}
use Rattle.ssim_base.specs.Export.{Piece, same_itinerary, pieces, tail_record, leg_records, piece_records, pieces_records, flight_records, flights_records, flight_at}
use Rattle.ssim_base.proofs.Places.{same-self, same-places}
use Rattle.ssim_base.proofs.Pieces.{eq-self}
use Rattle.ssim_base.proofs.Each.{each-append, each-flat_map, each-any}

pub same_name-self : (name : Name) → same_name name name ≡ true
same_name-self name = rw (same-self name.flight, eq-self name.variation, eq-self name.sequence) refl

-- the name of a leg's records
abbrev pub own_name : List ℕ → FlightNumber → ℕ → LegValue → Name
own_name a f v l = record { airline = a; flight = f; variation = v; sequence = l.sequence }

abbrev pub own_tails : List ℕ → FlightNumber → ℕ → LegValue → List Record
own_tails a f v l = map (tail_record (own_name a f v l) (slice_index l.columns 0)) l.tails

-- what holds of each leg's records holds of all records of flights
each-pieces : (P : Record → Type 0) → ((a : List ℕ) (f : FlightNumber) (v : ℕ) (period : DayRange) (l : LegValue) → Each P (leg_records a f v period l))
    → (a : List ℕ) (f : FlightNumber) (v : ℕ) (ps : List Piece) → Each P (pieces_records a f v ps)
each-pieces P h a f v [] = tt
each-pieces P h a f v (p ∷ ps) =
    each-append P (piece_records a f v p) (pieces_records a f (v + 1) ps)
    (each-flat_map P (leg_records a f v p.0) p.1 (each-any (λ l. Each P (leg_records a f v p.0 l)) p.1 (h a f v p.0)))
    (each-pieces P h a f (v + 1) ps)

pub each-flights : (P : Record → Type 0) → ((a : List ℕ) (f : FlightNumber) (v : ℕ) (period : DayRange) (l : LegValue) → Each P (leg_records a f v period l))
    → (a : List ℕ) (days : FlightNumber → Days) (fs : List FlightNumber) → Each P (flights_records a days fs)
each-flights P h a days fs =
    each-flat_map P (flight_records a days) fs (each-any (λ f. Each P (flight_records a days f)) fs (λ f. each-pieces P h a f 1 (pieces (days f))))

-- ---- tails

-- the tails that follow their leg are its tails
tails-own : (name : Name) (service : ℕ) (tails : List (List ℕ)) (more : List Record) → tails_of name (map (tail_record name service) tails ++ more) ≡ tails ++ tails_of name more
tails-own name service [] more = refl
tails-own name service (t ∷ tails) more =
    ap (λ b. if b then t ∷ tails_of name (map (tail_record name service) tails ++ more) else tails_of name (map (tail_record name service) tails ++ more)) (same_name-self name)
    ∙ ap (λ ts. t ∷ ts) (tails-own name service tails more)

-- tail records of another name give no tails of this name
tails-other : (name other : Name) (service : ℕ) (tails : List (List ℕ)) (more : List Record) → same_name name other ≡ false
    → tails_of name (map (tail_record other service) tails ++ more) ≡ tails_of name more
tails-other name other service [] more h = refl
tails-other name other service (t ∷ tails) more h =
    ap (λ b. if b then t ∷ tails_of name (map (tail_record other service) tails ++ more) else tails_of name (map (tail_record other service) tails ++ more)) h
    ∙ tails-other name other service tails more h

-- legs with their tails have no tail for a leg before them: each tail follows its own leg
tails-piece : (a : List ℕ) (f : FlightNumber) (v : ℕ) (period : DayRange) (legs : Legs) (name : Name) (more : List Record) → tails_of name more ≡ []
    → tails_of name (flat_map (leg_records a f v period) legs ++ more) ≡ []
tails-piece a f v period [] name more h = h
tails-piece a f v period (l ∷ legs) name more h = by (same_name name (own_name a f v l)) refl (tails-piece a f v period legs name more h)
  where
    next : List Record
    next = flat_map (leg_records a f v period) legs

    by : (b : Bool) → same_name name (own_name a f v l) ≡ b → tails_of name (next ++ more) ≡ [] → tails_of name (flat_map (leg_records a f v period) (l ∷ legs) ++ more) ≡ []
    by true e rest = ap (λ t. if t then [] else tails_of name ((own_tails a f v l ++ next) ++ more)) e
    by false e rest =
        ap (λ t. if t then [] else tails_of name ((own_tails a f v l ++ next) ++ more)) e
        ∙ ap (tails_of name) (append_assoc (own_tails a f v l) next more)
        ∙ tails-other name (own_name a f v l) (slice_index l.columns 0) l.tails (next ++ more) e
        ∙ rest

tails-pieces : (a : List ℕ) (f : FlightNumber) (v : ℕ) (ps : List Piece) (name : Name) (more : List Record) → tails_of name more ≡ []
    → tails_of name (pieces_records a f v ps ++ more) ≡ []
tails-pieces a f v [] name more h = h
tails-pieces a f v (p ∷ ps) name more h =
    ap (tails_of name) (append_assoc (piece_records a f v p) (pieces_records a f (v + 1) ps) more)
    ∙ tails-piece a f v p.0 p.1 name (pieces_records a f (v + 1) ps ++ more) (tails-pieces a f (v + 1) ps name more h)

tails-flights : (a : List ℕ) (days : FlightNumber → Days) (fs : List FlightNumber) (name : Name) (more : List Record) → tails_of name more ≡ []
    → tails_of name (flights_records a days fs ++ more) ≡ []
tails-flights a days [] name more h = h
tails-flights a days (f ∷ fs) name more h =
    ap (tails_of name) (append_assoc (flight_records a days f) (flights_records a days fs) more)
    ∙ tails-pieces a f 1 (pieces (days f)) name (flights_records a days fs ++ more) (tails-flights a days fs name more h)

-- ---- itineraries

nothing_after : (xs : List (List ℕ)) → xs ++ [] ≡ xs
nothing_after [] = refl
nothing_after (x ∷ xs) = ap (λ ys. x ∷ ys) (nothing_after xs)

pub and_false : (a b : Bool) → b ≡ false → (a && b) ≡ false
and_false true b h = h
and_false false b h = refl

pub false_and : (a b : Bool) → a ≡ false → (a && b) ≡ false
false_and true b h = cc
false_and false b h = refl

-- segment records give no itinerary
itinerary-tails : (name : Name) (service : ℕ) (tails : List (List ℕ)) (more : List Record) (g : FlightNumber) (n : ℕ)
    → itinerary (map (tail_record name service) tails ++ more) g n ≡ itinerary more g n
itinerary-tails name service [] more g n = refl
itinerary-tails name service (t ∷ tails) more g n = itinerary-tails name service tails more g n

-- a piece of another flight, or one that does not hold the day, gives nothing
itinerary-off : (a : List ℕ) (f : FlightNumber) (v : ℕ) (period : DayRange) (legs : Legs) (more : List Record) (g : FlightNumber) (n : ℕ)
    → (same_flight f g && holds period n) ≡ false → itinerary (flat_map (leg_records a f v period) legs ++ more) g n ≡ itinerary more g n
itinerary-off a f v period [] more g n h = refl
itinerary-off a f v period (l ∷ legs) more g n h =
    let own = own_name a f v l in
    let next = flat_map (leg_records a f v period) legs in
    let after = (own_tails a f v l ++ next) ++ more in
    ap (λ b. if b then placed (record { sequence = l.sequence; columns = l.columns; tails = tails_of own after }) (itinerary after g n) else itinerary after g n) h
    ∙ ap (λ rs. itinerary rs g n) (append_assoc (own_tails a f v l) next more)
    ∙ itinerary-tails own (slice_index l.columns 0) l.tails (next ++ more) g n
    ∙ itinerary-off a f v period legs more g n h

-- a leg comes first among legs of higher sequence
placed-first : (l : LegValue) (legs : Legs) → Above l.sequence legs → placed l legs ≡ l ∷ legs
placed-first l [] h = refl
placed-first l (m ∷ legs) h =
    let less : l.sequence < m.sequence = h.0 in
    let not_before : nat_lt m.sequence l.sequence ≡ false = grind (arith, nat_tests) in
    ap (λ b. if b then m ∷ placed l legs else l ∷ m ∷ legs) not_before

-- a piece that holds the day gives its legs
itinerary-on : (a : List ℕ) (f : FlightNumber) (v : ℕ) (period : DayRange) (legs : Legs) (more : List Record) (n k : ℕ) → holds period n ≡ true → Above k legs
    → itinerary more f n ≡ [] → ((name : Name) → tails_of name more ≡ [])
    → itinerary (flat_map (leg_records a f v period) legs ++ more) f n ≡ legs
itinerary-on a f v period [] more n k on above none no_tails = none
itinerary-on a f v period (l ∷ legs) more n k on above none no_tails =
    let own = own_name a f v l in
    let next = flat_map (leg_records a f v period) legs ++ more in
    let after = (own_tails a f v l ++ flat_map (leg_records a f v period) legs) ++ more in
    let regroup : after ≡ own_tails a f v l ++ next = append_assoc (own_tails a f v l) (flat_map (leg_records a f v period) legs) more in
    let is_here : (same_flight f f && holds period n) ≡ true = rw (same-self f, on) refl in
    let its_tails : tails_of own after ≡ l.tails =
    ap (tails_of own) regroup ∙ tails-own own (slice_index l.columns 0) l.tails next ∙ ap (λ ts. l.tails ++ ts) (tails-piece a f v period legs own more (no_tails own)) ∙ nothing_after l.tails in
    let others : itinerary after f n ≡ legs =
    ap (λ rs. itinerary rs f n) regroup ∙ itinerary-tails own (slice_index l.columns 0) l.tails next f n ∙ itinerary-on a f v period legs more n l.sequence on above.2 none no_tails in
    ap (λ b. if b then placed (record { sequence = l.sequence; columns = l.columns; tails = tails_of own after }) (itinerary after f n) else itinerary after f n) is_here
    ∙ ap (λ ts. placed (record { sequence = l.sequence; columns = l.columns; tails = ts }) (itinerary after f n)) its_tails
    ∙ ap (placed l) others
    ∙ placed-first l legs above.2

-- pieces none of which holds the day give nothing
itinerary-none : (a : List ℕ) (f : FlightNumber) (v : ℕ) (ps : List Piece) (more : List Record) (n : ℕ) → held_on ps n ≡ []
    → itinerary (pieces_records a f v ps ++ more) f n ≡ itinerary more f n
itinerary-none a f v [] more n h = refl
itinerary-none a f v (p ∷ ps) more n h = by (holds p.0 n) refl h (itinerary-none a f (v + 1) ps more n)
  where
    by : (b : Bool) → holds p.0 n ≡ b → (if b then p.1 ∷ held_on ps n else held_on ps n) ≡ []
        → (held_on ps n ≡ [] → itinerary (pieces_records a f (v + 1) ps ++ more) f n ≡ itinerary more f n)
        → itinerary (pieces_records a f v (p ∷ ps) ++ more) f n ≡ itinerary more f n
    by true e none rest = cc
    by false e none rest =
        ap (λ rs. itinerary rs f n) (append_assoc (piece_records a f v p) (pieces_records a f (v + 1) ps) more)
        ∙ itinerary-off a f v p.0 p.1 (pieces_records a f (v + 1) ps ++ more) f n (and_false (same_flight f f) (holds p.0 n) e)
        ∙ rest none

-- pieces of which only one holds the day give its legs
itinerary-pieces : (a : List ℕ) (f : FlightNumber) (v : ℕ) (ps : List Piece) (more : List Record) (n : ℕ) (w : Legs) → held_on ps n ≡ alone same_itinerary [] w → Above 0 w
    → itinerary more f n ≡ [] → ((name : Name) → tails_of name more ≡ [])
    → itinerary (pieces_records a f v ps ++ more) f n ≡ w
itinerary-pieces a f v [] more n [] h above none no_tails = none
itinerary-pieces a f v [] more n (l ∷ legs) h above none no_tails = cc
itinerary-pieces a f v (p ∷ ps) more n w h above none no_tails = by (holds p.0 n) refl h (itinerary-pieces a f (v + 1) ps more n w)
  where
    next : List Record
    next = pieces_records a f (v + 1) ps ++ more

    here : holds p.0 n ≡ true → (x : Legs) → p.1 ∷ held_on ps n ≡ alone same_itinerary [] x → Above 0 x → itinerary (pieces_records a f v (p ∷ ps) ++ more) f n ≡ x
    here e [] one rising = cc
    here e (l ∷ legs) one rising =
        let same : p.1 ≡ l ∷ legs = cc in
        let nothing : held_on ps n ≡ [] = cc in
        ap (λ rs. itinerary rs f n) (append_assoc (piece_records a f v p) (pieces_records a f (v + 1) ps) more)
        ∙ ap (λ x. itinerary (flat_map (leg_records a f v p.0) x ++ next) f n) same
        ∙ itinerary-on a f v p.0 (l ∷ legs) next n 0 e rising (itinerary-none a f (v + 1) ps more n nothing ∙ none) (λ name. tails-pieces a f (v + 1) ps name more (no_tails name))

    by : (b : Bool) → holds p.0 n ≡ b → (if b then p.1 ∷ held_on ps n else held_on ps n) ≡ alone same_itinerary [] w
        → (held_on ps n ≡ alone same_itinerary [] w → Above 0 w → itinerary more f n ≡ [] → ((name : Name) → tails_of name more ≡ []) → itinerary next f n ≡ w)
        → itinerary (pieces_records a f v (p ∷ ps) ++ more) f n ≡ w
    by true e one rest = here e w one above
    by false e one rest =
        ap (λ rs. itinerary rs f n) (append_assoc (piece_records a f v p) (pieces_records a f (v + 1) ps) more)
        ∙ itinerary-off a f v p.0 p.1 next f n (and_false (same_flight f f) (holds p.0 n) e)
        ∙ rest one above none no_tails

-- another flight's pieces give nothing
itinerary-other : (a : List ℕ) (f : FlightNumber) (v : ℕ) (ps : List Piece) (more : List Record) (g : FlightNumber) (n : ℕ) → same_flight f g ≡ false
    → itinerary (pieces_records a f v ps ++ more) g n ≡ itinerary more g n
itinerary-other a f v [] more g n h = refl
itinerary-other a f v (p ∷ ps) more g n h =
    ap (λ rs. itinerary rs g n) (append_assoc (piece_records a f v p) (pieces_records a f (v + 1) ps) more)
    ∙ itinerary-off a f v p.0 p.1 (pieces_records a f (v + 1) ps ++ more) g n (false_and (same_flight f g) (holds p.0 n) h)
    ∙ itinerary-other a f (v + 1) ps more g n h

-- the flights with `k` ranks from `low` on
abbrev pub flights_from : ℕ → ℕ → List FlightNumber
flights_from low k = map flight_at (range_with_len low k)

-- flights with ranks from `low` on give nothing for one below
itinerary-below : (a : List ℕ) (days : FlightNumber → Days) (low k : ℕ) (more : List Record) (j n : ℕ) → j < low
    → itinerary (flights_records a days (flights_from low k) ++ more) (flight_at j) n ≡ itinerary more (flight_at j) n
itinerary-below a days low zero more j n h = refl
itinerary-below a days low (suc k) more j n h =
    let apart : nat_eq low j ≡ false = grind (arith, nat_tests) in
    let next = flights_records a days (flights_from (low + 1) k) in
    ap (λ rs. itinerary rs (flight_at j) n) (append_assoc (flight_records a days (flight_at low)) next more)
    ∙ itinerary-other a (flight_at low) 1 (pieces (days (flight_at low))) (next ++ more) (flight_at j) n (same-places low j ∙ apart)
    ∙ itinerary-below a days (low + 1) k more j n (omega arith)

-- each flight of a range has its itinerary
pub itinerary-flights : (a : List ℕ) (days : FlightNumber → Days) (low k : ℕ) (more : List Record) (j n : ℕ) (w : Legs) → low ≤ j → j < low + k
    → held_on (pieces (days (flight_at j))) n ≡ alone same_itinerary [] w → Above 0 w
    → itinerary more (flight_at j) n ≡ [] → ((name : Name) → tails_of name more ≡ [])
    → itinerary (flights_records a days (flights_from low k) ++ more) (flight_at j) n ≡ w
itinerary-flights a days low zero more j n w from to held above none no_tails = absurd (omega arith)
itinerary-flights a days low (suc k) more j n w from to held above none no_tails =
    by (nat_eq low j) refl (λ later. itinerary-flights a days (low + 1) k more j n w later (omega arith) held above none no_tails)
  where
    next : List Record
    next = flights_records a days (flights_from (low + 1) k)

    by : (b : Bool) → nat_eq low j ≡ b → (low + 1 ≤ j → itinerary (next ++ more) (flight_at j) n ≡ w)
        → itinerary (flights_records a days (flights_from low (suc k)) ++ more) (flight_at j) n ≡ w
    by true e rest =
        let is_low : low ≡ j = grind (arith, nat_tests) in
        let after : j < low + 1 = omega arith in
        ap (λ rs. itinerary rs (flight_at j) n) (append_assoc (flight_records a days (flight_at low)) next more)
        ∙ ap (λ i. itinerary (flight_records a days (flight_at i) ++ (next ++ more)) (flight_at j) n) is_low
        ∙ itinerary-pieces a (flight_at j) 1 (pieces (days (flight_at j))) (next ++ more) n w held above
        (itinerary-below a days (low + 1) k more j n after ∙ none)
        (λ name. tails-flights a days (flights_from (low + 1) k) name more (no_tails name))
    by false e rest =
        let later : low + 1 ≤ j = grind (arith, nat_tests) in
        ap (λ rs. itinerary rs (flight_at j) n) (append_assoc (flight_records a days (flight_at low)) next more)
        ∙ itinerary-other a (flight_at low) 1 (pieces (days (flight_at low))) (next ++ more) (flight_at j) n (same-places low j ∙ e)
        ∙ rest later
