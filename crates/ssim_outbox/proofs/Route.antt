-- Other equipment and other times leave the leg sequences and the stations of an itinerary.
use Rattle.std.proofs.Common.{◌≡◌, ◌⊎◌, ◌&&◌, ◌∙◌, ℕ, true, [], ◌∷◌, map, length, refl}
use Rattle.std.proofs.Common.{sym, ap, inl, inr, bytes_eq, Option, Some, None, nat_eq, arith}
use Rattle.std.proofs.lemmas.Bool.{and_from}
use Rattle.std.proofs.lemmas.Bool.Decides.{nat_tests}
use Rattle.std.proofs.lemmas.Slice.Eq.{bytes_eq-Decides}
use Rattle.ssim_columns.specs.Leg.{leg_columns}
use Rattle.ssim_text.specs.Values.{EquipmentValue}
use Rattle.ssim_base.specs.Timetable.{LegValue, Legs}
use Rattle.ssim_schedule.specs.Effect.{equipped}
use Rattle.ssim_schedule.specs.MessageColumns.{equipment_of, times_of}
use Rattle.ssim_outbox.specs.Sayable.{ArePartsOf, HaveColumns, equipped_by}
use Rattle.ssim_outbox.specs.Route.{same_route, same_stations}
use Rattle.ssim_outbox.proofs.Closed.{by_long}
use Rattle.ssim_outbox.proofs.Columns.{arrival_equipped, arrival_timed, departure_equipped}
use Rattle.ssim_outbox.proofs.Columns.{departure_timed}
use Rattle.ssim_outbox.proofs.Retimed.{Changed, IsRetimed}
use Rattle.ssim_outbox.proofs.Tried.{parts_changed}

-- two legs have the same leg sequence and the same stations
record StationsAre (leg other : LegValue) : Type 0 where
  sequence : leg.sequence ≡ other.sequence
  departure : leg_columns 37 39 leg.columns ≡ leg_columns 37 39 other.columns
  arrival : leg_columns 55 57 leg.columns ≡ leg_columns 55 57 other.columns

-- the legs of two itineraries do, one after another
abbrev RouteIs : Legs → Legs → Type 0
RouteIs [] [] = Unit {0}
RouteIs [] (leg ∷ legs) = ⊥
RouteIs (old ∷ olds) [] = ⊥
RouteIs (old ∷ olds) (leg ∷ legs) = StationsAre old leg × RouteIs olds legs

own_route : (olds : Legs) → RouteIs olds olds
own_route [] = tt
own_route (old ∷ olds) =
    (record { sequence = refl; departure = refl; arrival = refl }, own_route olds)

equipped_route : (e : EquipmentValue) (olds : Legs) → HaveColumns olds
    → RouteIs olds (map (equipped e) olds)
equipped_route e [] long = tt
equipped_route e (old ∷ olds) long = (
  record {
    sequence = refl;
    departure = sym (departure_equipped (equipment_of e) old.columns long.0);
    arrival = sym (arrival_equipped (equipment_of e) old.columns long.0);
  },
  equipped_route e olds long.1,
)

parts_route : (e : Option EquipmentValue) (olds : Legs) → HaveColumns olds
    → RouteIs olds (equipped_by e olds)
parts_route None olds long = own_route olds
parts_route (Some e) olds long = equipped_route e olds long

changed_stations : (before : Legs) (leg new : LegValue) → length leg.columns ≡ 158
    → (new ≡ leg) ⊎ IsRetimed before leg new → StationsAre leg new
changed_stations before leg new len (inl same) =
    let back = sym same in
    record {
      sequence = ap (λ (l : LegValue). l.sequence) back;
      departure = ap (λ (l : LegValue). leg_columns 37 39 l.columns) back;
      arrival = ap (λ (l : LegValue). leg_columns 55 57 l.columns) back;
    }
changed_stations before leg new len (inr r) =
    let back = sym r.made in
    record {
      sequence = ap (λ (l : LegValue). l.sequence) back;
      departure = sym (departure_timed (times_of r.line) leg.columns len)
          ∙ ap (λ (l : LegValue). leg_columns 37 39 l.columns) back;
      arrival = sym (arrival_timed (times_of r.line) leg.columns len)
          ∙ ap (λ (l : LegValue). leg_columns 55 57 l.columns) back;
    }

own_number : (m n : ℕ) → m ≡ n → nat_eq m n ≡ true
own_number m n h = grind (arith, nat_tests)

both_stations : (old leg new : LegValue) → StationsAre old leg → StationsAre leg new
    → same_stations old new ≡ true
both_stations old leg new a b =
    let test = λ (first last : ℕ).
    bytes_eq (leg_columns first last old.columns) (leg_columns first last new.columns) in
    let same : (first last : ℕ)
    → leg_columns first last old.columns ≡ leg_columns first last new.columns
    → test first last ≡ true =
    λ first last. (bytes_eq-Decides (leg_columns first last old.columns)
    (leg_columns first last new.columns)).1 in
    and_from (nat_eq old.sequence new.sequence && test 37 39) (test 55 57)
    (and_from (nat_eq old.sequence new.sequence) (test 37 39)
    (own_number old.sequence new.sequence (a.sequence ∙ b.sequence))
    (same 37 39 (a.departure ∙ b.departure))) (same 55 57 (a.arrival ∙ b.arrival))

route_changed : (before olds legs news : Legs) → HaveColumns legs → RouteIs olds legs
    → Changed before legs news → same_route olds news ≡ true
route_changed before [] [] [] long route c = refl
route_changed before [] [] (new ∷ news) long route c = absurd c
route_changed before [] (leg ∷ legs) news long route c = absurd route
route_changed before (old ∷ olds) [] news long route c = absurd route
route_changed before (old ∷ olds) (leg ∷ legs) [] long route c = absurd c
route_changed before (old ∷ olds) (leg ∷ legs) (new ∷ news) long route c =
    and_from (same_stations old new) (same_route olds news)
    (both_stations old leg new route.0 (changed_stations before leg new long.0 c.0))
    (route_changed (leg ∷ before) olds legs news long.1 route.1 c.1)

pub parts_same_route : (old new : Legs) → HaveColumns old → ArePartsOf old new
    → same_route old new ≡ true
parts_same_route old new long p =
    route_changed [] old (equipped_by p.equipment old) new (by_long p.equipment old long)
    (parts_route p.equipment old long) (parts_changed old new p long)
