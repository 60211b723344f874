-- Two pieces are equal if their periods and their legs are.
use Rattle.std.proofs.Common.{◌≡◌, ◌&&◌, ◌∙◌, Bool, true, false, nat_eq, ap₂, refl, sym}
use Rattle.std.specs.Bool.{beq}
use Rattle.std.specs.Cmp.{booleans_Decides}
use Rattle.std.proofs.lemmas.Slice.Eq.{slice_eq-Decides}
use Rattle.std.specs.Cmp.Lexicographic.{pointwise}
use Rattle.std.proofs.lemmas.Bool.{eqb-true}
use Rattle.ssim_values.specs.Period.{DayRange}
use Rattle.ssim_base.specs.clauses.ItineraryLaws.{exact_itinerary}
use Rattle.ssim_base.specs.Timetable.{Legs}
use Rattle.ssim_difference.proofs.flight_difference.is_same.Goals as goal

both : (a b : Bool) → (a && b) ≡ true → (a ≡ true) × (b ≡ true)
both true b h = (refl, h)
both false b h = cc

same : (p q : DayRange)
    → (nat_eq p.first q.first && (nat_eq p.last q.last && pointwise beq p.days q.days)) ≡ true → p ≡ q
same p q h =
    let first = both (nat_eq p.first q.first)
    (nat_eq p.last q.last && pointwise beq p.days q.days) h in
    let last = both (nat_eq p.last q.last) (pointwise beq p.days q.days) first.1 in
    rw (
      eqb-true p.first q.first first.0,
      eqb-true p.last q.last last.0,
      (slice_eq-Decides booleans_Decides p.days q.days
          (pointwise beq p.days q.days) refl).0 last.1,
    ) refl

pub returns-then-eq : goal.returns-then-eq
returns-then-eq c equal =
    let piece = c.args.piece.now in let other = c.args.other.now in
    ap₂ (λ (period : DayRange) (legs : Legs). (period, legs))
    (same piece.0 other.0 (sym c.eq.ensures ∙ c.if-eq.true))
    ((exact_itinerary piece.1 other.1).0 (sym c.same.ensures ∙ equal))
