-- The two are equal if all parts are.
use Rattle.std.proofs.Common.{◌≡◌, ℕ, Bool, true, false, ◌&&◌, nat_eq, List, refl, sym, ◌∙◌}
use Rattle.std.specs.Bool.{beq}
use Rattle.std.specs.Cmp.Lexicographic.{pointwise}
use Rattle.std.proofs.lemmas.Bool.{eqb-true}
use Rattle.ssim_records.proofs.Days.{days_decide}
use Rattle.ssim_schedule.specs.declared.builder.leg_group.Heading.{Heading}
use Rattle.ssim_schedule.proofs.builder.leg_group.Heading.is.Goals as goal

both : (a b : Bool) → (a && b) ≡ true → (a ≡ true) × (b ≡ true)
both true b h = (refl, h)
both false b h = cc

abbrev the_heading : ℕ → ℕ → ℕ → ℕ → List Bool → Heading
the_heading number suffix first last days = record { flight = record { number = number; suffix = suffix }; period = record { first = first; last = last; days = days } }

same_heading : (n m s t f g l k : ℕ) (d e : List Bool) → n ≡ m → s ≡ t → f ≡ g → l ≡ k → d ≡ e → the_heading n s f l d ≡ the_heading m t g k e
same_heading n m s t f g l k d e a b x y z = rw (a, b, x, y, z) refl

pub returns-then-eq : goal.returns-then-eq
returns-then-eq c = λ h.
    let one : Heading = c.args.self in
    let other : Heading = record { flight = c.args.flight; period = c.args.period } in
    let flight = both (nat_eq one.flight.number other.flight.number) (nat_eq one.flight.suffix other.flight.suffix) (sym c.if-eq.ensures) in
    let period = both (nat_eq one.period.first other.period.first) (nat_eq one.period.last other.period.last && pointwise beq one.period.days other.period.days) (sym c.eq-then-eq.ensures ∙ h) in
    let ends = both (nat_eq one.period.last other.period.last) (pointwise beq one.period.days other.period.days) period.1 in
    same_heading one.flight.number other.flight.number one.flight.suffix other.flight.suffix one.period.first other.period.first one.period.last other.period.last one.period.days other.period.days
    (eqb-true one.flight.number other.flight.number flight.0) (eqb-true one.flight.suffix other.flight.suffix flight.1) (eqb-true one.period.first other.period.first period.0) (eqb-true one.period.last other.period.last ends.0)
    ((days_decide one.period.days other.period.days).0 ends.1)
