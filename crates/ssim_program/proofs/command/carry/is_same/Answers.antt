-- Two sub-messages are equal if their flights and their periods are.
use Rattle.std.proofs.Common.{◌≡◌, ◌&&◌, ◌∙◌, Bool, true, false, Decides, nat_eq, refl, sym, subst}
use Rattle.std.specs.Bool.{beq}
use Rattle.std.specs.Cmp.{booleans_Decides}
use Rattle.std.specs.Cmp.Lexicographic.{pointwise}
use Rattle.std.proofs.lemmas.Bool.Decides.{Decides-eqb}
use Rattle.std.proofs.lemmas.Slice.Eq.{slice_eq-Decides}
use Rattle.ssim_base.specs.declared.sub_message.ResolvedSub.{ResolvedSub}
use Rattle.ssim_program.proofs.command.carry.is_same.Goals as goal

both : (a b : Bool) → (a && b) ≡ true → (a ≡ true) × (b ≡ true)
both true b h = (refl, h)
both false b h = cc

and_true : (a b : Bool) → a ≡ true → b ≡ true → (a && b) ≡ true
and_true true b h k = k
and_true false b h k = cc

abbrev equal_sub : ResolvedSub → ResolvedSub → Bool
equal_sub x y =
    (nat_eq x.flight.number y.flight.number && nat_eq x.flight.suffix y.flight.suffix)
    && (nat_eq x.period.first y.period.first &&
    (nat_eq x.period.last y.period.last && pointwise beq x.period.days y.period.days))

sub_Decides : (x y : ResolvedSub) → Decides (equal_sub x y) (x ≡ y)
sub_Decides x y = (λ h. there h, λ e. subst (λ (z : ResolvedSub). equal_sub x z ≡ true) e (own x))
  where
    there : equal_sub x y ≡ true → x ≡ y
    there h =
        let parts =
        both (nat_eq x.flight.number y.flight.number && nat_eq x.flight.suffix y.flight.suffix)
        (nat_eq x.period.first y.period.first &&
        (nat_eq x.period.last y.period.last && pointwise beq x.period.days y.period.days)) h in
        let flight =
        both (nat_eq x.flight.number y.flight.number) (nat_eq x.flight.suffix y.flight.suffix)
        parts.0 in
        let first =
        both (nat_eq x.period.first y.period.first)
        (nat_eq x.period.last y.period.last && pointwise beq x.period.days y.period.days)
        parts.1 in
        let last =
        both (nat_eq x.period.last y.period.last) (pointwise beq x.period.days y.period.days)
        first.1 in
        rw (
          (Decides-eqb x.flight.number y.flight.number).0 flight.0,
          (Decides-eqb x.flight.suffix y.flight.suffix).0 flight.1,
          (Decides-eqb x.period.first y.period.first).0 first.0,
          (Decides-eqb x.period.last y.period.last).0 last.0,
          (slice_eq-Decides booleans_Decides x.period.days y.period.days
              (pointwise beq x.period.days y.period.days) refl).0 last.1,
        ) refl

    own : (z : ResolvedSub) → equal_sub z z ≡ true
    own z =
        and_true _ _ (and_true _ _ ((Decides-eqb z.flight.number z.flight.number).1 refl)
        ((Decides-eqb z.flight.suffix z.flight.suffix).1 refl))
        (and_true _ _ ((Decides-eqb z.period.first z.period.first).1 refl)
        (and_true _ _ ((Decides-eqb z.period.last z.period.last).1 refl)
        ((slice_eq-Decides booleans_Decides z.period.days z.period.days
        (pointwise beq z.period.days z.period.days) refl).1 refl)))

pub returns-then-is_reference : goal.returns-then-is_reference
returns-then-is_reference c =
    let dates =
    slice_eq-Decides sub_Decides c.as_slice.result.now c.dates.result.now c.eq.result c.eq.ensures
    in
    let reference = c.is_reference.ensures.0 c.if-is_reference.true in (
      λ equal. (
        reference ∙ c.reference.ensures,
        sym c.as_slice.ensures.value ∙ dates.0 equal
            ∙ c.dates.ensures.value,
      ),
      λ same. dates.1 (c.as_slice.ensures.value ∙ same.1
          ∙ sym c.dates.ensures.value),
    )
