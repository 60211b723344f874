-- The law of the trait, at the result of the call.
use Rattle.std.proofs.Common.{◌≡◌, ◌↔◌, IsTrue, sym, subst}
use Rattle.ssim_periods.proofs.value.are_equal.Goals as goal

pub returns : goal.returns
returns g c =
    let one = c.args.one.now in let other = c.args.other.now in
    subst (λ b. IsTrue b ↔ (one ≡ other)) (sym c.same.ensures) (g.met.V.Value.exact one other)
