-- A leg is bare if each part of the condition holds.
use Rattle.std.proofs.Common.{◌≡◌, ◌≢◌, ℕ, Bool, true, false, nat_eq, sym, ap, ◌∙◌, arith}
use Rattle.std.specs.Prelude.{is_some}
use Rattle.std.proofs.lemmas.Bool.Decides.{nat_tests}
use Rattle.ssim_base.proofs.data_set.saved_lines.is_bare.Goals.{else-rate-eq32, else-serial-eq0, then-rate-eq32, then-serial-eq0}
use Rattle.ssim_base.proofs.data_set.saved_lines.is_bare.Goals as goal

apart : (n k : ℕ) (b : Bool) → b ≡ nat_eq n k → b ≡ true → n ≢ k → ⊥
apart n k b value test other = other (let same : nat_eq n k ≡ true = sym value ∙ test in grind (arith, nat_tests))

one-sided : (a b : Bool) → a ≡ b → b ≡ false → a ≡ true → ⊥
one-sided a b same none all = let e = sym none ∙ sym same ∙ all in cc

pub returns-then-overflow-eq32 : goal.returns-then-overflow-eq32
returns-then-overflow-eq32 c =
    elim c.if-rate-eq32.branch [
      | then-rate-eq32 w ↦ (elim c.if-serial-eq0.branch [
        | then-serial-eq0 v ↦ (
            let serial : c.in-Leg.leg.serial ≡ 0 = grind (arith, nat_tests) in
            let rate : c.in-Leg.leg.rate ≡ 32 = grind (arith, nat_tests) in
            let overflow : c.in-Leg.leg.overflow ≡ 32 = grind (arith, nat_tests) in
            let same : c.is_some.result ≡ is_some c.in-Leg.leg.last = c.is_some.ensures ∙ ap is_some c.last.ensures.value in
            rw c.in-Leg.is (λ some. (serial, rate, overflow, sym same ∙ some), λ bare. same ∙ bare.3)
            )
        | else-serial-eq0 v ↦ absurd (apart c.serial-in-Leg.result 0 c.if-serial-eq0.value v.value-is w.if-rate-eq32.true v.if-serial-eq0.false)
      ])
      | else-rate-eq32 w ↦ absurd (one-sided c.if-rate-eq32.value c.if-serial-eq0.value w.value-is w.if-rate-eq32.false c.if-overflow-eq32.true)
    ]
