-- The part begins with the later of the first days, and ends with the earlier of the last days.
use Rattle.std.proofs.Common.{◌≡◌, ◌∙◌, ◌&&◌, nat_le, ℕ, Some, None, subst}
use Rattle.ssim_schedule.proofs.Wanted.{part_holds, part_none, turned}
use Rattle.ssim_schedule.proofs.builder.wanted_dates.part_between.Goals as goal

pub returns-in-Ok : goal.returns-in-Ok
returns-in-Ok c =
    let period = c.args.period in
    let first = c.args.first in
    let last = c.args.last in
    let from = c.later-first.result in
    let to = c.earlier-last.result in (
      part_holds period first last from to
          (λ n. subst (λ (k : ℕ). nat_le from n ≡ (nat_le first n && nat_le k n)) c.first.ensures.value (c.later-first.ensures n))
          (λ n. subst (λ (k : ℕ). nat_le n to ≡ (nat_le n last && nat_le n k)) c.last.ensures.value (c.earlier-last.ensures n))
          c.in-Ok.part c.in-Ok.ensures.value.0 c.in-Ok.ensures.value.1 (c.in-Ok.ensures.value.2 ∙ c.mask.ensures.value),
      λ never. absurd (let clash : Some (first, last) ≡ None = never in cc),
    )

pub returns-in-Err : goal.returns-in-Err
returns-in-Err c =
    let period = c.args.period in
    let first = c.args.first in
    let last = c.args.last in
    let from = c.later-first.result in
    let to = c.earlier-last.result in
    part_none period first last from to
    (λ n. subst (λ (k : ℕ). nat_le from n ≡ (nat_le first n && nat_le k n)) c.first.ensures.value (c.later-first.ensures n))
    (λ n. subst (λ (k : ℕ). nat_le n to ≡ (nat_le n last && nat_le n k)) c.last.ensures.value (c.earlier-last.ensures n))
    (turned from to c.in-Err.ensures.accepts.1)
