-- The dates before the first and after the last are left out, and then the itineraries are looked at.
use Rattle.std.proofs.Common.{◌≡◌, ◌+◌, ℕ, ap, subst, ◌∙◌}
use Rattle.ssim_base.proofs.Results.{on_ok}
use Rattle.ssim_parts.specs.Chosen.{Choosing}
use Rattle.ssim_difference.specs.declared.difference.Difference.{Difference}
use Rattle.ssim_difference.specs.internal.Choosing.{Changes, chosen_difference}
use Rattle.ssim_difference.specs.internal.Choosing.{with_chosen_legs, without}
use Rattle.ssim_difference.proofs.Choosing.{changed_twice, left_of_it}
use Rattle.ssim_difference.proofs.chosen.choose.Goals as goal

pub returns : goal.returns
returns c =
    let choice = c.args.choice.now in
    let old = c.args.days.now.days in
    let mid = c.leave_out.new.days.days in
    let late = c.leave_out-2.new.days.days in
    let first : c.number.result ≡ choice.first =
    c.number.ensures.value ∙ ap (λ (x : Choosing). x.first) c.choice.view_is in
    let last : c.number-2.result ≡ choice.last =
    c.number-2.ensures.value ∙ ap (λ (x : Choosing). x.last) c.choice.view_is in
    let begun : Changes (without 0 choice.first) old mid =
    subst (λ (n : ℕ). Changes (without 0 n) old mid) first c.in_ok-leave_out.ensures in
    let ended : Changes (without (choice.last + 1) 36525) mid late =
    subst (λ (n : ℕ). Changes (without (n + 1) 36525) mid late) last c.in_ok-leave_out-2.ensures in
    let dated = λ (n : ℕ) (d : Difference).
    without (choice.last + 1) 36525 n (without 0 choice.first n d) in
    let cut : Changes dated old late = λ was has. ended (λ n. without 0 choice.first n (was n))
    (begun was has) in
    on_ok c.choose_legs.result
    (λ made flight is. changed_twice dated (with_chosen_legs choice) (chosen_difference choice flight)
    old late c.choose_legs.new.days.days (left_of_it choice flight is) cut made)
    c.choose_legs.ensures
