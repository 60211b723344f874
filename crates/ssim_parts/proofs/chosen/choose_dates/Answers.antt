-- A flight that is not chosen has nothing left, and another one what is chosen.
use Rattle.std.proofs.Common.{◌≡◌, ◌+◌, ℕ, refl, sym, ap, subst, ◌∙◌}
use Rattle.ssim_base.proofs.Results.{on_ok}
use Rattle.ssim_base.specs.Timetable.{Legs}
use Rattle.ssim_parts.specs.Chosen.{Choosing, chosen_legs}
use Rattle.ssim_parts.specs.internal.Changes.{ChangesFlight, cancelled}
use Rattle.ssim_parts.proofs.Changing.{changed_as, changed_twice}
use Rattle.ssim_parts.proofs.Choosing.{left_of_it, nothing_left, with_legs}
use Rattle.ssim_parts.proofs.chosen.choose_dates.Goals as goal

pub returns-then-not-has_flight : goal.returns-then-not-has_flight
returns-then-not-has_flight c =
    let choice = c.args.choice.now in
    let flight = c.args.flight in
    on_ok c.cancel.result
    (changed_as flight (cancelled 0 36525) (chosen_legs choice flight) c.args.schedule.now
    c.cancel.new.schedule
    (nothing_left choice flight (sym c.has_flight.ensures ∙ c.if-not-has_flight.true)))
    c.cancel.ensures

pub returns : goal.returns
returns c =
    let choice = c.args.choice.now in
    let flight = c.args.flight in
    let old = c.args.schedule.now in
    let mid = c.cancel-2.new.schedule in
    let late = c.cancel-3.new.schedule in
    let first : c.number.result ≡ choice.first =
    c.number.ensures.value ∙ ap (λ (x : Choosing). x.first) c.choice.view_is in
    let last : c.number-2.result ≡ choice.last =
    c.number-2.ensures.value ∙ ap (λ (x : Choosing). x.last) c.choice.view_is in
    let begun : ChangesFlight flight (cancelled 0 choice.first) old mid =
    subst (λ (n : ℕ). ChangesFlight flight (cancelled 0 n) old mid) first
    c.in_ok-cancel.ensures in
    let ended : ChangesFlight flight (cancelled (choice.last + 1) 36525) mid late =
    subst (λ (n : ℕ). ChangesFlight flight (cancelled (n + 1) 36525) mid late) last
    c.in_ok-cancel-2.ensures in
    let dated = λ (n : ℕ) (legs : Legs).
    cancelled (choice.last + 1) 36525 n (cancelled 0 choice.first n legs) in
    let cut = changed_twice flight (cancelled 0 choice.first) (cancelled (choice.last + 1) 36525)
    dated old mid late (λ n within legs. refl) begun ended in
    on_ok c.choose_legs.result
    (changed_twice flight dated (with_legs choice) (chosen_legs choice flight) old late
    c.choose_legs.new.schedule
    (left_of_it choice flight (sym c.has_flight.ensures ∙ c.if-not-has_flight.false)) cut)
    c.choose_legs.ensures
