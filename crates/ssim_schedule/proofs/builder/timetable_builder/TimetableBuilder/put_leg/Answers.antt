-- The leg is put on the wanted part of its period, or left out if there is none.
use Rattle.std.proofs.Common.{◌≡◌, ◌≤◌, ℕ, Option, Some, None, unwrap_or, refl, sym, ap, subst, ◌∙◌}
use Rattle.ssim_records.specs.Leg.{Name}
use Rattle.ssim_base.specs.Timetable.{period_of}
use Rattle.ssim_base.proofs.Results.{on_ok}
use Rattle.ssim_schedule.specs.internal.TimetableBuilder.{LeavesOut}
use Rattle.ssim_schedule.specs.internal.WantedDates.{IsPart}
use Rattle.ssim_schedule.proofs.TimetableBuilderLemmas.{same_period, takes_none, takes_part}
use Rattle.ssim_schedule.proofs.Wanted.{none_wanted}
use Rattle.ssim_schedule.proofs.builder.timetable_builder.TimetableBuilder.put_leg.Goals as goal

pub returns-then-are_unwanted : goal.returns-then-are_unwanted
returns-then-are_unwanted c =
    let r = c.args.leg.now in
    let old = c.args.self.now in
    let new = c.leave_out.new.self in
    let last : c.in-Some.last ≡ (period_of r).last = ap (λ (o : Option ℕ). unwrap_or o 0) (sym c.in-Some.is ∙ c.last.ensures.value) in
    let none : IsPart old.wanted (period_of r) None =
    none_wanted old.wanted (period_of r)
    (λ n low high. c.are_unwanted.ensures c.if-are_unwanted.true n (subst (λ (k : ℕ). k ≤ n) (sym c.first.ensures) low) (subst (λ (k : ℕ). n ≤ k) (sym last) high)) in
    takes_none old new r (period_of r) refl none (subst (λ (name : Name). LeavesOut old new name) c.name.ensures c.leave_out.ensures)

pub returns-in-Some-wanted_part : goal.returns-in-Some-wanted_part
returns-in-Some-wanted_part c =
    let r = c.args.leg.now in
    let old = c.args.self.now in
    let last : r.last ≡ Some c.in-Some.last = sym c.last.ensures.value ∙ c.in-Some.is in
    let is : c.in-Ok.period ≡ period_of r =
    same_period c.in-Ok.period r c.in-Some.last (c.in-Ok.ensures.value.0 ∙ c.first-2.ensures) c.in-Ok.ensures.value.1 (c.in-Ok.ensures.value.2 ∙ c.days.ensures) last in
    let of : IsPart old.wanted c.in-Ok.period (Some c.in-Some-wanted_part.part) = subst (IsPart old.wanted c.in-Ok.period) c.in-Some-wanted_part.is c.wanted_part.ensures in
    on_ok c.put_on.result (takes_part old c.put_on.new.self r c.in-Ok.period is c.in-Some-wanted_part.part of) c.put_on.ensures

pub returns-in-None : goal.returns-in-None
returns-in-None c =
    let r = c.args.leg.now in
    let old = c.args.self.now in
    let new = c.leave_out-in-None.new.self in
    let last : r.last ≡ Some c.in-Some.last = sym c.last.ensures.value ∙ c.in-Some.is in
    let is : c.in-Ok.period ≡ period_of r =
    same_period c.in-Ok.period r c.in-Some.last (c.in-Ok.ensures.value.0 ∙ c.first-2.ensures) c.in-Ok.ensures.value.1 (c.in-Ok.ensures.value.2 ∙ c.days.ensures) last in
    let none : IsPart old.wanted c.in-Ok.period None = subst (IsPart old.wanted c.in-Ok.period) c.in-None.is c.wanted_part.ensures in
    takes_none old new r c.in-Ok.period is none (subst (λ (name : Name). LeavesOut old new name) c.name-in-None.ensures c.leave_out-in-None.ensures)
