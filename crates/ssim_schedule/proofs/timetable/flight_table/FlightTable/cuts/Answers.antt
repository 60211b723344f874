-- The cuts are those of the flight's periods.
use Rattle.std.proofs.Common.{◌≡◌, ℕ, [], Option, slice_get, unwrap_or, sym, ap, subst, ◌∙◌}
use Rattle.std.proofs.lemmas.Option.{unwrap_or-slice_get}
use Rattle.ssim_base.specs.Timetable.{Days, Legs, on_day}
use Rattle.ssim_schedule.proofs.TableLemmas.{index-each_day}
use Rattle.ssim_schedule.proofs.timetable.flight_table.FlightTable.cuts.Goals as goal

same_day : (days : Days) (m n : ℕ) → slice_get days m ≡ slice_get days n
    → on_day days m ≡ on_day days n
same_day days m n e =
    sym (unwrap_or-slice_get days m [])
    ∙ ap (λ (o : Option Legs). unwrap_or o []) e
    ∙ unwrap_or-slice_get days n []

pub returns-in-Some-clause-weekly : goal.returns-in-Some-clause-weekly
returns-in-Some-clause-weekly c = λ m n le within same none.
    same_day _ m n (subst (λ (ds : Days). slice_get ds m ≡ slice_get ds n) c.in-Some.ensures.some.0
    (c.cuts.ensures.weekly m n le within same none))

pub returns-in-None-clause-weekly : goal.returns-in-None-clause-weekly
returns-in-None-clause-weekly c = λ m n le within same none.
    let absent = c.in-None.ensures.none.0 in
    ap (λ (ds : Days). on_day ds m) absent
    ∙ index-each_day [] m
    ∙ sym (index-each_day [] n)
    ∙ sym (ap (λ (ds : Days). on_day ds n) absent)
