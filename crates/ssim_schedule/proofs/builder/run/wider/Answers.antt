-- A run with the same legs is found.
use Rattle.std.proofs.Common.{◌≡◌, ◌⊎◌, ◌-◌, ◌<◌, ◌||◌, Some, List, length, slice_get, refl, sym, ap, subst, ◌∙◌, arith}
use Rattle.std.proofs.lemmas.List.{take_rest}
use Rattle.ssim_values.specs.Period.{DayRange}
use Rattle.ssim_periods.specs.Calendar.{holds}
use Rattle.ssim_periods.proofs.DayLemmas.{index-get}
use Rattle.ssim_base.specs.clauses.ItineraryLaws.{exact_itinerary}
use Rattle.ssim_schedule.specs.internal.Runs.{Run, is_run_on}
use Rattle.ssim_schedule.proofs.builder.run.wider.Goals as goal

pub returns-then-are_apart_from : goal.returns-then-are_apart_from
returns-then-are_apart_from c =
    let runs = c.args.runs.now in let p : DayRange = c.args.period.now in let both : DayRange = c.in-Some.both in
    let place = c.loop-place.place in let own : Run = c.index-runs-place.result in
    let some = c.loop-place-test.true in
    let within : place - 1 < length runs = omega (arith, c.loop-place.invariant) in
    let found : (run : Run) → slice_get runs (place - 1) ≡ Some run → own ≡ run = λ run at. c.index-runs-place.is ∙ index-get runs (place - 1) run own at in
    let legs : own.1 ≡ c.args.group.now.legs = sym c.legs.ensures ∙ sym ((exact_itinerary c.args.group.now.legs c.legs.result.now).0 (sym c.is_of.ensures ∙ c.if-is_of.true)) in
    record {
      in_range = within;
      same_legs = λ run at. subst (λ (r : Run). r.1 ≡ c.args.group.now.legs) (found run at) legs;
      days = λ run at n. subst (λ (r : Run). holds both n ≡ (holds r.0 n || holds p n)) (found run at) (c.in-Some.ensures.days n);
      first = λ run at. subst (λ (r : Run). (both.first ≡ r.0.first) ⊎ (both.first ≡ p.first)) (found run at) c.in-Some.ensures.first;
      last = λ run at. subst (λ (r : Run). (both.last ≡ r.0.last) ⊎ (both.last ≡ p.last)) (found run at) c.in-Some.ensures.last;
      free = λ n on. sym (ap (λ (rs : List Run). is_run_on rs n) (take_rest runs (place - 1))) ∙ c.if-are_apart_from.ensures refl n on;
    }
