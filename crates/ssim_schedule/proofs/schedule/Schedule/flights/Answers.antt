-- A flight without an entry flies on no day.
use Rattle.std.proofs.Common.{sym, ap, ◌∙◌}
use Rattle.std.proofs.Common.{length}
use Rattle.ssim_schedule.specs.clauses.Schedule.{Flown, days_in}
use Rattle.ssim_schedule.proofs.NamedFlights.{flies_not, if_ok}
use Rattle.ssim_schedule.proofs.schedule.Schedule.flights.Goals as goal

pub returns : goal.returns
returns c =
    let table = c.self.inside.table in
    record {
      exist = c.flights.ensures.exist;
      others = if_ok c.flights.result (λ flights are exist. λ g is none.
          ap (λ (f : Flown). days_in f g) (sym c.self.view_is)
          ∙ flies_not table flights.items are exist g is none)
          c.flights.ensures.flights c.flights.ensures.exist;
      whole = λ g is. ap (λ (f : Flown). length (days_in f g)) (sym c.self.view_is)
          ∙ c.self.invariant.each_day g is;
    }
