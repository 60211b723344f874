-- The table has the flights of the leg records.
use Rattle.std.proofs.Common.{List, reverse, sym, subst}
use Rattle.std.specs.declared.alloc.Global.{Global}
use Rattle.std.specs.declared.vec.Vec.{Vec}
use Rattle.ssim_values.specs.Flight.{FlightNumber}
use Rattle.ssim_base.specs.BaseSeen.{AreFlights}
use Rattle.ssim_base.proofs.LegTables.{flights-are}
use Rattle.ssim_base.proofs.Results.{if_ok}
use Rattle.ssim_base.proofs.data_set.acceptance.Acceptance.flights.Goals as goal

pub returns : goal.returns
returns c = λ earlier is.
    if_ok c.flights.result
    (λ (found : Vec FlightNumber Global) same.
    subst (λ (fs : List FlightNumber). AreFlights (reverse earlier) fs) (sym same)
    (flights-are c.args.self.now.legs earlier is.legs.flown)) c.flights.ensures
