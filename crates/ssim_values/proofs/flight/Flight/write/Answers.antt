-- What is written spells the flight, and a text spells one flight at most.
use Rattle.ssim_values.proofs.FlightLemmas.{SpellsFlight-unique, SpellsFlight-written}
use Rattle.ssim_values.proofs.flight.Flight.write.Goals as goal

pub returns-else-self-ne32-clause-reads_back : goal.returns-else-self-ne32-clause-reads_back
returns-else-self-ne32-clause-reads_back c = λ f p.
    SpellsFlight-unique f c.args.self _ p (rw (← c.self.view_is) (SpellsFlight-written c.self.inside.number c.self.inside.suffix _ c.self.invariant.0 c.if-self-ne32.false c.write_number-text.ensures.value))
