use Rattle.ssim_calendar.proofs.Telling.{tells}
use Rattle.ssim_calendar.proofs.laws.letters_tell_values.Goals as goal

pub returns : goal.returns
returns g c = tells g.V.Value.alike g.V.Value.nothing g.met.V.Value.exact
