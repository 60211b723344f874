-- The worked examples, each by computing.
use Rattle.std.proofs.Common.{refl}
use Rattle.ssim_periods.specs.examples.Pieces.{WorkedPieces}

pub worked_pieces : WorkedPieces
worked_pieces = record {
  counts = refl;
  mondays_changed = refl;
  one_holds = refl;
  none_holds = refl;
  tuesdays_changed = refl;
  joined = refl;
  no_day = refl;
  last_days = refl;
  no_days = refl;
  one_day = refl;
  gap = refl;
  eighth_days = refl;
  in_one = refl;
  numbers = refl;
  neighbours = refl;
  lying_apart = refl;
  last_first = refl;
}
