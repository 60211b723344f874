-- The law of pieces, of the makers of a flight.
use Rattle.std.proofs.Common.{◌≡◌, ◌∙◌, refl, ap}
use Rattle.ssim_periods.specs.Days.{each_day}
use Rattle.ssim_periods.specs.Pieces.{alone}
use Rattle.ssim_periods.proofs.DayLemmas.{day_count-is, index-each_day}
use Rattle.ssim_periods.proofs.PieceLaw.{pieces_law}
use Rattle.ssim_blame.specs.Makers.{maker_on, named_alone, same_maker}
use Rattle.ssim_blame.specs.clauses.MakerOrder.{same_maker_exact}
use Rattle.ssim_blame.specs.declared.maker.Maker.{Maker}
use Rattle.ssim_blame.specs.declared.maker.Maker.TheVariants.{Nobody, DataSet, Sub}
use Rattle.ssim_blame.proofs.laws.each_date_is_named_once.Goals as goal

one_alone : (maker : Maker) → alone same_maker Nobody maker ≡ named_alone maker
one_alone Nobody = refl
one_alone DataSet = refl
one_alone (Sub name) = refl

pub returns : goal.returns
returns c = λ desk flight day within.
    (pieces_law same_maker Nobody same_maker_exact (each_day (maker_on desk flight))).on_each_day day
    ∙ ap (alone same_maker Nobody)
    (index-each_day (maker_on desk flight) day Nobody (rw day_count-is at within))
    ∙ one_alone (maker_on desk flight day)
