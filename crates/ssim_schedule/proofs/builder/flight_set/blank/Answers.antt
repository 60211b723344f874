-- A list of equal elements has none other.
use Rattle.std.proofs.Common.{Bool, List, ap, ◌∙◌}
use Rattle.ssim_schedule.specs.internal.FlightSet.{is_marked}
use Rattle.ssim_base.specs.ReadBack.{place_of}
use Rattle.ssim_schedule.proofs.FlightSets.{no_mark}
use Rattle.ssim_schedule.proofs.builder.flight_set.blank.Goals as goal

pub returns-clause-none : goal.returns-clause-none
returns-clause-none c = λ f. ap (λ (marks : List Bool). is_marked marks f) (c.in_ok-marks.ensures.items_if_clones_equal (λ y h. h)) ∙ no_mark c.args.count (place_of f)
