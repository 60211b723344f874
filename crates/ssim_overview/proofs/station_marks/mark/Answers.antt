-- One station more.
use Rattle.std.proofs.Common.{refl}
use Rattle.ssim_overview.proofs.StationMarks.{one_mark}
use Rattle.ssim_overview.proofs.station_marks.mark.Goals as goal

pub returns : goal.returns
returns c = one_mark c.args.station c.number_of.result c.args.marks.now _ c.requires
    c.number_of.ensures.bound c.number_of.ensures.only refl
