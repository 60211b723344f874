-- The legs of both itineraries.
use Rattle.std.proofs.Common.{◌∙◌, ◌++◌, ap₂}
use Rattle.std.proofs.lemmas.Result.{on_ok_weaker}
use Rattle.ssim_base.specs.Timetable.{Legs}
use Rattle.ssim_difference.specs.Lines.{changed_legs}
use Rattle.ssim_difference.proofs.lines.push_difference.Goals as goal

pub returns : goal.returns
returns c =
    on_ok_weaker c.push_changed_legs.result
    (λ added. added
    ∙ ap₂ (λ (old new : Legs). c.args.lines.now.items ++ changed_legs old new) c.legs-old.ensures c.legs-new.ensures)
    c.push_changed_legs.ensures
