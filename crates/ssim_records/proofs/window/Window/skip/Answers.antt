use Rattle.std.proofs.Common.{◌+◌, ◌-◌, ◌≤◌, length, arith, drop, sym}
use Rattle.std.specs.Prelude.{slice_range}
use Rattle.std.proofs.lemmas.List.{length-take}
use Rattle.ssim_records.proofs.Windows.{window_rest}
use Rattle.ssim_records.proofs.window.Window.skip.Goals as goal

pub returns : goal.returns
returns c =
    let i = c.self.inside in
    let long : c.args.count ≤ length (slice_range i.bytes i.start i.end) = rw c.self.view_is c.requires in
    let room : i.start + c.args.count ≤ i.end = omega (arith, long, length-take (i.end - i.start) (drop i.start i.bytes)) in
    rw (← c.self.view_is) (sym (window_rest i.bytes i.start i.end c.args.count room))
