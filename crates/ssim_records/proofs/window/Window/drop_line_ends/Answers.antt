-- What is left after line ends is the end of the bytes, so moving the start is enough.
use Rattle.std.proofs.Common.{◌≡◌, arith}
use Rattle.std.specs.Prelude.{slice_range, ◌-◌, length}
use Rattle.ssim_records.specs.Frames.{drop_line_ends}
use Rattle.ssim_records.proofs.LineEnds.{less_after}
use Rattle.ssim_columns.proofs.lemmas.Slices.{length_slice}
use Rattle.ssim_records.proofs.Windows.{window_drops}
use Rattle.ssim_records.proofs.window.Window.drop_line_ends.Goals as goal

pub overflow_sub-self : goal.overflow_sub-self
overflow_sub-self c =
    let i = c.self.inside in
    omega (arith, less_after (slice_range i.bytes i.start i.end) c.trimmed-rest.result.now c.trimmed-rest.ensures, length_slice i.bytes i.start i.end c.self.invariant.0 (omega arith))

pub returns : goal.returns
returns c =
    let i = c.self.inside in
    let rest = c.trimmed-rest.result.now in
    let is : slice_range i.bytes (i.end - length rest) i.end ≡ drop_line_ends c.args.self.now =
    rw (← c.self.view_is) (window_drops i.bytes i.start i.end rest c.self.invariant.0 (omega arith) c.trimmed-rest.ensures) in
    record { less = less_after c.args.self.now _ is; value = is }
