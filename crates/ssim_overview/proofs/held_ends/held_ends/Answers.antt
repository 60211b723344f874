-- One place more.
use Rattle.std.proofs.Common.{◌∙◌, ◌<◌, ◌-◌, ap, ap₂, arith, length, max, slice_set}
use Rattle.std.proofs.lemmas.List.{get_or_default, length-set}
use Rattle.ssim_overview.proofs.HeldEnds.{place_more}
use Rattle.ssim_overview.proofs.held_ends.held_ends.Goals as goal

pub loop-place-preserved : goal.loop-place-preserved
loop-place-preserved c =
    let ends = c.loop-place.ends.items in let place = c.loop-place.place in
    let size = c.loop-place.invariant.len in let test = c.loop-place-test.true in
    let all = c.len-place-end.ensures in let first = c.in_ok-ends.ensures.len in
    let lt : place < c.args.end - c.args.from = omega arith in
    let inside : place < length ends = omega arith in
    let back : place - 7 < length ends = omega arith in
    record {
      len = length-set ends place c.max.result ∙ size;
      each = place_more c.args.sayings.now c.args.from (c.args.end - c.args.from) place ends
          (slice_set ends place c.max.result) c.loop-place.auto.place lt size
          c.loop-place.invariant.each
          (ap (slice_set ends place) (c.max.ensures ∙ ap₂ max
          (c.index.ensures ∙ get_or_default ends place c.index.result.now 0 inside)
          (c.index-in-loop-place.ensures
          ∙ get_or_default ends (place - 7) c.index-in-loop-place.result.now 0 back)));
    }
