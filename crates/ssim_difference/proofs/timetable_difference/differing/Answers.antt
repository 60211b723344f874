-- One flight more; and no flight is left.
use Rattle.std.proofs.Common.{◌≡◌, ◌∙◌, ◌++◌, sym, ap}
use Rattle.ssim_difference.specs.Differences.{Compared, compared}
use Rattle.std.specs.Option.{option_map}
use Rattle.ssim_difference.specs.internal.Choosing.{part}
use Rattle.ssim_difference.specs.internal.Matched.{listed, seen}
use Rattle.ssim_difference.proofs.Listed.{all_listed, fewer, left_after, met_pieces}
use Rattle.ssim_difference.proofs.timetable_difference.differing.Goals as goal

pub loop-next-preserved : goal.loop-next-preserved
loop-next-preserved c before after old_is new_is =
    let old = c.loop-next.old_left.now in let new = c.loop-next.new_left.now in
    let so_far = c.loop-next.listed.items in
    let met = seen c.in-Some.next in
    let choice = option_map (λ x. x.now) c.args.choice in
    let of = part choice before after in
    let left = c.loop-next.invariant before after old_is new_is in
    let next_is = sym c.in-Some.ensures in
    let met_is = met_pieces choice before after so_far old new met left next_is in
    let found : c.in_ok-found.found ≡ compared (of before) (of after) met.flight =
    c.in_ok-found.ensures before after met_is.0 met_is.1 in
    left_after choice before after so_far c.add.new.flights.items old new met left next_is
    (c.in_ok-add.ensures ∙ ap (λ (f : Compared). so_far ++ listed f) found)

pub loop-next-smaller : goal.loop-next-smaller
loop-next-smaller c =
    fewer c.loop-next.old_left.now c.loop-next.new_left.now (seen c.in-Some.next)
    (sym c.in-Some.ensures)

pub returns : goal.returns
returns c before after old_is new_is =
    all_listed (option_map (λ x. x.now) c.args.choice) before after c.loop-next.listed.items c.loop-next.old_left.now c.loop-next.new_left.now
    (c.loop-next.invariant before after old_is new_is) (sym c.in_default.ensures)
