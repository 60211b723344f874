-- All itineraries, or the first 52.
use Rattle.std.proofs.Common.{◌≤◌, length, sym, arith}
use Rattle.std.proofs.lemmas.List.{length-take-le, take_all}
use Rattle.ssim_program.proofs.command.calendar.lettered.Goals as goal

pub slice_bounds-result-end : goal.slice_bounds-result-end
slice_bounds-result-end c =
    let more : 52 ≤ length c.args.itineraries.now = omega arith in
    let first = length-take-le 52 c.args.itineraries.now more in
    omega (arith, first)

pub returns-then-itineraries-le-LETTERS : goal.returns-then-itineraries-le-LETTERS
returns-then-itineraries-le-LETTERS c =
    let few : length c.args.itineraries.now ≤ 52 = omega arith in
    sym (take_all 52 c.args.itineraries.now few)
