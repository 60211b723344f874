use Rattle.std.proofs.Common.{◌+◌, ◌-◌, ◌/◌, arith}
use Rattle.ssim_held.proofs.Searching.{at_middle, narrow_down, narrow_up}
use Rattle.ssim_held.proofs.lookup.halve.Goals as goal

pub returns-in-Less-clause-belongs : goal.returns-in-Less-clause-belongs
returns-in-Less-clause-belongs c =
    let some = c.requires.some in
    narrow_up c.args.held.now c.requires.rising c.args.reference.now c.args.low c.args.high (c.args.low + (c.args.high - c.args.low) / 2) c.requires.belongs (omega (arith, some)) (omega (arith, some))
    c.index-held-middle.result c.index-held-middle.is c.in-Less.ensures

pub returns-in-Greater-clause-belongs : goal.returns-in-Greater-clause-belongs
returns-in-Greater-clause-belongs c =
    let some = c.requires.some in
    narrow_down c.args.held.now c.requires.rising c.args.reference.now c.args.low c.args.high (c.args.low + (c.args.high - c.args.low) / 2) c.requires.belongs (omega (arith, some)) (omega (arith, some))
    c.index-held-middle.result c.index-held-middle.is c.in-Greater.ensures

pub returns-in-Equal-clause-found : goal.returns-in-Equal-clause-found
returns-in-Equal-clause-found c =
    let some = c.requires.some in
    at_middle c.args.held.now c.requires.rising c.args.reference.now c.args.low c.args.high (c.args.low + (c.args.high - c.args.low) / 2) c.requires.belongs (omega (arith, some)) (omega (arith, some))
    c.index-held-middle.result c.index-held-middle.is c.in-Equal.ensures
