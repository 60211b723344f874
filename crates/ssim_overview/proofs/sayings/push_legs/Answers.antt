-- What one leg more says.
use Rattle.std.proofs.Common.{map, arith}
use Rattle.std.proofs.lemmas.List.{length-map}
use Rattle.ssim_overview.specs.internal.SaidRows.{leg_says_on}
use Rattle.ssim_overview.proofs.SaidStations.{adds_more, no_more}
use Rattle.ssim_overview.proofs.sayings.push_legs.Goals as goal

pub loop-leg-init : goal.loop-leg-init
loop-leg-init c = no_more (map (λ list. list.items) c.args.sayings.now.items)

pub push_leg-requires : goal.push_leg-requires
push_leg-requires c =
    let same = length-map c.loop-leg.sayings.items (λ list. list.items) in
    let first = length-map c.args.sayings.now.items (λ list. list.items) in
    let size = c.loop-leg.invariant.len in let all = c.requires in omega arith

pub loop-leg-preserved : goal.loop-leg-preserved
loop-leg-preserved c =
    adds_more (leg_says_on c.args.period) c.args.legs.now c.loop-leg.leg-index c.leg-item.result
    (map (λ list. list.items) c.args.sayings.now.items)
    (map (λ list. list.items) c.loop-leg.sayings.items)
    (map (λ list. list.items) c.push_leg.new.sayings.items) c.loop-leg-test.true c.leg-item.is
    c.loop-leg.invariant c.in_ok-push_leg.ensures
