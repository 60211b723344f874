-- One more flight is put.
use Rattle.std.proofs.Common.{◌≡◌, ◌≤◌, ◌∷◌, List, length, refl, sym, ap, subst, arith}
use Rattle.std.specs.List.{All}
use Rattle.std.proofs.lemmas.List.Elements.{recursion_from_All, All-from_recursion}
use Rattle.ssim_base.specs.Export.{Piece}
use Rattle.ssim_base.proofs.Each.{all_left}
use Rattle.ssim_schedule.specs.FlightPieces.{Divided}
use Rattle.ssim_schedule.specs.internal.Plan.{HasWritableLegs, HasWritablePieces, pieces_count, plan_count}
use Rattle.ssim_base.proofs.SinkLemmas.{next_fails, next_put}
use Rattle.ssim_schedule.proofs.Puts.{flights-split}
use Rattle.ssim_schedule.proofs.export.lines.put_flights.Goals as goal

-- the first of those that are left has few pieces, and so do the others
few_left : {left rest : List Divided} {p : Divided} → left ≡ p ∷ rest
    → All (λ p. length p.1 ≤ 99) left → (length p.1 ≤ 99) × All (λ p. length p.1 ≤ 99) rest
few_left {left} {rest} {p} is few =
    let each = recursion_from_All (λ p. length p.1 ≤ 99) (p ∷ rest)
    (subst (λ (ps : List Divided). All (λ p. length p.1 ≤ 99) ps) is few) in
    (each.0, All-from_recursion (λ p. length p.1 ≤ 99) rest each.1)

pub put_pieces-requires : goal.put_pieces-requires
put_pieces-requires g c =
    let steps = c.in-Some.ensures.steps.0 in
    let few = (few_left steps c.loop-planned.invariant.few).0 in
    record {
      few = subst (λ (ps : List Piece). length ps ≤ 99) (sym c.pieces.ensures) few;
      room = omega (arith, ap plan_count steps, ap pieces_count c.pieces.ensures);
    }

pub returns-in_err-next-clause-puts : goal.returns-in_err-next-clause-puts
returns-in_err-next-clause-puts g c =
    let at = c.loop-planned in
    next_fails at.block _ _
    (flights-split c.args.airline at.next c.in-Some.ensures.steps.0 c.flight.ensures
    c.pieces.ensures refl)
    at.invariant.puts _ _ c.from_residual.ensures.0 c.in_err-next.ensures.puts

pub loop-planned-preserved : goal.loop-planned-preserved
loop-planned-preserved g c =
    let at = c.loop-planned in
    let steps = c.in-Some.ensures.steps.0 in
    let count = c.in_ok-next.ensures.next in
    record {
      next = omega (arith, ap plan_count steps, ap pieces_count c.pieces.ensures);
      puts = next_put at.block _ _
          (flights-split c.args.airline at.next steps c.flight.ensures c.pieces.ensures count)
          at.invariant.puts c.in_ok-next.ensures.puts;
      few = (few_left steps at.invariant.few).1;
      writable = all_left HasWritablePieces _ _ _ _ steps
          (subst (λ (ps : List Piece). All HasWritableLegs ps) c.pieces.ensures
          c.in_ok-next.ensures.writable)
          at.invariant.writable;
      count = omega (arith, c.in-Some.ensures.steps.1, ap length steps);
    }
