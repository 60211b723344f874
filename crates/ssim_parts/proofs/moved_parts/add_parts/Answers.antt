-- One part more.
use Rattle.std.proofs.Common.{◌≡◌, ◌∙◌, ◌≤◌, ◌++◌, ◌∷◌, [], ℕ, List, ap, sym, subst, arith}
use Rattle.std.proofs.Common.{append_assoc}
use Rattle.std.proofs.Common.{append-nil}
use Rattle.std.specs.List.{AllByRecursion}
use Rattle.ssim_periods.specs.Pieces.{held_on}
use Rattle.ssim_base.specs.Timetable.{Above}
use Rattle.ssim_parts.specs.declared.moved_flight.MovedFlight.{MovedFlight}
use Rattle.ssim_parts.specs.MovedLegs.{moved_flight, shift_of}
use Rattle.ssim_parts.specs.internal.Placed.{IsFit, MovedPiece}
use Rattle.ssim_parts.proofs.Held.{held_on-more}
use Rattle.ssim_parts.proofs.Parting.{all_before, all_both, before_day, flight_order, none_before}
use Rattle.ssim_parts.proofs.Parting.{part_more}
use Rattle.ssim_parts.proofs.moved_parts.add_parts.Goals as goal

pub loop-first-init : goal.loop-first-init
loop-first-init c =
    let rows = c.args.rows.now in
    let wanted = c.args.wanted in
    let period = c.args.period.now in
    let legs = c.args.legs.now in
    let old = c.args.parts.now.items in
    let begin = c.number-first.ensures.value ∙ c.first.ensures.value in
    record {
      from = omega arith;
      to = omega arith;
      held = λ n. sym (ap (λ (l : List MovedFlight). held_on old n ++ l)
          (ap (λ (first : ℕ). before_day rows wanted period legs first n) begin
          ∙ none_before rows wanted period legs n) ∙ append-nil (held_on old n));
      fit = λ above fit. fit;
    }

pub loop-first-preserved : goal.loop-first-preserved
loop-first-preserved c =
    let rows = c.args.rows.now in
    let wanted = c.args.wanted in
    let period = c.args.period.now in
    let legs = c.args.legs.now in
    let old = c.args.parts.now.items in
    let l = c.loop-first in
    let next = c.next_cut-next.result in
    let part = c.part_of-part.result in
    let made = c.in_ok-made.made in
    let day : c.first-in-loop-first.result ≡ l.first =
    c.first-in-loop-first.ensures.value ∙ c.part_of-part.ensures.first_is in
    let valued : made ≡ moved_flight rows wanted l.first legs =
    c.in_ok-made.ensures.value ∙ ap (λ (d : ℕ). moved_flight rows wanted d legs) day in
    let short : shift_of rows wanted l.first legs ≤ 2 =
    subst (λ (d : ℕ). shift_of rows wanted d legs ≤ 2) day c.of.ensures.shift in
    let even = c.next_cut-next.ensures.even wanted short in
    let push = c.in_ok-push.ensures.items in
    record {
      from = omega arith;
      to = omega arith;
      held = λ n.
          ap (λ (ps : List MovedPiece). held_on ps n) push
          ∙ held_on-more l.parts.items (part, made) n
          ∙ ap (λ (x : List MovedFlight). x ++ held_on ((part, made) ∷ []) n) (l.invariant.held n)
          ∙ append_assoc (held_on old n) (before_day rows wanted period legs l.first n)
          (held_on ((part, made) ∷ []) n)
          ∙ ap (λ (x : List MovedFlight). held_on old n ++ x)
          (part_more rows wanted period legs l.first next part made c.part_of-part.ensures
          l.invariant.from c.next_cut-next.ensures.from (omega arith) valued even n);
      fit = λ above fit.
          subst (AllByRecursion IsFit) (sym push)
          (all_both IsFit l.parts.items ((part, made) ∷ []) (l.invariant.fit above fit) (
            record {
              short = c.in_ok-made.ensures.short;
              in_order = subst (λ (m : MovedFlight). Above 0 m.legs) (sym valued)
                  (flight_order rows wanted l.first legs above);
            },
            tt,
          ));
    }

pub returns-clause-held : goal.returns-clause-held
returns-clause-held c = λ n.
    let period = c.args.period.now in
    let l = c.loop-first in
    l.invariant.held n
    ∙ ap (λ (x : List MovedFlight). held_on c.args.parts.now.items n ++ x)
    (all_before c.args.rows.now c.args.wanted period c.args.legs.now l.first n (omega arith))

pub returns-clause-fit : goal.returns-clause-fit
returns-clause-fit c = λ above fit. c.loop-first.invariant.fit above fit
