-- One more desk has its export and its line.
use Rattle.std.proofs.Common.{rules, ◌≡◌, ◌∙◌, ◌++◌, [], ◌∷◌, List, length, map, map-id, sym, ap, subst}
use Rattle.std.proofs.lemmas.Iterator.Adapters.{YieldsList-from_vec}
use Rattle.std.proofs.lemmas.Iterator.Consumers.{YieldsList-end}
use Rattle.ssim_held.specs.Entries.{DeskSeen, state_of}
use Rattle.ssim_program.specs.rehearse.Rehearsal.{AreExports, desk_lines}
use Rattle.ssim_program.specs.internal.Rehearse.{outcome_of}
use Rattle.ssim_program.proofs.Rehearsing.{ends_next}
use Rattle.ssim_program.proofs.rehearse.outcome.ends_of.Goals as goal

pub loop-desk-preserved : goal.loop-desk-preserved
loop-desk-preserved c =
    let old = c.loop-desk.invariant in
    let before : c.len.result ≡ length c.loop-desk.lines.items = search rules in
    let next = ends_next state_of outcome_of c.loop-desk.yielded c.loop-desk.outcomes.items _
    c.loop-desk.lines.items _ c.in-Some.desk c.in_ok-line.outcome c.in_ok-line.line c.len.result
    old.are old.lines old.count
    c.in_ok-line.ensures.export before c.in_ok-line.ensures.line c.in_ok-push.ensures.items
    c.in_ok-push-2.ensures.items in
    record { are = next.0; lines = next.1; count = next.2 }

pub returns : goal.returns
returns c =
    let old = c.loop-desk.invariant in
    let all : c.loop-desk.yielded ≡ c.args.desks.items =
    sym (map-id _) ∙ (YieldsList-end
    (YieldsList-from_vec c.args.desks.items (search rules) (search rules)) c.loop-desk.yielded _
    c.loop-desk.yielded_by _ c.next.new.self c.in-None.is c.next.ensures.steps).0 in
    let outcomes = map outcome_of c.loop-desk.outcomes.items in
    record {
      outcomes = outcomes;
      exports =
          subst (λ (desks : List DeskSeen). AreExports (map state_of desks) outcomes) all old.are;
      last = c.verdict.result;
      verdict = search rules;
      all =
          c.in_ok-push-3.ensures.items ∙ ap (λ lines. lines ++ c.verdict.result ∷ [])
          (old.lines ∙ ap (λ (desks : List DeskSeen). desk_lines 1 (map state_of desks) outcomes)
          all);
    }
