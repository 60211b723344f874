-- The results of the run have their lines, and the desks after the run have theirs.
use Rattle.std.proofs.Common.{rules, ◌≡◌, ◌∙◌, ◌++◌, List, drop, length, map, take, ap, subst, arith}
use Rattle.std.proofs.Math.Seq.{take-append_seam}
use Rattle.ssim_held.specs.Entries.{DeskSeen, state_of}
use Rattle.ssim_program.specs.rehearse.Rehearsal.{HasEnds}
use Rattle.ssim_program.proofs.Scripted.{each_fresh, length-map-one}
use Rattle.ssim_program.proofs.rehearse.lines.rehearsal_of.Goals as goal

pub returns : goal.returns
returns c =
    let desks = c.deref_mut.result.now in
    let after = c.run_steps.new.desks in
    let size : c.in_ok-desks.desks.len ≡ length after =
    omega (arith, c.run_steps.auto.desks, c.deref_mut.ensures.len) in
    let same : take c.in_ok-desks.desks.len (after ++ drop (length after) c.in_ok-desks.desks.items)
    ≡ after =
    ap (λ n. take n (after ++ drop (length after) c.in_ok-desks.desks.items)) size
    ∙ take-append_seam after (drop (length after) c.in_ok-desks.desks.items) in
    record {
      start = map state_of desks;
      number = length-map-one state_of desks ∙ search rules;
      each = each_fresh c.args.empty desks c.requires.fresh (search rules);
      answers = c.in_ok-answers.answers.items;
      after = map state_of after;
      runs = search rules;
      end_lines = c.in_ok-ends.ends.items;
      ends =
          subst (λ (desks : List DeskSeen). HasEnds (map state_of desks) c.in_ok-ends.ends.items)
          same c.in_ok-ends.ensures;
      all = search rules;
    }
