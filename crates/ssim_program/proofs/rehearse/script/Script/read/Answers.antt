-- The first line that is left is the count, and the others are the steps.
use Rattle.std.proofs.Common.{rules, ◌≡◌, ℕ, List, ◌∷◌, map, Err, sym}
use Rattle.ssim_text.specs.Left.{lines_left}
use Rattle.ssim_program.specs.internal.Rehearse.{as_written}
use Rattle.ssim_program.specs.rehearse.Script.{RefusesScript}
use Rattle.ssim_text.specs.declared.lines.Line.{Line}
use Rattle.ssim_program.proofs.Rehearsing.{are_steps}
use Rattle.ssim_program.proofs.Scripted.{refuses_script}
use Rattle.ssim_program.proofs.rehearse.script.Script.read.Goals as goal

seen : Line → ℕ × List ℕ
seen l = (l.number, l.bytes.now)

pub returns-in_err-steps-clause-err : goal.returns-in_err-steps-clause-err
unfolding seen
returns-in_err-steps-clause-err c =
    let refusal = c.in_err-steps.field-0.0 in
    let lines : lines_left c.args.text.now
    ≡ seen c.in-Some.first.now ∷ map seen c.in-Some.others.now = search rules in
    let counts = sym c.in-Some-count_in.ensures.value in
    let why : RefusesScript c.args.text.now refusal = refuses_script seen c.args.text.now
    c.in-Some.first.now c.in-Some.others.now c.in-Some-count_in.count refusal lines counts
    c.in_err-steps.ensures.err in
    let e : c.from_residual-in_err-steps.result ≡ Err refusal = search rules in
    rw e why

pub returns-clause-ok : goal.returns-clause-ok
unfolding seen
returns-clause-ok c = record {
  first = seen c.in-Some.first.now;
  others = map seen c.in-Some.others.now;
  lines = search rules;
  count = sym c.in-Some-count_in.ensures.value;
  steps =
      are_steps seen as_written c.in-Some-count_in.count c.in-Some.others.now
      c.in_ok-steps.steps.items c.in_ok-steps.ensures.ok;
}
