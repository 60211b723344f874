-- The problem of the block is added: of its record, or why it spells none.
use Rattle.std.proofs.Common.{◌≡◌, ◌∙◌, [], ◌∷◌, ◌++◌, Option, Some, None, true≢false, is_some, sym, ap, subst, append-nil}
use Rattle.ssim_records.specs.clauses.Record.{HasSpelt}
use Rattle.ssim_records.specs.declared.record.Record.{Record}
use Rattle.ssim_base.specs.internal.Problems.{Finds}
use Rattle.ssim_base.specs.declared.fault.BaseFault.{BaseFault}
use Rattle.ssim_base.specs.declared.fault.BaseFault.TheVariants.{Read}
use Rattle.ssim_base.proofs.ProblemChecks.{takes-fault, takes-record}
use Rattle.ssim_base.proofs.problems.ProblemReader.take.Goals.{in-Ok+in-Some+in_ok-problem-in-Some, in-Err}
use Rattle.ssim_base.proofs.problems.ProblemReader.take.Goals as goal

pub returns-in_ok-push-clause-takes : goal.returns-in_ok-push-clause-takes
returns-in_ok-push-clause-takes c =
    let old = c.args.self.now in
    let faults = c.push.new.self.items in
    let pushed = c.in_ok-push.ensures.items in
    elim c.match-read.branch [
      | in-Ok+in-Some+in_ok-problem-in-Some w ↦ (
          let found = w.in_ok-problem-in-Some in
          let record' = w.in-Some.record in
          let spells = subst (λ (o : Option Record). HasSpelt o c.args.block.now) w.in-Some.is w.in-Ok.ensures.ok in
          let problem : found.problem ≡ Some c.in-Some-problem.fault = sym w.problem-is ∙ c.in-Some-problem.is in
          let finds = subst (λ (p : Option BaseFault). Finds old.checks w.check.new.self c.args.number record' p) problem found.ensures in
          let added : faults ≡ old.faults.items ++ c.in-Some-problem.fault ∷ [] = rw w.self-is at pushed in
          rw w.self-is (takes-record old.checks w.check.new.self old.faults.items faults c.args.number c.args.block.now record' (Some c.in-Some-problem.fault) spells finds added)
          )
      | in-Err w ↦ (
          let some : Some c.in-Some-problem.fault ≡ Some (Read w.in-Err.fault) = sym c.in-Some-problem.is ∙ w.problem-is in
          let same : c.in-Some-problem.fault ≡ Read w.in-Err.fault = cc in
          let pushed' : faults ≡ old.faults.items ++ c.in-Some-problem.fault ∷ [] = rw w.self-is at pushed in
          let added = subst (λ (f : BaseFault). faults ≡ old.faults.items ++ f ∷ []) same pushed' in
          rw w.self-is (takes-fault old.checks w.pass_invalid.new.self old.faults.items faults c.args.number c.args.block.now w.in-Err.fault w.in-Err.ensures.err w.pass_invalid.ensures added)
          )
    ]

pub returns-in_default-clause-takes : goal.returns-in_default-clause-takes
returns-in_default-clause-takes c =
    let old = c.args.self.now in
    elim c.match-read.branch [
      | in-Ok+in-Some+in_ok-problem-in-Some w ↦ (
          let found = w.in_ok-problem-in-Some in
          let record' = w.in-Some.record in
          let spells = subst (λ (o : Option Record). HasSpelt o c.args.block.now) w.in-Some.is w.in-Ok.ensures.ok in
          let problem : found.problem ≡ None = sym w.problem-is ∙ c.in_default.is in
          let finds = subst (λ (p : Option BaseFault). Finds old.checks w.check.new.self c.args.number record' p) problem found.ensures in
          rw w.self-is (takes-record old.checks w.check.new.self old.faults.items old.faults.items c.args.number c.args.block.now record' None spells finds (sym (append-nil old.faults.items)))
          )
      | in-Err w ↦ (
          let some : Some (Read w.in-Err.fault) ≡ None = sym w.problem-is ∙ c.in_default.is in
          absurd (true≢false (ap is_some some))
          )
    ]
