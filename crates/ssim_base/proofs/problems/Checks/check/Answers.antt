-- A record is refused after those before it.
use Rattle.std.proofs.Common.{List, subst}
use Rattle.ssim_records.specs.declared.record.Record.{Record}
use Rattle.ssim_base.specs.internal.Acceptance.{HasAccepted, IsLeft}
use Rattle.ssim_base.specs.declared.fault.BaseFault.{BaseFault}
use Rattle.ssim_base.specs.declared.problems.Checks.{Checks}
use Rattle.ssim_base.proofs.ProblemChecks.{found-some}
use Rattle.ssim_base.proofs.problems.Checks.check.Goals as goal

pub returns-in-Err-Refused : goal.returns-in-Err-Refused
returns-in-Err-Refused c =
    let e = c.in-Err-Refused in
    let mid : Checks = record { accepted = c.offer.new.self; alone = c.args.self.now.alone } in
    let left = λ (earlier : List Record) (has : HasAccepted c.args.self.now.accepted earlier).
    subst (λ (x : BaseFault). IsLeft c.offer.new.self c.args.number earlier c.args.one.now x) e.field-0-is (e.ensures.err earlier has) in
    found-some c.args.self.now mid c.pass_invalid.new.self c.args.number c.args.one.now e.number e.refusal c.if-self.false c.if-self.false left c.pass_invalid.ensures
