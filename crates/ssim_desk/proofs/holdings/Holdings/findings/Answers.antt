-- There are findings for each message that is held.
use Rattle.std.proofs.Common.{subst}
use Rattle.ssim_base.proofs.Results.{if_ok}
use Rattle.ssim_held.specs.Entries.{AreEntries, DeskSeen}
use Rattle.ssim_desk.proofs.Meant.{has_findings}
use Rattle.ssim_desk.proofs.holdings.Holdings.findings.Goals as goal

pub returns-clause-finds : goal.returns-clause-finds
returns-clause-finds c =
    if_ok c.lines_found.result (λ lines is.
    has_findings c.args.self.now
    (subst (λ (t : DeskSeen). AreEntries t.base.records t.held) c.self.view_is c.self.invariant))
    c.lines_found.ensures
