-- What is written is what is held.
use Rattle.std.proofs.Common.{subst}
use Rattle.ssim_base.specs.clauses.Sinks.{Puts}
use Rattle.ssim_held.specs.File.{desk_file}
use Rattle.ssim_desk.specs.clauses.Desk.{ScheduledDesk}
use Rattle.ssim_desk.proofs.desk.Desk.save.Goals as goal

pub returns-clause-puts : goal.returns-clause-puts
returns-clause-puts g c =
    subst (λ (d : ScheduledDesk). Puts (desk_file d.seen.base d.seen.held)
    (g.W.Sink.state c.args.out.now) (g.W.Sink.state c.save.new.out) c.save.result) c.self.view_is
    c.save.ensures.puts
