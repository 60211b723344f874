use Rattle.std.proofs.Common.{refl, take, arith, ◌-◌}
use Rattle.ssim_records.proofs.Windows.{window_after, same_ahead}
use Rattle.ssim_records.proofs.window.Window.fetch.Goals as goal

pub returns-clause-ahead : goal.returns-clause-ahead
returns-clause-ahead g c =
    let i = c.self.inside in
    same_ahead c.args.self.now _ (take c.in_ok-n.n c.fetch.new.into) _ _
    (rw (← c.self.view_is) (window_after i.bytes c.copy_within.new.self c.fetch.new.into i.start i.end (i.end - i.start) c.in_ok-n.n _ c.copy_within.ensures.after refl c.self.invariant.0 (omega arith) c.in_ok-n.ensures.bound.0))
    c.in_ok-n.ensures.bytes.0
