-- The first bytes are copied, and the others move to the beginning.
use Rattle.std.proofs.Common.{sym, arith}
use Rattle.ssim_records.proofs.FirstBytes.{gives}
use Rattle.ssim_records.proofs.peekable.Beginning.give.Goals as goal

pub returns-clause-bytes : goal.returns-clause-bytes
returns-clause-bytes c =
    let i = c.self.inside in
    gives i.bytes c.copy_from_slice.new.self c.copy_within.new.self c.args.into.now c.args.self.now i.len c.min-n.result
    (omega (arith, c.min-n.ensures)) (omega (arith, c.self.invariant)) c.copy_from_slice.ensures.after c.copy_within.ensures.after (sym c.self.view_is)
