-- The bytes are given from the first that was not given.
use Rattle.std.proofs.Common.{ap, arith, length}
use Rattle.ssim_cases.proofs.Given.{gives}
use Rattle.ssim_cases.proofs.memory_file.MemoryFileSource.fetch.Goals as goal

pub returns-clause-bytes : goal.returns-clause-bytes
returns-clause-bytes c =
    let same = ap length c.deref.ensures.value in
    rw (← c.deref.ensures.value) (gives c.deref.result.now c.fetch.new.into c.fetch.new.self.now c.args.self.now.given c.min-given.result c.in_ok-n.n (omega (arith, same, c.min-given.ensures, c.len.ensures, c.deref.ensures.len)) c.in_ok-n.ensures.bound.0 c.in_ok-n.ensures.bytes.0 c.in_ok-n.ensures.bytes.1)
