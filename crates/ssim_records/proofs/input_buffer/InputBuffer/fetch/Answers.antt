-- What the window fetched came.
use Rattle.std.proofs.Common.{◌≡◌, ◌+◌, arith}
use Rattle.ssim_records.proofs.InputBuffers.{gives_fetched}
use Rattle.ssim_records.proofs.input_buffer.InputBuffer.fetch.Goals as goal

pub returns-then-n-room-clause-stops : goal.returns-then-n-room-clause-stops
returns-then-n-room-clause-stops g c =
    let i = c.self.inside in
    let all : i.came + c.in-Ok.n ≡ i.limit + 1 = omega (arith, c.self.invariant.0, c.in-Ok.ensures.ok.0, c.if-n-room.true) in
    rw (← c.self.view_is, ← all) (gives_fetched i.window c.fetch.new.self i.came c.in-Ok.n _ _ c.fetch.ensures.ahead c.in-Ok.ensures.ok.1 c.in-Ok.ensures.count c.in-Ok.ensures.failures)

pub returns-else-n-room-clause-gives : goal.returns-else-n-room-clause-gives
returns-else-n-room-clause-gives g c =
    let i = c.self.inside in
    rw (← c.self.view_is) (gives_fetched i.window c.fetch.new.self i.came c.in-Ok.n _ _ c.fetch.ensures.ahead c.in-Ok.ensures.ok.1 c.in-Ok.ensures.count c.in-Ok.ensures.failures)
