-- The bytes are held; or the sink fails at the buffer's own bytes or at these; or these follow the
-- buffer's own into the sink.
use Rattle.std.proofs.Common.{◌≡◌, ◌++◌, ℕ, List, [], ap, sym, subst, ◌∙◌}
use Rattle.ssim_base.specs.Sinks.{Breaks, Grows}
use Rattle.ssim_base.specs.clauses.Sinks.{GrowsUpTo}
use Rattle.ssim_base.proofs.SinkLemmas.{all_put, broken_more, fails, grows_then, held_more}
use Rattle.ssim_base.proofs.SinkLemmas.{then_fails}
use Rattle.ssim_base.proofs.output_buffer.put_bytes.Goals as goal

pub returns-in_err-put_all-clause-puts : goal.returns-in_err-put_all-clause-puts
returns-in_err-put_all-clause-puts g c =
    let block = c.args.block.now in
    let bytes = c.args.bytes.now in
    let old = g.W.Sink.state c.args.out.now in
    let new = g.W.Sink.state c.put_all.new.out in
    fails (block ++ bytes) block old new c.from_residual.result c.from_residual.ensures.0
    (broken_more block bytes old new
    (subst (λ (bs : List ℕ). Breaks bs old new) c.bytes.ensures c.in_err-put_all.ensures))

pub returns-in_err-put_all-2-clause-puts : goal.returns-in_err-put_all-2-clause-puts
returns-in_err-put_all-2-clause-puts g c =
    let block = c.args.block.now in
    let bytes = c.args.bytes.now in
    let old = g.W.Sink.state c.args.out.now in
    let emptied = g.W.Sink.state c.put_all.new.out in
    let new = g.W.Sink.state c.put_all-then-bytes-gt-ROOM.new.out in
    let result = c.from_residual-in_err-put_all-2.result in
    let first = subst (λ (bs : List ℕ). Grows bs old emptied) c.bytes.ensures c.in_ok-put_all.ensures in
    fails (block ++ bytes) block old new result c.from_residual-in_err-put_all-2.ensures.0
    (then_fails [] block bytes old emptied [] new (all_put block old emptied first)
    c.in_err-put_all-2.ensures)

pub returns-then-bytes-gt-ROOM-clause-puts : goal.returns-then-bytes-gt-ROOM-clause-puts
returns-then-bytes-gt-ROOM-clause-puts g c =
    let block = c.args.block.now in
    let bytes = c.args.bytes.now in
    let old = g.W.Sink.state c.args.out.now in
    let emptied = g.W.Sink.state c.put_all.new.out in
    let new = g.W.Sink.state c.put_all-then-bytes-gt-ROOM.new.out in
    let first = subst (λ (bs : List ℕ). Grows bs old emptied) c.bytes.ensures c.in_ok-put_all.ensures in
    subst (λ (held : List ℕ). GrowsUpTo (block ++ bytes) held old new) (sym c.clear.ensures)
    (grows_then block bytes old emptied new first c.in_ok-put_all-2.ensures)

pub returns-clause-puts : goal.returns-clause-puts
returns-clause-puts g c =
    let block = c.args.block.now in
    let bytes = c.args.bytes.now in
    let old = g.W.Sink.state c.args.out.now in
    let new = g.W.Sink.state c.put_all.new.out in
    let first = subst (λ (bs : List ℕ). Grows bs old new) c.bytes.ensures c.in_ok-put_all.ensures in
    let held : c.push-2.new.self ≡ bytes = c.push-2.ensures ∙ ap (λ (bs : List ℕ). bs ++ bytes) c.clear-2.ensures in
    subst (λ (kept : List ℕ). GrowsUpTo (block ++ bytes) kept old new) (sym held)
    (held_more block [] bytes old new (all_put block old new first))
