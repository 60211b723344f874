-- One more record of fill, and then what is left.
use Rattle.std.proofs.Common.{List, ℕ, ◌-◌, ◌++◌, Ok, replicate, subst, sym}
use Rattle.std.specs.List.{flat_map}
use Rattle.ssim_records.specs.Frames.{fill}
use Rattle.ssim_base.specs.Export.{line}
use Rattle.ssim_base.specs.Sinks.{Breaks}
use Rattle.ssim_base.specs.clauses.Sinks.{GrowsUpTo, PutsUpTo}
use Rattle.ssim_base.proofs.SinkLemmas.{broken_more, fails, fill_more, held_after, no_fill}
use Rattle.ssim_base.proofs.SinkLemmas.{part_fails, part_none, part_then}
use Rattle.ssim_base.proofs.output_buffer.put_fill.Goals as goal

pub returns-in_err-make_room : goal.returns-in_err-make_room
returns-in_err-make_room g c =
    let left = c.loop-left.left in
    let block = c.loop-left.block in
    let mid = g.W.Sink.state c.loop-left.out in
    let new = g.W.Sink.state c.make_room.new.out in
    let rest = flat_map line (replicate (left - 1) fill) in
    let broken = part_fails block (line fill) rest mid new
    (broken_more block (line fill) mid new c.in_err-make_room.ensures.puts) in
    c.loop-left.invariant new c.make_room.new.block c.from_residual.result
    (fails (block ++ flat_map line (replicate left fill)) c.make_room.new.block mid new
    c.from_residual.result c.from_residual.ensures.0
    (subst (λ (bs : List ℕ). Breaks (block ++ bs) mid new)
    (sym (fill_more left c.loop-left-test.true)) broken))

pub loop-left-preserved : goal.loop-left-preserved
loop-left-preserved g c after held result later =
    let left = c.loop-left.left in
    let block = c.loop-left.block in
    let kept = c.push_line.new.self in
    let mid = g.W.Sink.state c.loop-left.out in
    let new = g.W.Sink.state c.make_room.new.out in
    let rest = flat_map line (replicate (left - 1) fill) in
    let put = held_after block (line fill) c.make_room.new.block mid new kept c.push_line.ensures
    c.in_ok-make_room.ensures.puts in
    c.loop-left.invariant after held result
    (subst (λ (bs : List ℕ). PutsUpTo (block ++ bs) held mid after result)
    (sym (fill_more left c.loop-left-test.true))
    (part_then block (line fill) rest mid new kept held after result put later))

pub returns : goal.returns
returns g c =
    let block = c.loop-left.block in
    let out = g.W.Sink.state c.loop-left.out in
    c.loop-left.invariant out block (Ok tt)
    (subst (λ (bs : List ℕ). GrowsUpTo (block ++ bs) block out out)
    (sym (no_fill c.loop-left.left c.loop-left-test.false)) (part_none block out))
