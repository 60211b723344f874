-- The base, the texts and the last line, one after another, and then what the buffer holds.
use Rattle.std.proofs.Common.{[], Result, Ok, Err, refl}
use Rattle.ssim_base.proofs.SinkLemmas.{all_fail, from_empty, next_breaks, next_put, puts_all}
use Rattle.ssim_base.proofs.SinkLemmas.{puts_then}
use Rattle.ssim_held.proofs.FileParts.{desk_file-split}
use Rattle.ssim_held.proofs.desk_file_writer.put_desk.Goals as goal

pub returns-in_err-put_base-clause-puts : goal.returns-in_err-put_base-clause-puts
returns-in_err-put_base-clause-puts g c =
    let split = desk_file-split c.args.records.now c.args.rows.now c.args.held.now in
    let before = from_empty _ (g.W.Sink.state c.args.out.now) c.new-block.ensures in
    all_fail _ _ _ c.from_residual.result c.from_residual.ensures.0
    (next_breaks c.new-block.result _ _ split before c.in_err-put_base.ensures.puts)

pub returns-in_err-put_texts-clause-puts : goal.returns-in_err-put_texts-clause-puts
returns-in_err-put_texts-clause-puts g c =
    let split = desk_file-split c.args.records.now c.args.rows.now c.args.held.now in
    let before = from_empty _ (g.W.Sink.state c.args.out.now) c.new-block.ensures in
    let base = next_put c.new-block.result _ _ split before c.in_ok-put_base.ensures.puts in
    all_fail _ _ _ c.from_residual-in_err-put_texts.result
    c.from_residual-in_err-put_texts.ensures.0
    (next_breaks c.put_base.new.block _ _ refl base c.in_err-put_texts.ensures.puts)

pub returns-in_err-put_bytes-clause-puts : goal.returns-in_err-put_bytes-clause-puts
returns-in_err-put_bytes-clause-puts g c =
    let split = desk_file-split c.args.records.now c.args.rows.now c.args.held.now in
    let before = from_empty _ (g.W.Sink.state c.args.out.now) c.new-block.ensures in
    let base = next_put c.new-block.result _ _ split before c.in_ok-put_base.ensures.puts in
    let texts = next_put c.put_base.new.block _ _ refl base c.in_ok-put_texts.ensures.puts in
    let failed : Result (Unit {0}) (Unit {0}) = Err tt in
    all_fail _ _ _ c.from_residual-in_err-put_bytes.result
    c.from_residual-in_err-put_bytes.ensures.0
    (puts_then _ _ [] _ _ _ failed texts c.in_err-put_bytes.ensures.puts)

pub returns-clause-puts : goal.returns-clause-puts
returns-clause-puts g c =
    let split = desk_file-split c.args.records.now c.args.rows.now c.args.held.now in
    let before = from_empty _ (g.W.Sink.state c.args.out.now) c.new-block.ensures in
    let base = next_put c.new-block.result _ _ split before c.in_ok-put_base.ensures.puts in
    let texts = next_put c.put_base.new.block _ _ refl base c.in_ok-put_texts.ensures.puts in
    let done : Result (Unit {0}) (Unit {0}) = Ok tt in
    puts_all _ _ _ _ _ c.flush.result
    (puts_then _ _ c.put_bytes.new.block _ _ _ done texts c.in_ok-put_bytes.ensures.puts)
    c.flush.ensures.puts
