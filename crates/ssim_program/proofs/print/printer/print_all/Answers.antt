-- The bytes are put, and then the printer is flushed.
use Rattle.ssim_program.proofs.Printers.{flushes}
use Rattle.ssim_program.proofs.print.printer.print_all.Goals as goal

pub returns : goal.returns
returns g c = flushes c.args.bytes.now c.args.out.now c.put_part.new.out c.flush.new.self c.flush.result c.in_ok-put_part.ensures c.flush.ensures
