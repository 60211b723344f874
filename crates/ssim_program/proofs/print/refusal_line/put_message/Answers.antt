-- The reference is its first parts and its originator.
use Rattle.std.proofs.Common.{rules}
use Rattle.ssim_text.specs.Reference.{printed_originator}
use Rattle.ssim_program.specs.internal.Print.{without_originator}
use Rattle.ssim_program.proofs.Printers.{breaks_first, puts_then}
use Rattle.ssim_program.proofs.print.refusal_line.put_message.Goals as goal

pub returns-in_err-put_serials : goal.returns-in_err-put_serials
returns-in_err-put_serials g c =
    let r = c.args.reference.now in
    let broken = breaks_first (without_originator r) (printed_originator r.originator) c.args.err.now c.put_serials.new.err c.in_err-put_serials.ensures.1 in
    search rules

pub returns : goal.returns
returns g c =
    let r = c.args.reference.now in
    puts_then (without_originator r) (printed_originator r.originator) c.args.err.now c.put_serials.new.err c.put_originator.new.err c.put_originator.result
    c.in_ok-put_serials.ensures c.put_originator.ensures
