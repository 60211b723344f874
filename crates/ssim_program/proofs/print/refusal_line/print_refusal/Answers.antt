-- The line is its head, what is named and its end.
use Rattle.std.proofs.Common.{◌∷◌, [], rules}
use Rattle.ssim_program.specs.print.Refusal.{named_text, refusal_file, refusal_head, refusal_place, refusal_text}
use Rattle.ssim_program.proofs.Printers.{breaks_first, breaks_more, grows_more, prints_then}
use Rattle.ssim_program.proofs.print.refusal_line.print_refusal.Goals as goal

pub returns-in_err-put_head : goal.returns-in_err-put_head
returns-in_err-put_head g c =
    let r = c.args.refusal.now in
    let head = breaks_first (refusal_head r) (named_text (refusal_file r) (refusal_place r)) c.args.err.now c.put_head.new.err c.in_err-put_head.ensures.1 in
    let broken = breaks_first (refusal_text r) (10 ∷ []) c.args.err.now c.put_head.new.err head in
    search rules

pub returns-in_err-put_named : goal.returns-in_err-put_named
returns-in_err-put_named g c =
    let r = c.args.refusal.now in
    let text = breaks_more (refusal_head r) (named_text (refusal_file r) (refusal_place r)) c.args.err.now c.put_head.new.err c.put_named.new.err
    c.in_ok-put_head.ensures c.in_err-put_named.ensures.1 in
    let broken = breaks_first (refusal_text r) (10 ∷ []) c.args.err.now c.put_named.new.err text in
    search rules

pub returns : goal.returns
returns g c =
    let r = c.args.refusal.now in
    let text = grows_more (refusal_head r) (named_text (refusal_file r) (refusal_place r)) c.args.err.now c.put_head.new.err c.put_named.new.err
    c.in_ok-put_head.ensures c.in_ok-put_named.ensures in
    prints_then (refusal_text r) (10 ∷ []) c.args.err.now c.put_named.new.err c.print_all.new.out c.print_all.result text c.print_all.ensures
