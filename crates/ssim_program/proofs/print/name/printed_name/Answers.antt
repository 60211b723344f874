-- All characters of the name were added.
use Rattle.std.proofs.Common.{◌∙◌, ap, sym, map-id}
use Rattle.std.specs.List.{flat_map}
use Rattle.std.proofs.lemmas.Iterator.{YieldsList-from_chars}
use Rattle.std.proofs.lemmas.Iterator.Consumers.{YieldsList-end}
use Rattle.ssim_program.specs.print.Names.{printed_char}
use Rattle.ssim_program.proofs.print.name.printed_name.Goals as goal

pub returns : goal.returns
returns c =
    let done = YieldsList-end (YieldsList-from_chars c.args.name.now c.utf8.name cc) c.loop-c.yielded _ c.loop-c.yielded_by _ _ c.in-None.is c.next.ensures.steps in
    c.loop-c.invariant ∙ ap (flat_map printed_char) (sym (map-id c.loop-c.yielded) ∙ done.0)
