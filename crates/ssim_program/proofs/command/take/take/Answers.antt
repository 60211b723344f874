-- The desk is opened, and its texts are to be taken.
use Rattle.std.proofs.Common.{Option, map, subst, Ok}
use Rattle.ssim_command_line.specs.Line.{Text}
use Rattle.ssim_program.specs.Answers.{take_each}
use Rattle.ssim_program.specs.Desks.{desk_in}
use Rattle.ssim_program.specs.Files.{Files}
use Rattle.ssim_program.proofs.Taking.{takes_then}
use Rattle.ssim_program.proofs.command.take.take.Goals as goal

pub returns-clause-answer : goal.returns-clause-answer
returns-clause-answer g c result takes =
    let old = g.S.Store.files c.args.store.now in let desk = c.in_ok-desk.desk in
    let names = map (λ t. t.now) c.args.names.now in
    takes_then old c.args.effects c.args.file.now c.args.out.now names desk result c.in_ok-place.ensures.held
    (subst (λ (f : Option Files). desk_in f c.args.file.now (Ok desk)) c.hold.ensures.same c.in_ok-desk.ensures.answer)
    (subst (λ (out : Text). take_each old c.args.effects desk out names desk result) c.in_ok-place.ensures.name takes)
