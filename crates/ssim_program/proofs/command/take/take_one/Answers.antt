-- The reference is the reference of the message that the text spells.
use Rattle.std.proofs.Common.{◌≡◌, ℕ, List, Result, Ok, Err, IfErr, IfOk}
use Rattle.ssim_text.specs.declared.reference.Reference.{Reference}
use Rattle.ssim_held.specs.Entries.{DeskSeen, map_of, state_of}
use Rattle.ssim_held.specs.declared.fault.DeskFault.{DeskFault}
use Rattle.ssim_desk.specs.Desk.{take_answer}
use Rattle.ssim_desk.specs.Steps.{RefusesText, Takes}
use Rattle.ssim_desk.specs.declared.desk.Took.{Took}
use Rattle.ssim_desk.specs.declared.desk.Took.TheVariants as took
use Rattle.ssim_program.specs.Desks.{IsTaken}
use Rattle.ssim_program.proofs.command.take.take_one.Goals as goal

taken : (r : Result (Took × Reference) DeskFault) (old new : DeskSeen) (text : List ℕ)
    → Takes (state_of old) text (take_answer r) (map_of new.held) → new.base ≡ old.base
    → IfOk r (λ t. IsTaken old text t.0 t.1 new)
taken (Ok (took.Taken, reference)) old new text takes base =
    record { message = takes.message; says = takes.says; takes = takes; base = base }
taken (Ok (took.Repeated, reference)) old new text takes base =
    record { message = takes.0.message; says = takes.0.says; takes = takes; base = base }
taken (Err e) old new text takes base = tt

refused : (r : Result (Took × Reference) DeskFault) (old new : DeskSeen) (text : List ℕ)
    → Takes (state_of old) text (take_answer r) (map_of new.held)
    → IfErr r (RefusesText (state_of old) text)
refused (Ok t) old new text takes = tt
refused (Err e) old new text takes = takes.0

pub returns-clause-done : goal.returns-clause-done
returns-clause-done c =
    taken c.take.result c.args.desk.now c.take.new.self c.args.text.now c.take.ensures.takes
    c.take.ensures.base

pub returns-clause-refused : goal.returns-clause-refused
returns-clause-refused c =
    refused c.take.result c.args.desk.now c.take.new.self c.args.text.now c.take.ensures.takes
