-- A message that means the same is taken or refused as its text; another one is left.
use Rattle.std.proofs.Common.{◌≡◌, Result, Err, IfErr, Ok, IfOk, false, true, refl, rules, sym, subst}
use Rattle.std.proofs.Common.{◌∙◌}
use Rattle.ssim_text.specs.Message.{MessageValue}
use Rattle.ssim_text.specs.Spelling.{SpellsMessage}
use Rattle.ssim_text.specs.declared.reference.Reference.{Reference}
use Rattle.ssim_held.specs.declared.fault.DeskFault.{DeskFault}
use Rattle.ssim_desk.specs.declared.desk.Took.{Took}
use Rattle.ssim_program.specs.Desks.{took_printed}
use Rattle.ssim_program.specs.internal.Carry.{Carries, RefusesOne}
use Rattle.ssim_program.specs.declared.print.printed_line.PrintedLine.{PrintedLine}
use Rattle.ssim_program.proofs.Carrying.{taken_carries, taken_refuses}
use Rattle.ssim_program.proofs.command.carry.carry_one.Goals as goal

-- what a result says if it is known
of_ok : (P : Took × Reference → Type 0) (r : Result (Took × Reference) DeskFault) (t : Took
    × Reference) → r ≡ Ok t → IfOk r P → P t
of_ok P r t is h = subst (λ (x : Result (Took × Reference) DeskFault). IfOk x P) is h

of_err : (P : DeskFault → Type 0) (r : Result (Took × Reference) DeskFault) (why : DeskFault)
    → r ≡ Err why → IfErr r P → P why
of_err P r why is h = subst (λ (x : Result (Took × Reference) DeskFault). IfErr x P) is h

pub returns-in_err-took-clause-why : goal.returns-in_err-took-clause-why
returns-in_err-took-clause-why c = λ theirs is.
    let e = c.args.held.now in let before = c.args.desk.now in let why = c.in_err-took.field-0.0 in
    let means = (c.in_ok-means_the_same.ensures before.base theirs c.requires is).0 c.if-branch.true in
    let spelt : SpellsMessage e.message c.text.result.now =
    subst (λ (m : MessageValue). SpellsMessage m c.text.result.now) c.message.ensures
    c.text.ensures.spells in
    let result : c.from_residual-in_err-took.result ≡ Err why = search rules in
    rw result (of_err (RefusesOne theirs before e) c.take.result why c.in_err-took.was
    (taken_refuses theirs before c.take.new.self e c.text.result.now is means spelt c.take.result
    c.take.ensures.takes))

pub returns-in_ok-took-clause-done : goal.returns-in_ok-took-clause-done
returns-in_ok-took-clause-done c = λ theirs is.
    let e = c.args.held.now in let before = c.args.desk.now in
    let means = (c.in_ok-means_the_same.ensures before.base theirs c.requires is).0 c.if-branch.true in
    let spelt : SpellsMessage e.message c.text.result.now =
    subst (λ (m : MessageValue). SpellsMessage m c.text.result.now) c.message.ensures
    c.text.ensures.spells in
    let carries =
    of_ok (λ t. Carries theirs before e (took_printed t.0 t.1) c.take.new.self) c.take.result
    (c.in_ok-took.took, c.in_ok-took.reference) c.in_ok-took.was
    (taken_carries theirs before c.take.new.self e c.text.result.now is means spelt c.take.result
    c.take.ensures.takes c.take.ensures.base) in
    subst (λ (p : PrintedLine). Carries theirs before e p c.take.new.self) (sym c.printed.ensures)
    carries

pub returns-else-branch-clause-done : goal.returns-else-branch-clause-done
returns-else-branch-clause-done c = λ theirs is.
    let same = c.in_ok-means_the_same.ensures c.args.desk.now.base theirs c.requires is in (
      c.reference.ensures,
      λ means. let clash : false ≡ true = sym c.if-branch.false ∙ same.1 means in
          absurd cc,
      refl,
    )
