-- What the intake holds in the end is what the desk has received.
use Rattle.std.proofs.Common.{◌∙◌, Option, ap, map, subst, sym}
use Rattle.ssim_held.specs.Entries.{AreRising, DeskSeen}
use Rattle.ssim_program.specs.Files.{Files}
use Rattle.ssim_program.specs.Receiving.{ReceivesEach}
use Rattle.ssim_program.specs.print.Effects.{with_effects}
use Rattle.ssim_program.proofs.KeptBase.{received_base}
use Rattle.ssim_program.proofs.command.receive.received_by.Goals as goal

pub returns-clause-ok : goal.returns-clause-ok
returns-clause-ok g c =
    let names = map (λ t. t.now) c.args.names.now in
    let before = c.in_ok-desk.desk in
    let has = c.in_ok-receipts.ensures.received in
    let form = c.args.form in
    let lines = c.in_ok-lines.ensures form.csv has.0 has.2 in
    let files = g.S.Store.files c.args.store.now in
    let received =
    subst (λ (d : DeskSeen). ReceivesEach files names before has.0 d) (sym c.in_ok-desk-2.ensures)
    (subst (λ (f : Option Files). ReceivesEach f names before has.0 c.receive_files.new.desk)
    c.open_before.ensures.same has.1) in
    let base = received_base files names before has.0 c.in_ok-desk-2.desk received in
    record {
      before = before;
      reads = c.in_ok-desk.ensures.ok;
      receipts = has.0;
      received = received;
      rising = subst AreRising c.held.ensures.value c.held.ensures.rising;
      found_is = c.has_refused-found.ensures form.csv has.0 has.2;
      lines_are = c.in_ok-push_effects.ensures form.effects before c.in_ok-desk.ensures.kept
          (sym base)
          ∙ ap (with_effects form.effects before c.in_ok-desk-2.desk) lines.0;
      texts_are = lines.1;
    }
