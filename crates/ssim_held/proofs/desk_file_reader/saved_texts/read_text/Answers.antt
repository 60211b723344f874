-- The line says how long the text is, and the text is the message's text.
use Rattle.std.proofs.Common.{◌++◌, length, arith, subst}
use Rattle.std.specs.Prelude.{IfNone, Option}
use Rattle.ssim_text.specs.Canonical.{canonical}
use Rattle.ssim_held.specs.Entries.{Entry}
use Rattle.ssim_held.specs.internal.DeskFileReader.{IsNextText, IsTextOf}
use Rattle.ssim_held.proofs.SavedTexts.{element_parts, short_text}
use Rattle.ssim_held.proofs.desk_file_reader.saved_texts.read_text.Goals as goal

pub returns-in_default-elements-clause-err : goal.returns-in_default-elements-clause-err
returns-in_default-elements-clause-err c = λ invalid next later is e.
    let text = canonical next.message in
    let line = c.in-Some.ensures.only (length text) (text ++ later) (short_text next is.spelled) (element_parts c.args.bytes.now later next e) in
    c.in_default-elements.ensures.only (length text) text later line.0 (omega arith) line.1

pub returns-in-None-clause-err : goal.returns-in-None-clause-err
returns-in-None-clause-err c = λ invalid next later is e.
    let records = c.args.data_set.now in
    let text = canonical next.message in
    let line = c.in-Some.ensures.only (length text) (text ++ later) (short_text next is.spelled) (element_parts c.args.bytes.now later next e) in
    let parts = c.in-Some-elements.ensures.only (length text) text later line.0 (omega arith) line.1 in
    let none = subst (λ (o : Option Entry). IfNone o ((x : Entry) → IsNextText c.args.version records c.args.held.now x → IsTextOf records c.in-Some-elements.text.now x → ⊥)) c.in-None.is c.in_ok-next.ensures.none in
    none next is (record { entry = is.entry; spelled = is.spelled; text_is = parts.0 })
