-- A text that is the canonical text of the message that it spells.
use Rattle.std.proofs.Common.{◌∙◌, nat_eq, subst, sym}
use Rattle.std.proofs.lemmas.Bool.{not-false}
use Rattle.std.specs.Cmp.Lexicographic.{pointwise, same_text}
use Rattle.ssim_text.specs.Spelling.{SpellsMessage}
use Rattle.ssim_held.proofs.desk_file_reader.saved_texts.read_canonical.Goals as goal

pub returns-else-ne-clause-some : goal.returns-else-ne-clause-some
returns-else-ne-clause-some c =
    let written = c.text.result.now in
    let same = not-false (pointwise nat_eq written c.args.text.now) (sym c.ne.ensures ∙ c.if-ne.false) in (
      subst (SpellsMessage c.in-Ok.message) c.text.ensures.written c.text.ensures.spells,
      sym (same_text written c.args.text.now (sym same)) ∙ c.text.ensures.written,
    )
