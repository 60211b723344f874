-- The characters of the airline and the text of the flight are the designator's text, which spells
-- it alone.
use Rattle.std.proofs.Common.{◌∙◌, refl}
use Rattle.ssim_values.proofs.DesignatorLemmas.{SpellsDesignator-unique}
use Rattle.ssim_values.proofs.designator.Designator.write.Goals as goal

pub returns-clause-reads_back : goal.returns-clause-reads_back
returns-clause-reads_back c = λ d p.
    SpellsDesignator-unique d c.args.self _ p (record { is_code = c.characters-text.ensures.code; rest = c.write.result.items; flight = c.write.ensures.spells; spelled = c.push_all.ensures ∙ rw (c.characters-text.ensures.value, c.as_slice.ensures.value) refl })
