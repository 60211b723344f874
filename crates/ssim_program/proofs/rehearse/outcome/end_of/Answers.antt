-- As many messages as the map has entries.
use Rattle.std.proofs.Common.{rules, ◌≡◌, ◌∙◌, List, length, sym, ap, subst}
use Rattle.std.specs.FinMap.{entries}
use Rattle.ssim_held.specs.Entries.{AreRising, Entry, map_of, state_of}
use Rattle.ssim_held.proofs.Entries.{entries-map_of}
use Rattle.ssim_program.proofs.SavedDesks.{length-keyed}
use Rattle.ssim_program.proofs.rehearse.outcome.end_of.Goals as goal

held_count : (held es : List Entry) → held ≡ es → AreRising held
    → length held ≡ length (entries (map_of es))
held_count held es is rising =
    ap length is ∙ sym (ap length (entries-map_of es (subst AreRising is rising)) ∙ length-keyed es)

pub returns-clause-line : goal.returns-clause-line
returns-clause-line c =
    c.line_of.ensures (state_of c.args.desk)
    (held_count c.held-messages.result.now c.args.desk.held c.held-messages.ensures.value
    c.held-messages.ensures.rising) (search rules)
