use Rattle.std.proofs.Common.{◌≡◌, ◌<◌, ℕ, List, Bool, length, sym, ap, ◌∙◌, arith}
use Rattle.std.proofs.lemmas.Grind.{common_steps}
use Rattle.std.proofs.lemmas.Slice.Eq.{slice_eq-Decides}
use Rattle.std.proofs.lemmas.Bool.Decides.{Decides-eqb}
use Rattle.ssim_values.specs.DayMask.{SpellsDays, digits_of, digits_in}
use Rattle.ssim_values.proofs.DaysLemmas.{digits_in-spelled}
use Rattle.ssim_values.proofs.day_mask.read_days.Goals as goal

-- the digits that were found are those of the days that the text spells
found : (days : List Bool) (digits text : List ℕ) → digits ≡ digits_of days → days ≡ digits_in text → (spelled : List Bool) → SpellsDays spelled text → digits ≡ digits_of spelled
found days digits text e is spelled p = e ∙ ap digits_of (is ∙ digits_in-spelled spelled text p.seven p.digits)

pub returns-then-is_empty-2-clause-none : goal.returns-then-is_empty-2-clause-none
returns-then-is_empty-2-clause-none c = λ days p.
    let e = found _ _ c.args.text.now c.digits-digits.ensures c.days_in-days.ensures days p in
    let some : 0 < length c.digits-digits.result.items = rw e p.some in
    grind (arith, common_steps)

pub returns-else-eq-clause-none : goal.returns-else-eq-clause-none
returns-else-eq-clause-none c = λ days p.
    let e = found _ _ c.args.text.now c.digits-digits.ensures c.days_in-days.ensures days p in
    let same : c.as_slice.result.now ≡ c.as_slice-2.result.now = c.as_slice.ensures.value ∙ e ∙ sym p.digits ∙ sym (c.as_slice-2.ensures.value ∙ c.nonblank.ensures) in
    let equal = (slice_eq-Decides Decides-eqb _ _ _ c.eq.ensures).1 same in
    let both = sym c.if-eq.false ∙ equal in
    cc
