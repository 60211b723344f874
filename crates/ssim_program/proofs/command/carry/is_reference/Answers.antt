-- References in the same place of their order are the same.
use Rattle.std.proofs.Common.{◌∙◌, refl, sym, ap}
use Rattle.ssim_text.specs.declared.reference.Reference.{Reference}
use Rattle.ssim_held.proofs.Entries.{self_equal}
use Rattle.ssim_held.proofs.References.{reference_apart}
use Rattle.ssim_held.specs.Held.{reference_cmp}
use Rattle.ssim_program.proofs.command.carry.is_reference.Goals as goal

pub returns-in-Equal : goal.returns-in-Equal
returns-in-Equal c = (
  λ yes. reference_apart c.args.one.now c.args.other.now (sym c.order.ensures ∙ c.in-Equal.is),
  λ same. refl,
)

pub returns-in_default : goal.returns-in_default
returns-in_default c = (
  λ never. absurd cc,
  λ same. absurd
      (c.in_default.not-Equal (c.order.ensures
      ∙ ap (λ (q : Reference). reference_cmp c.args.one.now q) (sym same)
      ∙ self_equal c.args.one.now)),
)
