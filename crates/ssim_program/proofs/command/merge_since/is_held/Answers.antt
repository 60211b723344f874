-- What is found under the reference is the message, another one, or nothing.
use Rattle.std.proofs.Common.{◌≡◌, ◌∙◌, List, Some, refl, sym, subst}
use Rattle.std.specs.FinMap.{get}
use Rattle.ssim_held.proofs.Entries.{not_held}
use Rattle.ssim_held.specs.Entries.{AreRising, Entry, map_of}
use Rattle.ssim_held.specs.clauses.Ordered.{IsFound}
use Rattle.ssim_held.specs.declared.lookup.LookUp.{LookUp}
use Rattle.ssim_held.specs.declared.lookup.LookUp.TheVariants.{Absent, Same, Other}
use Rattle.ssim_text.specs.Message.{MessageValue}
use Rattle.ssim_text.specs.declared.reference.Reference.{Reference}
use Rattle.ssim_program.proofs.Carrying.{none_some, some_same}
use Rattle.ssim_program.proofs.command.merge_since.is_held.Goals as goal

-- what is found to be no such message is not held
not_same : (es : List Entry) (r : Reference) (m : MessageValue) (l : LookUp) → AreRising es
    → IsFound es r m l → (l ≡ Same → ⊥) → get (map_of es) r ≡ Some m → ⊥
not_same es r m (Absent at) rising found other held =
    none_some m (sym (not_held es at r rising found) ∙ held)
not_same es r m Same rising found other held = other refl
not_same es r m (Other) rising (x, is, apart) other held = apart (some_same x m (sym is ∙ held))

pub returns-in_default : goal.returns-in_default
returns-in_default c = (
  λ never. absurd cc,
  λ among. absurd (not_same c.args.messages.now c.args.held.now.reference c.args.held.now.message c.look.result
      c.requires
      (subst (λ (r : Reference). IsFound c.args.messages.now r c.args.held.now.message c.look.result)
      c.reference.ensures
      (subst (λ (m : MessageValue). IsFound c.args.messages.now c.reference.result m c.look.result)
      c.message.ensures c.look.ensures))
      c.in_default.not-Same among),
)
