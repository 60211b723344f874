-- Which reference comes after all messages that are held.
use Rattle.std.specs.Prelude.{◌≡◌, Option, Some, None, List, [], ◌∷◌}
use Rattle.std.specs.List.{AllByRecursion}
use Rattle.std.specs.declared.cmp.Ordering.TheVariants.{Less}
use Rattle.ssim_text.specs.declared.reference.Reference.{Reference}
use Rattle.ssim_held.specs.Entries.{Entry}
use Rattle.ssim_held.specs.Held.{reference_cmp}

-- the reference comes after each message's
abbrev pub Follows : Reference → List Entry → Type 0
Follows reference entries = AllByRecursion (λ e. reference_cmp e.reference reference ≡ Less) entries

-- the reference of the last message, which is the greatest one of messages in order of reference
abbrev pub last_reference : List Entry → Option Reference
last_reference [] = None
last_reference (e ∷ []) = Some e.reference
last_reference (e ∷ f ∷ entries) = last_reference (f ∷ entries)

-- the reference does not come after each message's, the greatest of which is `last`
abbrev pub RefusesOrder : Reference → List Entry → Reference → Type 0
RefusesOrder reference entries last =
    (Follows reference entries → ⊥) × (last_reference entries ≡ Some last)
