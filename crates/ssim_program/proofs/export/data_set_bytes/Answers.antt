-- The bytes were empty, so they have the export, which is read as itself.
use Rattle.std.proofs.Common.{◌≡◌, [], List, Option, Some, rules, subst, sym, ℕ}
use Rattle.std.specs.Io.KnownBytes.{Appends}
use Rattle.ssim_program.specs.Exports.{ReadsAsItself}
use Rattle.ssim_program.proofs.Again.{reads_itself}
use Rattle.ssim_program.proofs.export.data_set_bytes.Goals as goal

taken_whole : (old new : Option (List ℕ)) (bytes taken : List ℕ) → old ≡ Some []
    → new ≡ Some taken → Appends old new bytes → ReadsAsItself bytes → ReadsAsItself taken
taken_whole old new bytes taken empty whole appends reads =
    let from_empty = subst (λ (o : Option (List ℕ)). Appends o new bytes) empty appends in
    let is = subst (λ (o : Option (List ℕ)). Appends (Some []) o bytes) whole from_empty in
    subst ReadsAsItself (sym is) reads

pub returns-in-Ok-clause-again : goal.returns-in-Ok-clause-again
returns-in-Ok-clause-again c =
    let back = c.in-Ok.ensures.reads_back in
    taken_whole _ _ back.2 _ (search rules) (search rules) back.3
    (reads_itself back.0 _ back.2 back.4)
