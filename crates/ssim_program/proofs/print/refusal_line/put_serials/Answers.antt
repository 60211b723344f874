-- The parts are those of the reference, each after a blank.
use Rattle.std.proofs.Common.{◌≡◌, ◌∙◌, ◌++◌, ◌∷◌, ℕ, List, [], append-nil, append_assoc, subst}
use Rattle.ssim_text.specs.Canonical.{five_digits, three_digits}
use Rattle.ssim_text.specs.Lines.{kind_text}
use Rattle.ssim_text.specs.declared.reference.Reference.{Reference}
use Rattle.ssim_values.specs.Day.{day_text}
use Rattle.ssim_program.specs.internal.Print.{PrintsPart, without_originator}
use Rattle.ssim_program.proofs.print.refusal_line.put_serials.Goals as goal

parts_of : (r : Reference) (kind date group serial : List ℕ) → kind ≡ kind_text r.kind → date ≡ day_text r.date → group ≡ five_digits r.group → serial ≡ three_digits r.serial
    → 32 ∷ (kind ++ (32 ∷ (date ++ (32 ∷ (group ++ (32 ∷ (serial ++ []))))))) ≡ without_originator r
parts_of r kind date group serial k d g s = rw (k, d, g, s) (simp (append_assoc, append-nil))

pub returns : goal.returns
returns g c =
    let is = parts_of c.args.reference.now c.as_bytes-kind.result.now c.write-date.result c.group_digits-group.result c.serial_digits-serial.result
    (c.as_bytes-kind.ensures.value ∙ c.name.ensures) c.write-date.ensures.value c.group_digits-group.ensures c.serial_digits-serial.ensures in
    subst (λ (bs : List ℕ). PrintsPart bs c.args.err.now c.put_parts.new.out c.put_parts.result) is c.put_parts.ensures
