-- The parts are the two numbers, each after its label.
use Rattle.std.proofs.Common.{◌≡◌, ◌∙◌, ◌++◌, ℕ, List, [], append-nil, append_assoc, codes, decimal, subst}
use Rattle.ssim_program.specs.internal.Print.{PrintsPart}
use Rattle.ssim_program.proofs.print.refusal_line.put_column.Goals as goal

parts_of : (number column : ℕ) (first second : List ℕ) → first ≡ decimal number → second ≡ decimal column
    → codes " record " ++ (first ++ (codes " column " ++ (second ++ []))) ≡ codes " record " ++ decimal number ++ codes " column " ++ decimal column
parts_of number column first second n c = rw (n, c) (simp (append_assoc, append-nil))

pub returns : goal.returns
returns g c =
    let is = parts_of c.args.number c.args.column c.as_bytes-number.result.now c.as_bytes-column.result.now
    (c.as_bytes-number.ensures.value ∙ c.format.ensures.text) (c.as_bytes-column.ensures.value ∙ c.format-2.ensures.text) in
    subst (λ (bs : List ℕ). PrintsPart bs c.args.err.now c.put_parts.new.out c.put_parts.result) is c.put_parts.ensures
