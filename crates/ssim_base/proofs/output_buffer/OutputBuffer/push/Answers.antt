-- The bytes are copied after what is held.
use Rattle.std.proofs.Common.{◌≡◌, ◌≤◌, ◌+◌, ◌-◌, ◌++◌, ℕ, List, length, ap, ◌∙◌, arith}
use Rattle.std.proofs.lemmas.Grind.{common_steps}
use Rattle.std.proofs.lemmas.Slice.{take-put_mid}
use Rattle.ssim_base.proofs.output_buffer.OutputBuffer.push.Goals as goal

pub returns : goal.returns
returns c =
    let end = c.self.inside.end in
    let count = length c.args.bytes.now in
    let copied = c.copy_from_slice.new.self in
    let after = c.copy_from_slice.ensures.after in
    let len : length copied ≡ count = ap length after in
    let room : end + count ≤ length c.self.inside.bytes = grind (arith, common_steps, c.requires, c.self.told, c.self.invariant, ap length c.self.view_is) in
    take-put_mid end (end + count - end) c.self.inside.bytes copied (end + count) (omega (arith, len)) (omega (arith, room))
    ∙ ap (λ (bs : List ℕ). bs ++ copied) c.self.view_is
    ∙ ap (λ (bs : List ℕ). c.args.self.now ++ bs) after
