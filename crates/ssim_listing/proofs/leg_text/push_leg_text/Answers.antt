-- The sequence and the columns, one after the other.
use Rattle.std.proofs.Common.{◌∙◌, ◌++◌, ℕ, List, ap₂}
use Rattle.ssim_values.specs.Characters.{two_digits}
use Rattle.ssim_listing.specs.LegText.{columns_text}
use Rattle.ssim_listing.proofs.Joining.{joined}
use Rattle.ssim_listing.proofs.leg_text.push_leg_text.Goals as goal

pub returns : goal.returns
returns c =
    let old = c.args.lines.now.items in
    let s = c.sequence.result in let d = c.columns.result in
    joined old (two_digits s) (columns_text d) c.in_ok-push_sequence.ensures c.in_ok-push_columns.ensures
    ∙ ap₂ (λ (n : ℕ) (e : List ℕ). old ++ (two_digits n ++ columns_text e)) c.sequence.ensures.value c.columns.ensures
