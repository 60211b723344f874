-- Each field comes after a comma, and the row ends.
use Rattle.std.proofs.Common.{◌≡◌, ◌∙◌, ◌++◌, ◌∷◌, ℕ, List, [], ap, append_assoc}
use Rattle.ssim_values.specs.DayMask.{digits_of}
use Rattle.ssim_base.specs.Export.{line}
use Rattle.ssim_listing.specs.Rows.{iso_date}
use Rattle.ssim_program.proofs.print.sub_rows.push_period_fields.Goals as goal

joined : (rows first last days : List ℕ)
    → (((((((rows ++ 44 ∷ []) ++ first) ++ 44 ∷ []) ++ last) ++ 44 ∷ []) ++ days) ++ 10 ∷ [])
    ≡ rows ++ line (44 ∷ first ++ 44 ∷ last ++ 44 ∷ days)
joined rows first last days = simp (append_assoc)

pub returns : goal.returns
returns c =
    let first = iso_date c.args.period.now.first in
    let last = iso_date c.args.period.now.last in
    let days = digits_of c.args.period.now.days in
    let add : (old : List ℕ) (one other : List ℕ) → one ≡ other → old ++ one ≡ old ++ other =
    λ old one other same. ap (λ (text : List ℕ). old ++ text) same in
    let begun = c.in_ok-push.ensures.items in
    let one = c.in_ok-extend_from_slice.ensures.items
    ∙ add c.push.new.self.items _ first (c.iso_date.ensures ∙ ap iso_date c.first.ensures.value)
    ∙ ap (λ (text : List ℕ). text ++ first) begun in
    let two = c.in_ok-push-2.ensures.items ∙ ap (λ (text : List ℕ). text ++ 44 ∷ []) one in
    let three = c.in_ok-extend_from_slice-2.ensures.items
    ∙ add c.push-2.new.self.items _ last (c.iso_date-2.ensures ∙ ap iso_date c.last.ensures.value)
    ∙ ap (λ (text : List ℕ). text ++ last) two in
    let four = c.in_ok-push-3.ensures.items ∙ ap (λ (text : List ℕ). text ++ 44 ∷ []) three in
    let five = c.in_ok-extend_from_slice-3.ensures.items
    ∙ add c.push-3.new.self.items _ days
    (c.as_slice.ensures.value ∙ c.digits.ensures.value ∙ ap digits_of c.mask.ensures.value)
    ∙ ap (λ (text : List ℕ). text ++ days) four in
    c.in_ok-push-4.ensures.items ∙ ap (λ (text : List ℕ). text ++ 10 ∷ []) five
    ∙ joined c.args.rows.now.items first last days
