-- The key, a blank, the row, the mark and the line end, one after another.
use Rattle.std.proofs.Common.{◌≡◌, ℕ, List, ◌++◌, ◌∙◌, ap, codes, length, arith}
use Rattle.ssim_listing.proofs.Joining.{rest_is}
use Rattle.ssim_listing.specs.Marks.{mark_text}
use Rattle.ssim_listing.specs.clauses.Groups.{group_in, is_mixed}
use Rattle.ssim_page.specs.LegRow.{leg_row}
use Rattle.ssim_page.proofs.Joining.{five_joined}
use Rattle.ssim_page.proofs.flight.PlacedLegPrintedKeyedLegs.print.Goals as goal

pub returns : goal.returns
returns c =
    let key = c.args.legs.now.key.now in let row = leg_row c.args.self.now in
    let mixed = λ (text : List ℕ). is_mixed (group_in c.args.legs.now.groups.now text) in
    let begun = c.push.new.self.items in
    let count : c.len-begin.result ≡ length begun = omega arith in
    let text = rest_is begun row c.deref.result.now c.len-begin.result count
    (c.deref.ensures.value ∙ c.in_ok-push_row.ensures) in
    five_joined c.args.page.now.items key (codes " ") row (mark_text (mixed row)) (codes "\n")
    c.in_ok-extend_from_slice.ensures.items c.in_ok-push.ensures.items
    c.in_ok-push_row.ensures
    (c.in_ok-extend_from_slice-2.ensures.items
    ∙ ap (λ (t : List ℕ). c.push_row.new.lines.items ++ t)
    (c.mark_of.ensures ∙ ap mark_text (c.are_mixed-marked.ensures ∙ ap mixed text)))
    c.in_ok-push-2.ensures.items
