-- Two blanks, the leg, its mark and the line end, one after another.
use Rattle.std.proofs.Common.{◌≡◌, ◌∙◌, ◌++◌, ◌∷◌, [], List, ℕ, ap, length, arith}
use Rattle.ssim_listing.specs.LegText.{leg_text}
use Rattle.ssim_listing.specs.Marks.{mark_text}
use Rattle.ssim_listing.specs.clauses.Groups.{group_in, is_mixed}
use Rattle.ssim_listing.proofs.Joining.{joined, rest_is}
use Rattle.ssim_listing.proofs.lines.PlacedLegPrintedMarks.print.Goals as goal

pub returns : goal.returns
returns c =
    let old = c.args.lines.now.items in
    let leg = leg_text c.args.self.now in
    let blanks = 32 ∷ 32 ∷ [] in
    let begun = c.extend_from_slice.new.self.items in
    let mark = c.mark_of.result.now in
    let count : c.len-begin.result ≡ length begun = omega arith in
    let text = rest_is begun leg c.deref.result.now c.len-begin.result count (c.deref.ensures.value ∙ c.in_ok-push_leg_text.ensures) in
    joined old ((blanks ++ leg) ++ mark) (10 ∷ [])
    (joined old (blanks ++ leg) mark (joined old blanks leg c.in_ok-extend_from_slice.ensures.items c.in_ok-push_leg_text.ensures) c.in_ok-extend_from_slice-2.ensures.items)
    c.in_ok-push.ensures.items
    ∙ ap (λ (m : List ℕ). old ++ ((32 ∷ 32 ∷ leg ++ m) ++ 10 ∷ []))
    (c.mark_of.ensures ∙ ap mark_text (c.are_mixed-marked.ensures ∙ ap (λ (t : List ℕ). is_mixed (group_in c.args.marks.now.groups t)) text))
