-- The groups mark each leg.
use Rattle.std.proofs.Common.{◌≡◌, ◌++◌, List, ℕ, OnOk, ap, subst}
use Rattle.ssim_listing.specs.clauses.Groups.{group_in, is_mixed}
use Rattle.ssim_listing.proofs.Grouping.{marked_lines}
use Rattle.ssim_listing.proofs.lines.push_pieces.Goals as goal

pub returns : goal.returns
returns c =
    let groups = c.in_ok-groups.groups in
    let mixed = λ (text : List ℕ). is_mixed (group_in groups text) in
    subst (λ (bytes : List ℕ). OnOk c.push_each.result (c.push_each.new.lines.items ≡ c.args.lines.now.items ++ bytes))
    (marked_lines c.args.name.now mixed c.args.pieces.now (λ text. ap is_mixed (c.in_ok-groups.ensures text))) c.push_each.ensures
