-- The group of the leg's line, or another group.
use Rattle.std.proofs.Common.{◌∙◌, cond, ℕ, List, Option, Some, refl, ap, option_map}
use Rattle.std.specs.BTreeMap.{get_by, is_at}
use Rattle.std.specs.Cmp.Lexicographic.{slice_cmp}
use Rattle.std.specs.Map.{lookup}
use Rattle.std.specs.Ordering.{nat_cmp}
use Rattle.std.specs.Str.{bytes_eq}
use Rattle.ssim_listing.specs.declared.groups.LegGroup.{LegGroup}
use Rattle.ssim_listing.specs.clauses.Groups.{GroupSeen, grown}
use Rattle.ssim_listing.proofs.GroupMaps.{copied, put_found, put_or_kept}
use Rattle.ssim_listing.proofs.groups.add_leg.Goals as goal

pub returns : goal.returns
returns c = λ other.
    let key = c.args.text.items in
    let leg = c.args.leg.now in
    let old : List ℕ → Option LegGroup =
    λ bs. get_by (λ k. slice_cmp nat_cmp bs k.items) c.args.groups.now in
    let group = c.grown-group.result in
    let seen : LegGroup → GroupSeen = λ g. (g.first.now, g.is_mixed) in
    let group_is = c.grown-group.ensures ∙ ap (grown leg) (copied seen c.get.result ∙ ap (option_map seen) (c.get.ensures.value ∙ ap old c.as_slice.ensures.value)) in
    ap (λ es. option_map seen (lookup (is_at (λ k. slice_cmp nat_cmp other k.items)) es))
    c.in_ok-insert.ensures.entries
    ∙ (ap (option_map seen) (put_found c.args.groups.now.entries c.args.text group other)
    ∙ put_or_kept seen leg group old key other group_is (bytes_eq key other) refl)
