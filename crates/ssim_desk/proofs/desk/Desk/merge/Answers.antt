-- What the merge brings was applied.
use Rattle.std.proofs.Common.{◌≡◌, ◌≤◌, inl, List, None, length, subst}
use Rattle.std.specs.FinMap.{get}
use Rattle.ssim_held.specs.Entries.{Entry, map_of}
use Rattle.ssim_desk.specs.clauses.Desk.{ScheduledDesk}
use Rattle.ssim_desk.specs.internal.Changes.{MergeBrings, IsChange, IsReplaced}
use Rattle.ssim_desk.proofs.Changes.{replayed}
use Rattle.ssim_desk.proofs.desk.Desk.merge.Goals as goal

pub returns-in_ok-replace_from-in-Some-clause-replayed : goal.returns-in_ok-replace_from-in-Some-clause-replayed
returns-in_ok-replace_from-in-Some-clause-replayed c =
    let h = c.self.inside.holdings in let o = c.other.inside.holdings in let at = c.in-Some.at in
    let b : MergeBrings h o at c.in-Some.rest.items = subst (λ change. IsChange h o change) c.in-Some.is c.in_ok-change.ensures.ok in
    let within = subst (λ (d : ScheduledDesk). at ≤ length d.seen.held) c.self.view_is b.within in
    let absent = subst (λ (d : ScheduledDesk). get (map_of d.seen.held) b.first.reference ≡ None) c.self.view_is b.is_new in
    inl (replayed c.args.self.now.seen c.replace_from.new.self.seen at b.first b.others within
    (subst (λ (es : List Entry). IsReplaced c.args.self.now.seen at es c.replace_from.new.self.seen) b.begins c.in_ok-replace_from-in-Some.ensures.ok) absent)
