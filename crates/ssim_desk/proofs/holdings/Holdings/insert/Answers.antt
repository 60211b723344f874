-- The messages with one more are those of a desk.
use Rattle.std.proofs.Common.{sym, subst}
use Rattle.ssim_held.specs.Entries.{AreEntries, DeskSeen, IsEntry}
use Rattle.ssim_held.specs.clauses.Ordered.{Belongs}
use Rattle.ssim_desk.proofs.Changes.{inserted_entries}
use Rattle.ssim_desk.proofs.holdings.Holdings.insert.Goals as goal

pub invariant_of-self-2 : goal.invariant_of-self-2
invariant_of-self-2 c =
    let i = c.self.inside in
    let gap = subst (λ (d : DeskSeen). Belongs d.held c.args.new.reference c.args.at c.args.at) (sym c.self.view_is) c.requires.gap in
    let entry = subst (λ (d : DeskSeen). IsEntry d.base.records c.args.new) (sym c.self.view_is) c.requires.entry in
    subst (AreEntries i.base.records) (sym c.in_ok-insert.ensures.items) (inserted_entries i.base.records i.held.items c.args.at c.args.new c.self.invariant gap entry)
