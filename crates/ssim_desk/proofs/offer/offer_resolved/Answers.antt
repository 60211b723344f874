-- The message is looked up among the messages.
use Rattle.std.proofs.Common.{sym, subst}
use Rattle.ssim_held.specs.Held.{DeskState}
use Rattle.ssim_held.specs.Entries.{Entry, map_of}
use Rattle.ssim_desk.specs.internal.Changes.{IsOffer}
use Rattle.ssim_desk.specs.declared.offer.Offer.TheVariants.{New}
use Rattle.ssim_desk.proofs.Changes.{in_conflict, is_entry, is_known, says}
use Rattle.ssim_desk.proofs.offer.offer_resolved.Goals as goal

pub returns-in-Same-clause-ok : goal.returns-in-Same-clause-ok
returns-in-Same-clause-ok c = λ base text spells resolves.
    let state : DeskState = record { base = base; held = map_of c.args.held.now } in
    is_known state text c.args.message c.args.resolved spells resolves c.in-Same.ensures

pub returns-in-Other-clause-err : goal.returns-in-Other-clause-err
returns-in-Other-clause-err c = λ base text spells resolves.
    let state : DeskState = record { base = base; held = map_of c.args.held.now } in let found = c.in-Other.ensures in
    in_conflict state text c.args.message c.args.resolved spells resolves found.0 found.1 found.2

pub returns-in_ok-new-in-Absent-clause-ok : goal.returns-in_ok-new-in-Absent-clause-ok
returns-in_ok-new-in-Absent-clause-ok c = λ base text spells resolves.
    let state : DeskState = record { base = base; held = map_of c.args.held.now } in
    subst (λ (e : Entry). IsOffer state c.args.held.now text (New c.in-Absent.at e)) (sym c.in_ok-new-in-Absent.ensures)
    (c.in-Absent.ensures, is_entry state text c.args.message c.args.resolved spells resolves, says state text c.args.message c.args.resolved spells resolves)
