-- The text is offered to the messages that are held.
use Rattle.std.proofs.Common.{List, IfErr, IfOk, sym, subst}
use Rattle.ssim_held.specs.Entries.{AreEntries, AreRising, DeskSeen, Entry, map_of, state_of}
use Rattle.ssim_desk.specs.internal.Changes.{IsOffer}
use Rattle.ssim_desk.specs.Steps.{RefusesText}
use Rattle.ssim_desk.proofs.holdings.Holdings.offer.Goals as goal

pub offer_over-requires : goal.offer_over-requires
offer_over-requires c =
    let i = c.self.inside in (i.base.records, c.frame.ensures, subst (AreEntries i.base.records) (sym c.deref.ensures.value) c.self.invariant)

pub returns-clause-ok : goal.returns-clause-ok
returns-clause-ok c =
    let base = c.self.inside.base in
    subst (λ (d : DeskSeen). IfOk c.offer_over.result (IsOffer (state_of d) d.held c.args.text.now)) c.self.view_is
    (subst (λ (es : List Entry). IfOk c.offer_over.result (IsOffer (record { base = base; held = map_of es }) es c.args.text.now)) c.deref.ensures.value (c.offer_over.ensures.ok base c.frame.ensures))

pub returns-clause-err : goal.returns-clause-err
returns-clause-err c =
    let base = c.self.inside.base in
    subst (λ (d : DeskSeen). IfErr c.offer_over.result (RefusesText (state_of d) c.args.text.now)) c.self.view_is
    (subst (λ (es : List Entry). IfErr c.offer_over.result (RefusesText (record { base = base; held = map_of es }) c.args.text.now)) c.deref.ensures.value (c.offer_over.ensures.err base c.frame.ensures))

pub returns-clause-rising : goal.returns-clause-rising
returns-clause-rising c = subst (λ (d : DeskSeen). AreRising d.held) c.self.view_is c.self.invariant.rising
