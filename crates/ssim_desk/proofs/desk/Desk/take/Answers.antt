-- The text is known, or its message is put where it belongs.
use Rattle.std.proofs.Common.{◌≡◌, ◌∙◌, ◌++◌, ℕ, List, Result, Err, drop, take, refl, sym, ap, subst, rules}
use Rattle.ssim_text.specs.declared.reference.Reference.{Reference}
use Rattle.ssim_held.specs.Entries.{AreEntries, AreRising, DeskSeen, Entry, map_of, state_of}
use Rattle.ssim_held.specs.declared.fault.DeskFault.{DeskFault}
use Rattle.ssim_held.proofs.Entries.{not_held}
use Rattle.ssim_desk.specs.clauses.Desk.{ScheduledDesk}
use Rattle.ssim_desk.specs.Desk.{take_answer}
use Rattle.ssim_desk.specs.internal.Changes.{IsOffer, IsReplaced}
use Rattle.ssim_desk.specs.Steps.{IsNew, RefusesText, Takes}
use Rattle.ssim_desk.specs.declared.desk.Took.{Took}
use Rattle.ssim_desk.specs.declared.offer.Offer.{Offer}
use Rattle.ssim_desk.specs.declared.offer.Offer.TheVariants.{New}
use Rattle.ssim_desk.proofs.Changes.{inserted_entries, is_new, known, replayed, rest_of}
use Rattle.ssim_desk.proofs.desk.Desk.take.Goals as goal

pub returns-in_err-offered-clause-takes : goal.returns-in_err-offered-clause-takes
returns-in_err-offered-clause-takes c =
    let desk = c.args.self.now.seen in let text = c.args.text.now in let fault = c.in_err-offered.field-0.0 in
    let refusal : c.from_residual.result ≡ Err fault = search rules in
    let refused = subst (λ (d : ScheduledDesk). RefusesText (state_of d.seen) text fault) c.self.view_is c.in_err-offered.ensures.err in
    subst (λ (r : Result (Took × Reference) DeskFault). Takes (state_of desk) text (take_answer r) (map_of desk.held)) (sym refusal) (refused, refl)

pub returns-in-Known-clause-takes : goal.returns-in-Known-clause-takes
returns-in-Known-clause-takes c =
    let desk = c.args.self.now.seen in let text = c.args.text.now in
    let offer = subst (λ (d : ScheduledDesk). IsOffer (state_of d.seen) d.seen.held text c.in_ok-offered.offered) c.self.view_is c.in_ok-offered.ensures.ok in
    (known (state_of desk) text _ (subst (IsOffer (state_of desk) desk.held text) c.in-Known.is offer), refl)

-- ---- a new message

offer : (desk : DeskSeen) (text : List ℕ) (offered : Offer) (at : ℕ) (new : Entry)
    → offered ≡ New at new → IsOffer (state_of desk) desk.held text offered
    → IsOffer (state_of desk) desk.held text (New at new)
offer desk text offered at new is = subst (IsOffer (state_of desk) desk.held text) is

pub replace_from-requires-clause-entries : goal.replace_from-requires-clause-entries
replace_from-requires-clause-entries c =
    let desk = c.args.self.now.seen in let text = c.args.text.now in let at = c.in-New.at in let new = c.in-New.new in
    let first = subst (λ (d : ScheduledDesk). IsOffer (state_of d.seen) d.seen.held text c.in_ok-offered.offered) c.self.view_is c.in_ok-offered.ensures.ok in
    let its = offer desk text c.in_ok-offered.offered at new c.in-New.is first in
    let held = c.held.ensures.value ∙ ap (λ (d : ScheduledDesk). d.seen.held) c.self.view_is in
    let rest = rest_of c.held.result.now desk.held at new c.in_ok-rest-in-New.rest.items c.insert.new.self.items held
    c.in_ok-rest-in-New.ensures c.in_ok-insert-in-New.ensures.items in
    let are = subst (λ (d : ScheduledDesk). AreEntries d.seen.base.records d.seen.held) c.self.view_is c.held.ensures.kept in
    subst (λ (es : List Entry). AreEntries desk.base.records (take at desk.held ++ es)) (sym rest)
    (inserted_entries desk.base.records desk.held at new are its.0 its.1)

pub returns-in_ok-replace_from-in-New-clause-takes : goal.returns-in_ok-replace_from-in-New-clause-takes
returns-in_ok-replace_from-in-New-clause-takes c =
    let desk = c.args.self.now.seen in let text = c.args.text.now in let at = c.in-New.at in let new = c.in-New.new in
    let rising = subst (λ (d : ScheduledDesk). AreRising d.seen.held) c.self.view_is c.in_ok-offered.ensures.rising in
    let first = subst (λ (d : ScheduledDesk). IsOffer (state_of d.seen) d.seen.held text c.in_ok-offered.offered) c.self.view_is c.in_ok-offered.ensures.ok in
    let its = offer desk text c.in_ok-offered.offered at new c.in-New.is first in
    let held = c.held.ensures.value ∙ ap (λ (d : ScheduledDesk). d.seen.held) c.self.view_is in
    let rest = rest_of c.held.result.now desk.held at new c.in_ok-rest-in-New.rest.items c.insert.new.self.items held
    c.in_ok-rest-in-New.ensures c.in_ok-insert-in-New.ensures.items in
    subst (λ (r : Reference). IsNew (state_of desk) text r (map_of c.replace_from.new.self.seen.held)) (sym c.reference-reference.ensures)
    (is_new desk text new at c.replace_from.new.self.seen.held rising its.0 its.2
    (c.in_ok-replace_from-in-New.ensures.ok.held ∙ ap (λ (es : List Entry). take at desk.held ++ es) rest))

pub returns-in_ok-replace_from-in-New-clause-taken : goal.returns-in_ok-replace_from-in-New-clause-taken
returns-in_ok-replace_from-in-New-clause-taken c = λ _ same.
    let desk = c.args.self.now.seen in let text = c.args.text.now in let at = c.in-New.at in let new = c.in-New.new in
    let rising = subst (λ (d : ScheduledDesk). AreRising d.seen.held) c.self.view_is c.in_ok-offered.ensures.rising in
    let first = subst (λ (d : ScheduledDesk). IsOffer (state_of d.seen) d.seen.held text c.in_ok-offered.offered) c.self.view_is c.in_ok-offered.ensures.ok in
    let gap = (offer desk text c.in_ok-offered.offered at new c.in-New.is first).0 in
    let held = c.held.ensures.value ∙ ap (λ (d : ScheduledDesk). d.seen.held) c.self.view_is in
    let rest = rest_of c.held.result.now desk.held at new c.in_ok-rest-in-New.rest.items c.insert.new.self.items held
    c.in_ok-rest-in-New.ensures c.in_ok-insert-in-New.ensures.items in
    replayed desk c.replace_from.new.self.seen at new (drop at desk.held) gap.within
    (subst (λ (es : List Entry). IsReplaced desk at es c.replace_from.new.self.seen) rest c.in_ok-replace_from-in-New.ensures.ok)
    (not_held desk.held at new.reference rising gap)
