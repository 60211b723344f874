-- The message of a text that is new is put where it belongs.
use Rattle.std.proofs.Common.{◌≡◌, Result, Err, refl, sym, subst, rules}
use Rattle.ssim_text.specs.declared.reference.Reference.{Reference}
use Rattle.ssim_held.specs.Entries.{map_of, state_of}
use Rattle.ssim_held.specs.declared.fault.DeskFault.{DeskFault}
use Rattle.ssim_desk.specs.Desk.{take_answer}
use Rattle.ssim_desk.specs.internal.Changes.{IsOffer}
use Rattle.ssim_desk.specs.Steps.{IsNew, Takes}
use Rattle.ssim_desk.specs.declared.desk.Took.{Took}
use Rattle.ssim_desk.proofs.Changes.{is_new, known}
use Rattle.ssim_desk.proofs.holdings.Holdings.take.Goals as goal

pub returns-in_ok-insert-in-New-clause-takes : goal.returns-in_ok-insert-in-New-clause-takes
returns-in_ok-insert-in-New-clause-takes c =
    let desk = c.args.self.now in let text = c.args.text.now in
    let offer = subst (IsOffer (state_of desk) desk.held text) c.in-New.is c.in_ok-offered.ensures.ok in
    subst (λ (r : Reference). IsNew (state_of desk) text r (map_of c.insert.new.self.held)) (sym c.reference-reference.ensures)
    (is_new desk text c.in-New.new c.in-New.at c.insert.new.self.held c.in_ok-offered.ensures.rising offer.0 offer.2 c.in_ok-insert-in-New.ensures.ok)

pub returns-in_err-offered-clause-takes : goal.returns-in_err-offered-clause-takes
returns-in_err-offered-clause-takes c =
    let desk = c.args.self.now in let text = c.args.text.now in let fault = c.in_err-offered.field-0.0 in
    let refusal : c.from_residual.result ≡ Err fault = search rules in
    subst (λ (r : Result (Took × Reference) DeskFault). Takes (state_of desk) text (take_answer r) (map_of desk.held)) (sym refusal) (c.in_err-offered.ensures.err, refl)

pub returns-in-Known-clause-takes : goal.returns-in-Known-clause-takes
returns-in-Known-clause-takes c =
    let desk = c.args.self.now in let text = c.args.text.now in
    (known (state_of desk) text c.in-Known.reference (subst (IsOffer (state_of desk) desk.held text) c.in-Known.is c.in_ok-offered.ensures.ok), refl)

pub insert-requires-clause-gap : goal.insert-requires-clause-gap
insert-requires-clause-gap c =
    let desk = c.args.self.now in
    (subst (IsOffer (state_of desk) desk.held c.args.text.now) c.in-New.is c.in_ok-offered.ensures.ok).0

pub insert-requires-clause-entry : goal.insert-requires-clause-entry
insert-requires-clause-entry c =
    let desk = c.args.self.now in
    (subst (IsOffer (state_of desk) desk.held c.args.text.now) c.in-New.is c.in_ok-offered.ensures.ok).1
