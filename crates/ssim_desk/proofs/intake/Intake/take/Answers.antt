-- The message of a text is held by its reference.
use Rattle.std.proofs.Common.{rules, ◌≡◌, Result, Err, refl, sym, subst}
use Rattle.ssim_text.specs.declared.reference.Reference.{Reference}
use Rattle.ssim_held.specs.Entries.{DeskSeen, map_of, state_of}
use Rattle.ssim_held.specs.clauses.Pages.{all_of}
use Rattle.ssim_held.specs.declared.fault.DeskFault.{DeskFault}
use Rattle.ssim_held.proofs.Resolving.{each_dated}
use Rattle.ssim_desk.specs.Desk.{take_answer}
use Rattle.ssim_desk.specs.Steps.{Takes}
use Rattle.ssim_desk.specs.declared.desk.Took.{Took}
use Rattle.ssim_desk.proofs.intake.Intake.take.Goals as goal

pub returns-in_err-message-clause-takes : goal.returns-in_err-message-clause-takes
returns-in_err-message-clause-takes c =
    let i = c.self.inside in
    let desk : DeskSeen = record { base = i.base; held = all_of i.pages; applied = 0 } in
    let refusal : c.from_residual.result ≡ Err c.in_err-message.field-0.0 = search rules in
    subst (λ (r : Result (Took × Reference) DeskFault). Takes (state_of c.args.self.now) c.args.text.now (take_answer r) (map_of c.args.self.now.held)) (sym refusal)
    (subst (λ (d : DeskSeen). Takes (state_of d) c.args.text.now (take_answer (Err c.in_err-message.field-0.0)) (map_of d.held)) c.self.view_is
    (c.in_err-message.ensures.err (state_of desk) c.frame.ensures, refl))

pub hold-requires-clause-dated : goal.hold-requires-clause-dated
hold-requires-clause-dated c =
    let i = c.self.inside in
    each_dated i.base.records c.in_ok-message.message c.in_ok-message.resolved (c.in_ok-message.ensures.ok i.base.records c.frame.ensures).1

pub invariant_of-self : goal.invariant_of-self
invariant_of-self c =
    let i = c.self.inside in
    c.hold.ensures.entries i.base.records (c.in_ok-message.ensures.ok i.base.records c.frame.ensures).1 c.self.invariant

pub returns-clause-takes : goal.returns-clause-takes
returns-clause-takes c =
    let i = c.self.inside in
    let text = c.args.text.now in
    let read = c.in_ok-message.ensures.ok i.base.records c.frame.ensures in
    subst (λ (d : DeskSeen). Takes (state_of d) text (take_answer c.hold.result) (map_of (all_of c.hold.new.pages))) c.self.view_is (c.hold.ensures.takes i.base text read.0 read.1)
