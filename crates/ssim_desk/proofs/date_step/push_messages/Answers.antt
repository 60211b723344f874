-- The next message's steps are the first of those that were left.
use Rattle.std.proofs.Common.{◌≡◌, ◌++◌, ◌∷◌, ◌+◌, List, [], drop, refl, sym, ap, ◌∙◌, append_assoc}
use Rattle.std.proofs.lemmas.List.{append-nil, drop_all, drop_more}
use Rattle.ssim_base.specs.Timetable.{Legs}
use Rattle.ssim_held.specs.Entries.{Entry}
use Rattle.ssim_desk.specs.DateSteps.{entry_steps, legs_left, sub_steps}
use Rattle.ssim_desk.specs.declared.date_step.DateStep.{DateStep}
use Rattle.ssim_desk.proofs.date_step.push_messages.Goals as goal

pub loop-held-init : goal.loop-held-init
loop-held-init c = (refl, refl)

pub loop-held-preserved : goal.loop-held-preserved
loop-held-preserved c =
    let i = c.loop-held.held-index in let e = c.held-item.result in
    let rows = c.args.rows.now in let flight = c.args.flight in let day = c.args.date.now.day in
    let now = c.loop-held.date.legs in let same = c.loop-held.invariant.0 in
    let steps = sub_steps rows flight day e.reference 1 e.message.subs e.dates now in
    let rest = drop (i + 1) c.args.messages.now in
    let next : drop i c.args.messages.now ≡ e ∷ rest = drop_more c.args.messages.now i e c.loop-held-test.true ∙ ap (λ (x : Entry). x ∷ rest) (sym c.held-item.is) in
    let took : c.push_message.new.steps.items ≡ c.loop-held.steps.items ++ steps =
    c.in_ok-push_message.ensures.steps ∙ ap (λ d. c.loop-held.steps.items ++ sub_steps rows flight d e.reference 1 e.message.subs e.dates now) same in
    let left : c.push_message.new.date.legs ≡ legs_left now steps =
    c.in_ok-push_message.ensures.legs ∙ ap (λ d. legs_left now (sub_steps rows flight d e.reference 1 e.message.subs e.dates now)) same in (
      c.push_message.ensures.day ∙ same,
      ap (λ (xs : List DateStep). xs ++ entry_steps rows flight day rest c.push_message.new.date.legs) took
          ∙ ap (λ (legs : Legs). (c.loop-held.steps.items ++ steps) ++ entry_steps rows flight day rest legs) left
          ∙ append_assoc c.loop-held.steps.items steps (entry_steps rows flight day rest (legs_left now steps))
          ∙ ap (λ (es : List Entry). c.loop-held.steps.items ++ entry_steps rows flight day es now) (sym next)
          ∙ c.loop-held.invariant.1,
    )

pub returns : goal.returns
returns c =
    let rows = c.args.rows.now in let flight = c.args.flight in let day = c.args.date.now.day in
    let none : drop c.loop-held.held-index c.args.messages.now ≡ [] = drop_all c.loop-held.held-index c.args.messages.now c.loop-held-test.false in
    sym (ap (λ (es : List Entry). c.loop-held.steps.items ++ entry_steps rows flight day es c.loop-held.date.legs) none ∙ append-nil c.loop-held.steps.items)
    ∙ c.loop-held.invariant.1
