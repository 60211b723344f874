-- One message more.
use Rattle.std.proofs.Common.{◌≡◌, ◌∙◌, ◌+◌, ℕ, List, [], ◌∷◌, drop, refl, sym, ap}
use Rattle.std.proofs.lemmas.List.{drop_all, drop_more}
use Rattle.ssim_periods.proofs.DayLemmas.{each_day-same}
use Rattle.ssim_base.specs.Timetable.{Legs}
use Rattle.ssim_held.specs.Entries.{Entry}
use Rattle.ssim_desk.specs.DateSteps.{entry_steps, legs_left, sub_steps}
use Rattle.ssim_blame.specs.declared.made.MadeItinerary.{MadeItinerary}
use Rattle.ssim_blame.specs.internal.Made.{after_steps}
use Rattle.ssim_blame.proofs.Acted.{steps_leave, steps_more}
use Rattle.ssim_blame.proofs.acting.act_all.Goals as goal

pub loop-held-init : goal.loop-held-init
loop-held-init c = λ before is. (before, is, λ n. refl)

pub loop-held-preserved : goal.loop-held-preserved
loop-held-preserved c = λ before is.
    let rows = c.args.acting.now.rows.now in let flight = c.args.acting.now.flight in
    let i = c.loop-held.held-index in let e = c.held-item.result in
    let so_far = c.loop-held.invariant before is in
    let now = so_far.0 in
    let rest = drop (i + 1) c.args.messages.now in
    let next : drop i c.args.messages.now ≡ e ∷ rest =
    drop_more c.args.messages.now i e c.loop-held-test.true
    ∙ ap (λ (x : Entry). x ∷ rest) (sym c.held-item.is) in
    let steps = λ (n : ℕ). sub_steps rows flight n e.reference 1 e.message.subs e.dates
    (now n).itinerary in
    let after = λ (n : ℕ). after_steps (now n) (steps n) in (
      after,
      c.in_ok-act.ensures now so_far.1,
      λ n. ap (λ (legs : Legs). after_steps (after n) (entry_steps rows flight n rest legs))
          (ap (λ (m : MadeItinerary). m.itinerary) (steps_leave (now n) (steps n)))
          ∙ sym (steps_more (now n) (steps n) (entry_steps rows flight n rest
          (legs_left (now n).itinerary (steps n))))
          ∙ ap (λ (es : List Entry). after_steps (now n)
          (entry_steps rows flight n es (now n).itinerary)) (sym next)
          ∙ so_far.2 n,
    )

pub returns : goal.returns
returns c = λ before is.
    let rows = c.args.acting.now.rows.now in let flight = c.args.acting.now.flight in
    let so_far = c.loop-held.invariant before is in
    let now = so_far.0 in
    let none : drop c.loop-held.held-index c.args.messages.now ≡ [] =
    drop_all c.loop-held.held-index c.args.messages.now c.loop-held-test.false in
    so_far.1
    ∙ each_day-same now (λ n. after_steps (before n)
    (entry_steps rows flight n c.args.messages.now (before n).itinerary))
    (λ n within. sym (ap (λ (es : List Entry). after_steps (now n)
    (entry_steps rows flight n es (now n).itinerary)) none)
    ∙ so_far.2 n)
