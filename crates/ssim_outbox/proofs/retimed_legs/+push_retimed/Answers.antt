-- The line of a leg with other times comes before those of the later legs.
use Rattle.std.proofs.Common.{◌≡◌, ◌++◌, ◌∙◌, ℕ, Bool, if◌then◌else◌, List, [], ◌∷◌, ap, append_assoc}
use Rattle.std.proofs.Common.{append-nil, arith, length, refl, subst, sym}
use Rattle.std.specs.List.{AllZip}
use Rattle.std.proofs.lemmas.Result.{on_ok_weaker}
use Rattle.ssim_text.specs.declared.leg.LegLine.{LegLine}
use Rattle.ssim_base.specs.Timetable.{Legs}
use Rattle.ssim_outbox.specs.Route.{same_times}
use Rattle.ssim_outbox.specs.internal.ColumnLines.{HasLine, retimed_columns}
use Rattle.ssim_outbox.proofs.Zipped.{first, none}
use Rattle.ssim_outbox.proofs.retimed_legs.+push_retimed.Goals as goal

-- nothing is added where no leg has other times
no_more : (lines all : List LegLine) (columns : List (List ℕ)) → columns ≡ []
    → AllZip HasLine all columns → lines ≡ lines ++ all
no_more lines all columns is h =
    sym (append-nil lines)
    ∙ ap (λ (x : List LegLine). lines ++ x) (sym (none HasLine all (subst (AllZip HasLine all) is h)))

empty : {X : Type 0} (xs : List X) → length xs ≡ 0 → xs ≡ []
empty [] h = refl
empty (x ∷ xs) h = absurd (omega (arith, h))

pub returns-in-None-clause-found : goal.returns-in-None-clause-found
returns-in-None-clause-found t c = λ all h.
    no_more c.args.lines.now.items all (retimed_columns c.args.old.now c.args.new.now)
    (ap (λ (old : Legs). retimed_columns old c.args.new.now) (empty c.args.old.now c.in-None.ensures.cases)) h

pub returns-in-None-split_first-clause-found : goal.returns-in-None-split_first-clause-found
returns-in-None-split_first-clause-found t c = λ all h.
    no_more c.args.lines.now.items all (retimed_columns c.args.old.now c.args.new.now)
    (λ i. retimed_columns (c.in-Some.ensures.cases.0 i) (empty c.args.new.now c.in-None-split_first.ensures.cases i)) h

pub returns-in_ok-push_leg_line-in-Some-split_first-clause-found :
    goal.returns-in_ok-push_leg_line-in-Some-split_first-clause-found
returns-in_ok-push_leg_line-in-Some-split_first-clause-found t c = λ all h.
    let lines = c.args.lines.now.items in
    let leg = c.in-Some-split_first.new_leg.now in
    let olds = c.in-Some.old.now in
    let news = c.in-Some-split_first.new.now in
    let other = sym (c.have_same_times.ensures
    ∙ (λ i. same_times (c.columns.ensures i) (c.columns-in-Some-split_first.ensures i)))
    ∙ c.if-have_same_times.false in
    let columns = (λ i. retimed_columns (c.in-Some.ensures.cases.0 i)
    (c.in-Some-split_first.ensures.cases.0 i))
    ∙ ap (λ (b : Bool). if b then retimed_columns olds news else leg.columns ∷ retimed_columns olds news)
    other in
    let f = first HasLine all leg.columns (retimed_columns olds news)
    (subst (AllZip HasLine all) columns h) in
    let pushed = c.in_ok-push_leg_line-in-Some-split_first.ensures.found f.x
    (subst (HasLine f.x) (sym c.columns-in-Some-split_first-2.ensures) f.has) in
    on_ok_weaker c.push_retimed-in-Some-split_first.result
    (λ e. e ∙ ap (λ (x : List LegLine). x ++ f.later) pushed ∙ append_assoc lines (f.x ∷ []) f.later
    ∙ ap (λ (x : List LegLine). lines ++ x) (sym f.whole_is))
    (c.push_retimed-in-Some-split_first.ensures.found f.later f.later_have)
